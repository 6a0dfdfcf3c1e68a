use Rattle.std.proofs.Common.{◌-◌}
use Rattle.roster_cli.proofs.checks.walk.Given as goal

abbrev pub decreases-loop-k : goal.decreases-loop-k
decreases-loop-k g l = l.n - l.k
