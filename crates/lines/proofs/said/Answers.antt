use Rattle.std.proofs.Common.{ℕ, take, ap, ◌∙◌}
use Rattle.lines.proofs.Lays.{take_within}
use Rattle.lines.proofs.said.Goals as goal

pub returns : goal.returns
returns c = let a = c.args in ap (λ (n : ℕ). take n a.line.now) c.min.ensures ∙ take_within a.at a.line.now
