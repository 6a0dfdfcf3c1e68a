use Prim.Native.Nat.{◌-◌, ◌≤◌}
use mathlib.Core.Path.{◌≡◌}
use lib.ListN.{length, drop}
use Rattle.templates.specs.Lines.{line_of}
use Rattle.templates.proofs.line_at.Given as goal

abbrev pub invariant-loop-passed : goal.invariant-loop-passed
invariant-loop-passed l = (l.s ≤ length l.text) × (line_of (l.k - l._passed) (drop l.s l.text) ≡ line_of l.k l.text)
