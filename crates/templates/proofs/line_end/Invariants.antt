use Prim.Native.Nat.{◌+◌, ◌≤◌}
use mathlib.Core.Path.{◌≡◌}
use lib.ListN.{length, drop}
use Rattle.templates.specs.Lines.{first_line}
use Rattle.templates.proofs.line_end.Given as goal

abbrev pub invariant-loop-e : goal.invariant-loop-e
invariant-loop-e l = (l.e ≤ length l.text) × (l.e + length (first_line (drop l.e l.text)) ≡ l.at + length (first_line (drop l.at l.text)))
