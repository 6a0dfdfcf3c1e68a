use Prim.Native.Nat.{◌+◌}
use mathlib.Core.Path.{◌≡◌}
use lib.ListN.{length, drop}
use Rattle.numerals.specs.Pieces.{run_of}
use Rattle.numerals.proofs.piece_end.Given as goal

abbrev pub invariant-loop-e : goal.invariant-loop-e
invariant-loop-e l = (l.e + length (run_of (drop l.e l.text)) ≡ l.at + length (run_of (drop l.at l.text)))
