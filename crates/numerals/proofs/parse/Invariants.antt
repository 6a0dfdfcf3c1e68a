use mathlib.Core.Path.{◌≡◌}
use Prim.Native.Nat.{◌≤◌}
use lib.ListN.{drop}
use Rattle.numerals.specs.Decimal.{last_number, value_from, in_word, decimal_of}
use Rattle.numerals.proofs.parse.Given as goal

abbrev pub invariant-loop-b : goal.invariant-loop-b
invariant-loop-b l = (decimal_of l.text ≡ in_word (value_from l.v (drop l.b-index l.text))) × (l.v ≤ last_number)
