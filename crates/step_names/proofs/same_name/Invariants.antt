use Prim.Native.Nat.{◌≤◌}
use mathlib.Core.Path.{◌≡◌}
use lib.ListN.{length, drop}
use Rattle.step_names.specs.Names.{same_name}
use Rattle.step_names.proofs.same_name.Given as goal

abbrev pub invariant-loop-i : goal.invariant-loop-i
invariant-loop-i l = (l.i ≤ length l.word) × (length l.word ≡ length l.name) × (same_name l.word l.name ≡ same_name (drop l.i l.word) (drop l.i l.name))
