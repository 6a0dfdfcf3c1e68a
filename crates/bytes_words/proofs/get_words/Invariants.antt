use Prim.Native.Nat.{◌+◌, ◌*◌, ◌≤◌}
use mathlib.Core.Path.{◌≡◌}
use lib.ListN.{length}
use Rattle.bytes_words.proofs.Gets.{got}
use Rattle.bytes_words.proofs.get_words.Given as goal

abbrev pub invariant-loop-i : goal.invariant-loop-i
invariant-loop-i l = (l.at + length l.initial.out * 8 ≤ length l.bytes) × (length l.out ≡ length l.initial.out) × (l.out ≡ got l.bytes l.at l.initial.out l.i)
