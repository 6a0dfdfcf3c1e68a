use Prim.Native.Nat.{◌+◌, ◌*◌, ◌≤◌}
use mathlib.Core.Path.{◌≡◌}
use lib.ListN.{length, drop}
use Rattle.bytes_words.specs.Laid.{laid}
use Rattle.bytes_words.proofs.put_words.Given as goal

abbrev pub invariant-loop-i : goal.invariant-loop-i
invariant-loop-i l = (l.at + length l.ws * 8 ≤ length l.initial.out) × (length l.out ≡ length l.initial.out) × (laid (drop l.i l.ws) (l.at + l.i * 8) l.out ≡ laid l.ws l.at l.initial.out)
