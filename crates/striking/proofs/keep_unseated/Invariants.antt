use Prim.Native.Nat.{ℕ, ◌≤◌, ◌<◌}
use mathlib.Core.Path.{◌≡◌}
use mathlib.Core.Bool.{Bool, not}
use lib.ListN.{length, get_or}
use Rattle.rules.specs.Table.{stands}
use Rattle.rules.specs.Board.{Board, most_members}
use Rattle.tables.specs.Rows.{Rising, key_of}
use Rattle.board.specs.Held.{Holds, no_committee, no_reshape}
use Rattle.striking.proofs.Sifting.{Halfway}
use Rattle.striking.proofs.keep_unseated.Given as goal

abbrev pub unseated : ℕ → Board → ℕ → Bool
unseated i b x = not (stands x (get_or b.reshapes i no_reshape).val.seats)

abbrev pub invariant-loop-m : goal.invariant-loop-m
invariant-loop-m l = (l.k ≤ l.m) × (l.m ≤ l.n) × (l.n ≤ most_members) × (length l.board ≡ length l.initial.board)
    × ((b : Board) → Holds l.initial.board b → l.j < length b.committees → (l.n ≡ length (get_or b.committees l.j no_committee).val) × (l.i < length b.reshapes → Rising key_of (get_or b.reshapes l.i no_reshape).val.seats → Halfway (unseated l.i b) b l.j l.m l.k l.board))
