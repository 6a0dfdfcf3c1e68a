-- The moves on one machine, as the code has them at its row.
use Prim.Native.Nat.{ℕ, ◌<◌}
use mathlib.Core.Path.{◌≡◌, refl}
use mathlib.Core.Bool.{true}
use mathlib.Core.List.{List}
use lib.ListN.{length, get_or, set}
use Rattle.types.specs.Numbers.{Id}
use Rattle.types.specs.Places.{drawn_to}
use Rattle.types.specs.declared.Place.{Place}
use Rattle.rules.specs.Table.{entry}
use Rattle.rules.specs.Board.{Board, on_machines, epoch_of}
use Rattle.rules.specs.Moves.{members_of, place, may_join, join, put_on}
use Rattle.tables.specs.Rows.{Rising, key_of}
use Rattle.tables.proofs.Keys.{update_is_set}
use Rattle.board.specs.Held.{Holds, no_machine}

pub placed : (after : List ℕ) (b : Board) (i : ℕ) (p : Place) (id : ℕ) → Rising key_of b.machines → i < length b.machines → id ≡ (get_or b.machines i no_machine).key
    → Holds after (on_machines (λ t. set t i (entry id p)) b) → Holds after (place (get_or b.machines i no_machine).key (λ q. p) b)
unfolding place
placed after b i p id r l e h = rw (update_is_set b.machines r (get_or b.machines i no_machine).key i no_machine l refl (λ q. p)) (rw e at h)

-- a place asks nothing of the committees
module _ (x : ℕ) (f : Place → Place) (b : Board) where
  pub placed_rise : Rising key_of b.committees → Rising key_of (place x f b).committees
  unfolding place
  placed_rise r = r

  pub placed_may : (s : ℕ) (ids : List Id) → may_join s ids b ≡ true → may_join s ids (place x f b) ≡ true
  unfolding place members_of may_join
  placed_may s ids m = m

pub seated : (after : List ℕ) (b : Board) (s x id e : ℕ) (p : Place) → id ≡ x → e ≡ epoch_of b → p ≡ drawn_to s e p
    → Holds after (join s id (place x (λ q. p) b)) → Holds after (put_on s (drawn_to s (epoch_of b)) x b)
unfolding put_on
seated after b s x id e p i n q h = rw (q, n, i) at h
