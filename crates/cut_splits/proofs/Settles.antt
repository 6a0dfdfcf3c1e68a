-- One machine settled, as the code has it: each way out.
use Prim.Native.Nat.{ℕ, ◌<◌}
use mathlib.Core.Path.{◌≡◌, refl}
use mathlib.Core.Logic.{◌≢◌}
use mathlib.Core.List.{List, [], ◌∷◌}
use mathlib.Core.Option.{none, some}
use mathlib.Core.Bool.{Bool, true, false, false≢true}
use lib.ListN.{length, get_or}
use Rattle.types.specs.Numbers.{Shard, Id, Epoch}
use Rattle.types.specs.Places.{is_seated_on, is_observing, moved_to, seated_from_watch}
use Rattle.types.specs.declared.Place.{Place}
use Rattle.types.specs.declared.Place.TheVariants.{Pooled, Seated, Observing, Short, Other}
use Rattle.rules.specs.Table.{Table, at}
use Rattle.rules.specs.Board.{Seat, Board, epoch_of}
use Rattle.rules.specs.WellFormed.{well_formed}
use Rattle.rules.specs.Moves.{may_join, put_on}
use Rattle.rules.specs.Cut.{settle}
use Rattle.tables.specs.Rows.{Rising, key_of}
use Rattle.tables.proofs.Keys.{at_is}
use Rattle.board.specs.Held.{Holds, no_machine, no_seat}
use Rattle.board.proofs.Keyed.{machines_rise}
use Rattle.arriving.proofs.Comes.{not_both, comes_at, put_as}
use Rattle.arriving.specs.Coming.{MayCome}

watches_only : (c : Shard) (p : Place) → is_observing p ≡ true → is_seated_on c p ≡ false
watches_only c Pooled h = refl
watches_only c (Seated s r w) h = absurd (false≢true h)
watches_only c (Observing s w) h = refl
watches_only c Short h = refl
watches_only c (Other m) h = refl

-- one that is not seated there yet may come
module _ (b : Board) (ok : well_formed b ≡ true) (c : Shard) (x : Id) (row : ℕ) (l : row < length b.machines) (e : (get_or b.machines row no_machine).key ≡ x) (m : MayCome c x b) where
  pub may_move : (t : Shard) → c ≢ t → is_seated_on t (get_or b.machines row no_machine).val ≡ true → may_join c ((get_or b.machines row no_machine).key ∷ []) b ≡ true
  may_move t n y = comes_at b ok c x row l e m (not_both c t (get_or b.machines row no_machine).val n y)

  pub may_sit : is_observing (get_or b.machines row no_machine).val ≡ true → may_join c ((get_or b.machines row no_machine).key ∷ []) b ≡ true
  may_sit w = comes_at b ok c x row l e m (watches_only c (get_or b.machines row no_machine).val w)

module _ (b : Board) (ok : well_formed b ≡ true) (after : List ℕ) (t c : Shard) (seats : Table Seat) (x : Id) where
  pub unknown : at x b.machines ≡ none → Holds after b → Holds after (settle t c seats x b)
  unfolding settle
  unknown n h = rw (n, settle) h

  module _ (row : ℕ) (l : row < length b.machines) (s : (get_or b.machines row no_machine).key ≡ x) where
    abbrev here : Place
    here = (get_or b.machines row no_machine).val

    there : at x b.machines ≡ some here
    there = at_is b.machines (machines_rise b ok) x row no_machine l s

    module _ (y : is_seated_on t here ≡ true) where
      pub moved : (p : Place) → p ≡ moved_to c here → Holds after (put_on c (λ q. p) (get_or b.machines row no_machine).key b) → Holds after (settle t c seats x b)
      unfolding settle
      moved p e h = rw (there, settle, y) (put_as b ok c x (moved_to c) p row l s e after h)

    module _ (y : is_seated_on t here ≡ false) where
      pub no_seat_lem : at x seats ≡ none → Holds after b → Holds after (settle t c seats x b)
      unfolding settle
      no_seat_lem n h = rw (there, settle, y, n) h

      module _ (k : ℕ) (m : k < length seats) (g : (get_or seats k no_seat).key ≡ x) (r : Rising key_of seats) where
        abbrev seat : Seat
        seat = (get_or seats k no_seat).val

        seat_there : at x seats ≡ some seat
        seat_there = at_is seats r x k no_seat m g

        pub not_watching : is_observing here ≡ false → Holds after b → Holds after (settle t c seats x b)
        unfolding settle
        not_watching w h = rw (there, settle, y, seat_there, w) h

        module _ (w : is_observing here ≡ true) where
          pub sits : (p was : Place) (ready : Bool) (now : Epoch) → was ≡ here → ready ≡ seat.ready → now ≡ epoch_of b → p ≡ seated_from_watch c ready now was
              → Holds after (put_on c (λ q. p) (get_or b.machines row no_machine).key b) → Holds after (settle t c seats x b)
          unfolding settle
          sits p was ready now ew er en e h =
              let v : p ≡ seated_from_watch c seat.ready (epoch_of b) here = rw (ew, er, en) at e in
              rw (there, settle, y, seat_there, w) (put_as b ok c x (seated_from_watch c seat.ready (epoch_of b)) p row l s v after h)
