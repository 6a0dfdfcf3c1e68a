-- Mark seat ready, as the code has it: each way out.
use mathlib.Core.Path.{◌≡◌, subst, ◌∙◌}
use mathlib.Core.List.{List}
use mathlib.Core.Option.{none}
use mathlib.Core.Bool.{true, false}
use Prim.Native.Nat.{ℕ, ◌<◌}
use lib.ListN.{length, get_or, set}
use Rattle.types.specs.declared.Answer.TheVariants.{Done, OutOfRange, NotThere}
use Rattle.types.specs.declared.Outcome.{Outcome}
use Rattle.rules.specs.Table.{Entry, entry, is_some, at, stands, holds_at, update}
use Rattle.rules.specs.Board.{Seat, Board, on_reshapes}
use Rattle.rules.specs.WellFormed.{is_target, well_formed}
use Rattle.rules.specs.Moves.{with_seats}
use Rattle.rules.specs.Turns.{checked, alone}
use Rattle.rules.specs.Reshapes.{ready_seat, has_seat, mark_seat_ready}
use Rattle.rules.proofs.KeptTables.{holds_at_lem}
use Rattle.tables.proofs.Keys.{at_is}
use Rattle.board.specs.Held.{Holds, no_reshape, no_seat}
use Rattle.board.specs.Leaves.{change_at}
use Rattle.board.proofs.Keyed.{update_is_change, reshapes_rise, seats_rise}
use Rattle.steps.specs.Inner.{outcome, Step}

-- the seat at k, as the leaves write it
pub seat_made : (b : Board) (i k : ℕ) (ws : List ℕ) (e : Entry Seat) → e ≡ get_or (get_or b.reshapes i no_reshape).val.seats k no_seat
    → Holds ws (on_reshapes (change_at no_reshape i (with_seats (λ t. set t k (entry e.key (ready_seat e.val))))) b)
    → Holds ws (on_reshapes (change_at no_reshape i (with_seats (change_at no_seat k ready_seat))) b)
seat_made b i k ws e q h = subst (λ (v : Entry Seat). Holds ws (on_reshapes (change_at no_reshape i (with_seats (λ t. set t k (entry v.key (ready_seat v.val))))) b)) q h

module _ (b : Board) (ok : well_formed b ≡ true) (after : List ℕ) (r : Outcome) (t x : ℕ) where
  pub no_target : is_target t ≡ false → Holds after b → r ≡ outcome OutOfRange 0 0 → Step (mark_seat_ready t x) b after r
  unfolding mark_seat_ready alone checked
  no_target n h e = record { told = rw (ok, n) e; left = rw (ok, n) h }

  module _ (y : is_target t ≡ true) where
    not_there : has_seat t x b ≡ false → Holds after b → r ≡ outcome NotThere 0 0 → Step (mark_seat_ready t x) b after r
    unfolding mark_seat_ready alone checked
    not_there n h e = record { told = rw (ok, y, n) e; left = rw (ok, y, n) h }

    pub no_reshape_lem : at t b.reshapes ≡ none → Holds after b → r ≡ outcome NotThere 0 0 → Step (mark_seat_ready t x) b after r
    unfolding has_seat holds_at
    no_reshape_lem n h e = not_there (rw (n, holds_at)) h e

    module _ (i : ℕ) (here : i < length b.reshapes) (named : (get_or b.reshapes i no_reshape).key ≡ t) where
      seat_is : has_seat t x b ≡ is_some (at x (get_or b.reshapes i no_reshape).val.seats)
      unfolding has_seat stands
      seat_is = holds_at_lem t _ b.reshapes _ (at_is b.reshapes (reshapes_rise b ok) t i no_reshape here named)

      pub no_seat_lem : at x (get_or b.reshapes i no_reshape).val.seats ≡ none → Holds after b → r ≡ outcome NotThere 0 0 → Step (mark_seat_ready t x) b after r
      unfolding is_some
      no_seat_lem n h e = not_there (seat_is ∙ rw n) h e

      module _ (k : ℕ) (seated : k < length (get_or b.reshapes i no_reshape).val.seats) (own : (get_or (get_or b.reshapes i no_reshape).val.seats k no_seat).key ≡ x) where
        pub made_ready_lem : Holds after (on_reshapes (change_at no_reshape i (with_seats (change_at no_seat k ready_seat))) b) → r ≡ outcome Done 1 0 → Step (mark_seat_ready t x) b after r
        unfolding mark_seat_ready alone checked is_some
        made_ready_lem h e =
            let seats = (get_or b.reshapes i no_reshape).val.seats in
            let q : has_seat t x b ≡ true = seat_is ∙ rw (at_is seats (seats_rise b ok i here) x k no_seat seated own) in
            record {
              told = rw (ok, y, q) e;
              left =
                  rw (
                    ok,
                    y,
                    q,
                    update_is_change b.reshapes (reshapes_rise b ok) t i no_reshape here named (with_seats (update x ready_seat)),
                    update_is_change seats (seats_rise b ok i here) x k no_seat seated own ready_seat,
                  ) h;
            }
