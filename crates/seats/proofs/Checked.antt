-- Each clause of the seat check as the code joins them, and what the check tells of any words.
use Prim.Native.Nat.{ℕ, ◌<◌}
use mathlib.Core.Path.{◌≡◌, refl, ap, sym, ◌∙◌}
use mathlib.Core.List.{List}
use mathlib.Core.Bool.{Bool, true, false, ◌&&◌, false≢true}
use lib.ListN.{length, get_or}
use Rattle.types.specs.Numbers.{Shard}
use Rattle.rules.specs.Lists.{◌and◌, all_of}
use Rattle.rules.specs.Table.{Entry, keys_of}
use Rattle.rules.specs.Board.{merge, Reshape, Board, most_reshapes}
use Rattle.rules.specs.WellFormed.{is_target, key_before, good_reshape, well_formed}
use Rattle.rules.specs.Moves.{is_kind, committees_fit, bounds_stand}
use Rattle.rules.specs.SeatCheck.{members_are_there, machines_are_listed, cohorts_watch, rotations_fit, scheduled_fit, families_apart, reshapes_stand, seat_check}
use Rattle.rules.proofs.Tests.{all_parts}
use Rattle.rules.proofs.SeatsKept.{seat_check_formed}
use Rattle.tables.proofs.Bools.{and_is}
use Rattle.board.specs.Held.{no_reshape}
use Rattle.board.specs.Permitted.{WellHeld}
use Rattle.board.proofs.One.{list_good, one_board}
use Rattle.board.proofs.Fitting.{every_at}
use Rattle.reshapes.specs.Changes.{kind_of}
use Rattle.moves.proofs.Exiting.{kind_told}
use Rattle.seats.specs.Rows.{reshape_stands}
use Rattle.seats.specs.Tells.{TellsSeats}

-- ---- a reshape, asked at its row

pub is_a_target : (b : Board) → well_formed b ≡ true → (i : ℕ) → i < length b.reshapes → is_target (get_or b.reshapes i no_reshape).key ≡ true
unfolding well_formed good_reshape
is_a_target b ok i l =
    (all_parts _ (every_at good_reshape b.reshapes i no_reshape (list_good most_reshapes good_reshape key_before b.reshapes (all_parts _ ok).1.1.1.1.1.0) l)).0

pub stands_is : (b : Board) (e : Entry Reshape) (t : Shard) (m : Bool) → t ≡ e.key → m ≡ is_kind merge e.val → (c d : Bool) → c ≡ committees_fit (kind_of m) t b → d ≡ bounds_stand (kind_of m) t b → (c && d) ≡ reshape_stands b e
stands_is b e t m k q c d f g = rw (← k, ← kind_told e.val m q, ← f, ← g) (and_is c d)

-- ---- all clauses

pub all_hold : (b : Board) → well_formed b ≡ true → (p q r s t u v : Bool) → p ≡ members_are_there b → q ≡ machines_are_listed b → r ≡ cohorts_watch b → s ≡ rotations_fit b → t ≡ scheduled_fit b
    → u ≡ families_apart (keys_of b.reshapes) → v ≡ reshapes_stand b → ((((((p && q) && r) && s) && t) && u) && v) ≡ seat_check b
unfolding seat_check all_of ◌and◌
all_hold b ok p q r s t u v d e f g h i j = rw (ok, ← d, ← e, ← f, ← g, ← h, ← i, ← j) (go p q r s t u v)
  where
    go : (p q r s t u v : Bool) → ((((((p && q) && r) && s) && t) && u) && v) ≡ (p and q and r and s and t and u and v and true)
    go false q r s t u v = refl
    go true false r s t u v = refl
    go true true false s t u v = refl
    go true true true false t u v = refl
    go true true true true false u v = refl
    go true true true true true false v = refl
    go true true true true true true false = refl
    go true true true true true true true = refl

-- ---- any words

pub no_board : (ws : List ℕ) → (WellHeld ws → ⊥) → TellsSeats ws false
no_board ws n = record { yes = λ e. absurd (false≢true e); held = λ s. absurd (n (record { board = s.board; holds = s.holds; good = seat_check_formed s.board s.passes })) }

pub board_told : (ws : List ℕ) (r : Bool) → (w : WellHeld ws) → r ≡ seat_check w.board → TellsSeats ws r
board_told ws r w e =
    record { yes = λ y. record { board = w.board; holds = w.holds; passes = sym e ∙ y }; held = λ s. e ∙ ap seat_check (one_board ws w.board s.board w.holds s.holds) ∙ s.passes }
