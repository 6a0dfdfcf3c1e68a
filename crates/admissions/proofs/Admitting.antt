-- The admissions, as the code has them: each way out.
use Prim.Native.Nat.{ℕ, ◌+◌, ◌-◌, ◌≤◌, ◌<◌}
use mathlib.Core.Path.{◌≡◌, refl, ap, ◌∙◌}
use mathlib.Core.List.{List, []}
use mathlib.Core.Option.{none}
use mathlib.Core.Bool.{true}
use native.Mathlib.Omega.{arith}
use borrow.Author.Tests.{le-leb, lt-leb}
use lib.ListN.{length, take, drop, length-drop}
use Rattle.types.specs.Numbers.{Shard, Id}
use Rattle.types.specs.Shards.{left_of, right_of}
use Rattle.types.specs.declared.Answer.{Answer}
use Rattle.types.specs.declared.Answer.TheVariants.{Done, NoRoom}
use Rattle.types.specs.declared.Outcome.{Outcome}
use Rattle.rules.specs.Table as table
use Rattle.rules.specs.Table.{Table}
use Rattle.rules.specs.Board.{Kind, split, merge, Seat, Board, most_reshapes, most_seats}
use Rattle.rules.specs.WellFormed.{well_formed}
use Rattle.rules.specs.Draws.{Drawn}
use Rattle.rules.specs.Turns.{Result, Turn, finished, refused, checked, drawn, alone}
use Rattle.rules.specs.Reshapes.{admission_faults, admit, admit_split, seat_all, draw_keepers, admit_merge}
use Rattle.tables.specs.Rows.{Rising, key_of}
use Rattle.board.specs.Held.{Holds}
use Rattle.board.proofs.Fitting.{held_as}
use Rattle.reshapes.proofs.SeatMoves.{seats_in_row}
use Rattle.steps.specs.Inner.{outcome, Step}
use Rattle.sampling.specs.declared.Reader.{Reader}
use Rattle.sampling.specs.Reads.{Read, no_draw, answer_to}
use Rattle.sampling.specs.declared.DrawError.{DrawError}
use Rattle.sampling.proofs.Failing.{drawn_fails}
use Rattle.keepers.specs.Kept.{seats_of}
use Rattle.families.specs.Faults.{Grants}
use Rattle.admissions.specs.Granted.{admits_kept, merge_granted}
use Rattle.admissions.specs.Seated.{row_for, opened, with_seats_at}
use Rattle.admissions.proofs.Opening.{opened_is_put, opened_row, opened_seats, opened_seated}

-- ---- a step that is one turn

module _ (step : Board → Result) (b : Board) (draws after : List ℕ) (turn : Turn) (is : step b ≡ alone draws b turn) (r : Outcome) where
  turn_refused : (a : Answer) → turn ≡ refused a → Holds after b → r ≡ outcome a 0 0 → Step step b after r
  unfolding alone
  turn_refused a e h q = record { told = rw (is, e) q; left = rw (is, e) h }

  turn_finished : (n : ℕ) (left : List ℕ) (c : Board) → turn ≡ finished n left c → Holds after c → r ≡ outcome Done n (length draws - length left) → Step step b after r
  unfolding alone
  turn_finished n left c e h q = record { told = rw (is, e) q; left = rw (is, e) h }

-- the same of a step that comes to the same on the board
step_as : (f g : Board → Result) (b : Board) (after : List ℕ) (r : Outcome) → f b ≡ g b → Step g b after r → Step f b after r
step_as f g b after r e s = record { told = rw e s.told; left = rw e s.left }

-- ---- room for a reshape more

module _ (k : Kind) (t : Shard) (handled : ℕ) (seats : Table Seat) (draws : List ℕ) (b : Board) where
  admit_full : most_reshapes ≤ length b.reshapes → admit k t handled seats draws b ≡ refused NoRoom
  unfolding admit checked
  admit_full l = rw (le-leb most_reshapes (length b.reshapes) l)

  admit_done : well_formed b ≡ true → table.at t b.reshapes ≡ none → length b.reshapes < most_reshapes → admit k t handled seats draws b ≡ finished handled draws (opened k t seats b)
  unfolding admit checked
  admit_done ok n l = rw (lt-leb most_reshapes (length b.reshapes) l, opened_is_put k t b ok n seats)

-- ---- a split

module _ (t : Shard) (b : Board) (after : List ℕ) (r : Outcome) where
  pub split_refused : (a : Answer) → ((turn : Turn) → checked (admission_faults split t b) turn ≡ refused a) → Holds after b → r ≡ outcome a 0 0 → Step (admit_split t) b after r
  unfolding admit_split
  split_refused a f h q = turn_refused (admit_split t) b [] after _ refl r a (f _) h q

  module _ (g : Grants split t b) where
    pub split_full : most_reshapes ≤ length b.reshapes → Holds after b → r ≡ outcome NoRoom 0 0 → Step (admit_split t) b after r
    unfolding admit_split
    split_full l h q = turn_refused (admit_split t) b [] after _ refl r NoRoom (g.passes _ ∙ admit_full split t 1 [] [] b l) h q

    pub split_admitted : well_formed b ≡ true → length b.reshapes < most_reshapes → Holds after (opened split t [] b) → r ≡ outcome Done 1 0 → Step (admit_split t) b after r
    unfolding admit_split
    split_admitted ok l h q = turn_finished (admit_split t) b [] after _ refl r 1 [] (opened split t [] b) (g.passes _ ∙ admit_done split t 1 [] [] b ok g.free l) h q

-- ---- a merge: its faults, then its draws

module _ (t : Shard) (draws : List ℕ) (b : Board) (after : List ℕ) (r : Outcome) where
  pub merge_refused : (a : Answer) → ((turn : Turn) → checked (admission_faults merge t b) turn ≡ refused a) → Holds after b → r ≡ outcome a 0 0 → Step (admit_merge t draws) b after r
  unfolding admit_merge
  merge_refused a f h q = turn_refused (admit_merge t draws) b draws after _ refl r a (f _) h q

  pub merge_passed : Grants merge t b → Step (merge_granted t draws) b after r → Step (admit_merge t draws) b after r
  unfolding admit_merge
  merge_passed g s = step_as (admit_merge t draws) (merge_granted t draws) b after r (ap (alone draws b) (g.passes _)) s

  pub merge_fails : (e : DrawError) → draw_keepers t b draws ≡ no_draw e → Holds after b → r ≡ outcome (answer_to e) 0 0 → Step (merge_granted t draws) b after r
  merge_fails e l h q = turn_refused (merge_granted t draws) b draws after _ refl r (answer_to e) (drawn_fails _ _ e l) h q

  pub merge_drew : (ids : List Id) (n m : ℕ) (left : Reader) → Read draws (draw_keepers t b draws) (seats_of t ids n m) left → Step (admits_kept t ids n m left.at draws) b after r
      → Step (merge_granted t draws) b after r
  unfolding drawn
  merge_drew ids n m left d s =
      step_as (merge_granted t draws) (admits_kept t ids n m left.at draws) b after r (ap (λ (x : Drawn (Table Seat)). alone draws b (drawn x (λ keepers left. admit merge t (length keepers) keepers left b))) d.drew) s

-- ---- its keepers

-- in the row i that was opened
module _ (t : Shard) (b : Board) (s : Table Seat) (i : ℕ) (e : i ≡ row_for t b) where
  row_in : i < length (opened merge t s b).reshapes
  row_in = rw e (opened_row merge t b s)

  seats_in_lem : seats_in_row i (opened merge t s b) ≡ s
  seats_in_lem = rw e (opened_seats merge t b s)

  -- a child's ids
  pub child_seated : (ws : List ℕ) (c : Shard) (ids : List Id) → Rising key_of s → length s + length ids ≤ most_seats
      → (i < length (opened merge t s b).reshapes → Rising key_of (seats_in_row i (opened merge t s b)) → length (seats_in_row i (opened merge t s b)) + length ids ≤ most_seats
      → Holds ws (with_seats_at i (seat_all c ids (seats_in_row i (opened merge t s b))) (opened merge t s b)))
      → Holds ws (opened merge t (seat_all c ids s) b)
  child_seated ws c ids rise room f =
      held_as ws _ _ (rw (seats_in_lem, e) (opened_seated merge t b s (seat_all c ids s))) (f row_in (rw seats_in_lem rise) (rw seats_in_lem room))

  pub seats_counted : (n : ℕ) → (i < length (opened merge t s b).reshapes → n ≡ length (seats_in_row i (opened merge t s b))) → n ≡ length s
  seats_counted n f = f row_in ∙ ap length seats_in_lem

module _ (t : Shard) (ids : List Id) (n m at : ℕ) (draws : List ℕ) (b : Board) (after : List ℕ) (r : Outcome) where
  pub kept_full : most_reshapes ≤ length b.reshapes → Holds after b → r ≡ outcome NoRoom 0 0 → Step (admits_kept t ids n m at draws) b after r
  kept_full l h q = turn_refused (admits_kept t ids n m at draws) b draws after _ refl r NoRoom (admit_full merge t _ _ (drop at draws) b l) h q

  -- the seats as the code puts them
  module _ (c d : Shard) (left : c ≡ left_of t) (right : d ≡ right_of t) (j : ℕ) (same : j ≡ m) where
    abbrev put_so : Table Seat
    put_so = seat_all d (take j (drop n ids)) (seat_all c (take n ids) [])

    pub kept_admitted : well_formed b ≡ true → table.at t b.reshapes ≡ none → length b.reshapes < most_reshapes → at ≤ length draws → Holds after (opened merge t put_so b)
        → (handled : ℕ) → handled ≡ length put_so → r ≡ outcome Done handled at → Step (admits_kept t ids n m at draws) b after r
    kept_admitted ok free l within h handled count q =
        let e : put_so ≡ seats_of t ids n m = rw (left, right, same) in
        let used : at ≡ length draws - length (drop at draws) = omega (arith, length-drop at draws) in
        turn_finished (admits_kept t ids n m at draws) b draws after _ refl r (length (seats_of t ids n m)) (drop at draws) (opened merge t (seats_of t ids n m) b)
        (admit_done merge t _ _ (drop at draws) b ok free l) (held_as after _ _ (ap (λ (z : Table Seat). opened merge t z b) e) h) (q ∙ rw (count ∙ ap length e, ← used))
