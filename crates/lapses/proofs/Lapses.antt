-- Lapse, as the code has it: those of the cohort that are gone, those to come, and each way out.
use Prim.Native.Nat.{ℕ, zero, suc, ◌+◌, ◌≤◌, ◌<◌}
use mathlib.Core.Path.{◌≡◌, refl, ap, sym, fun_ext, ◌∙◌}
use mathlib.Core.Logic.{◌≢◌}
use mathlib.Core.List.{List, [], ◌∷◌}
use mathlib.Core.Option.{none, some}
use mathlib.Core.Bool.{Bool, true, false, not}
use native.Mathlib.Omega.{arith}
use lib.ListN.{length, get_or, set, drop}
use lib.Seq.{set-get_or}
use Rattle.types.specs.Numbers.{Shard, Id}
use Rattle.types.specs.Places.{shard_id, observes, pooled}
use Rattle.types.specs.declared.Place.{Place}
use Rattle.types.specs.declared.Answer.TheVariants.{Done, OutOfRange, NotThere}
use Rattle.types.specs.declared.Outcome.{Outcome}
use Rattle.rules.specs.Lists.{◌or◌, bit_of, any, count, has, keep}
use Rattle.rules.specs.Table.{Entry, entry, Table, is_some, at, stands, update, keys_where, keys_of}
use Rattle.rules.specs.Board.{split, merge, Seat, Reshape, Board, on_machines, on_committees, on_reshapes}
use Rattle.rules.specs.WellFormed.{is_target, well_formed}
use Rattle.rules.specs.Moves.{says, place, take_off, for_all, pooled_from, with_seats, is_kind, reshape_at}
use Rattle.rules.specs.Turns.{checked, alone}
use Rattle.rules.specs.Reshapes.{cohort_of, released, lapse}
use Rattle.rules.proofs.Counts.{Alike, same, apart, alike, eqb_same, eqb_apart, hit, hit_same, occ, count_same}
use Rattle.rules.proofs.Tables.{From, From-weaken}
use Rattle.rules.proofs.Tests.{rising_table}
use Rattle.rules.proofs.Turns.{for_all_keeps}
use Rattle.rules.proofs.TakenOff.{taken_apart}
use Rattle.rules.proofs.KeptTables.{once_keys_where, holds_at_lem, at_other, holds_same}
use Rattle.tables.specs.Rows.{Rising, key_of}
use Rattle.tables.proofs.Keys.{at_is}
use Rattle.board.specs.Held.{Holds, no_machine, no_reshape, no_seat}
use Rattle.board.specs.Leaves.{change_at}
use Rattle.board.proofs.Fitting.{held_as}
use Rattle.board.proofs.Keyed.{machines_rise, reshapes_rise, seats_rise}
use Rattle.board.proofs.Moves.{place_at}
use Rattle.reshapes.proofs.SeatMoves.{seats_in_row, reshape_at_lem}
use Rattle.pool.proofs.Pools.{keys_none, keys_here}
use Rattle.rows.proofs.Asked.{holds_none, says_at}
use Rattle.moves.specs.declared.Exit.TheVariants.{FromWatch}
use Rattle.moves.proofs.Exiting.{split_unless, no_record, record_placed}
use Rattle.moves.proofs.Kept.{placed_well}
use Rattle.steps.specs.Inner.{outcome, Step}

-- ---- the ids of a table, and those from row k on, as a loop goes

module _ {A : Type 0} where
  has_keys : (x : ℕ) (t : Table A) → has x (keys_of t) ≡ stands x t
  unfolding has any ◌or◌ keys_of keys_where stands is_some at
  has_keys x [] = refl
  has_keys x (e ∷ t) = go (alike x e.key) (has_keys x t)
    where
      go : Alike x e.key → has x (keys_of t) ≡ stands x t → has x (keys_of (e ∷ t)) ≡ stands x (e ∷ t)
      go (same p q) h = rw (p, eqb_same e.key)
      go (apart p q) h = rw (q, eqb_apart e.key x (λ z. p (sym z))) h

  From-drop : (n : ℕ) (t : Table A) (k : ℕ) → From n t → From n (drop k t)
  unfolding From
  From-drop n t zero r = r
  From-drop n [] (suc k) r = r
  From-drop n (e ∷ t) (suc k) r = From-weaken n (suc e.key) (drop k t) (omega arith) (From-drop (suc e.key) t k r.1)

occ_head : (y x : ℕ) (l : List ℕ) → occ y (x ∷ l) ≡ hit y x + occ y l
unfolding occ
occ_head y x l = refl

count_head : (f : ℕ → Bool) (x : ℕ) (l : List ℕ) → count f (x ∷ l) ≡ bit_of (f x) + count f l
unfolding count
count_head f x l = refl

module _ (t : Table Seat) (k : ℕ) where
  keys_next : k < length t → keys_of (drop k t) ≡ (get_or t k no_seat).key ∷ keys_of (drop (k + 1) t)
  unfolding keys_of
  keys_next l = keys_here (λ v. true) t k no_seat l refl

  keys_once : Rising key_of t → (y : ℕ) → occ y (keys_of (drop k t)) ≤ 1
  unfolding keys_of
  keys_once r y = once_keys_where (λ v. true) y (drop k t) (From-drop 0 t k (rising_table t r))

  keys_end : length t ≤ k → keys_of (drop k t) ≡ []
  unfolding keys_of
  keys_end l = keys_none (λ v. true) t k l

-- ---- one machine, at row i

module _ (b : Board) (ok : well_formed b ≡ true) (after : List ℕ) (x : Id) (t : Shard) where
  abbrev Sent : ℕ → Type 0
  Sent r = (r ≡ bit_of (says (observes t) b x)) × Holds after (place x (pooled_from (observes t)) b)

  pub sent_none : at x b.machines ≡ none → Holds after b → Sent 0
  sent_none n h = (rw (holds_none x (observes t) b.machines n), no_record b ok after x (pooled_from (observes t)) n h)

  module _ (i : ℕ) (l : i < length b.machines) (k : (get_or b.machines i no_machine).key ≡ x) (c : Bool) (e : observes t (get_or b.machines i no_machine).val ≡ c) where
    told : says (observes t) b x ≡ c
    told = sym (says_at b ok x i l k (observes t)) ∙ e

    pub sent_not : c ≡ false → Holds after b → Sent 0
    sent_not n h = (
      rw (told, n),
      held_as after _ _
          (sym (place_at b x (pooled_from (observes t)) i (machines_rise b ok) l k
          ∙ rw (e, n) (ap (λ (m : Table Place). on_machines (λ _. m) b) (set-get_or b.machines i no_machine)))) h,
    )

    pub sent_one : c ≡ true → (p : Place) → p ≡ pooled (get_or b.machines i no_machine).val → Holds after (on_machines (λ m. set m i (entry x p)) b) → Sent 1
    sent_one y p q h = (rw (told, y), record_placed b ok after x (pooled_from (observes t)) i l k p (rw (e, y) q) h)

-- ---- the cohort goes

abbrev send_back : Shard → Id → Board → Board
send_back t x = place x (pooled_from (observes t))

-- another machine's place stays
other_says : (t : Shard) (x y : Id) (b : Board) → y ≢ x → says (observes t) (send_back t x b) y ≡ says (observes t) b y
unfolding place
other_says t x y b n = holds_same y (observes t) _ b.machines (at_other y x (pooled_from (observes t)) b.machines n)

-- k of the cohort are sent back, r of them from the target
pub record Gone (t : Shard) (i : ℕ) (b : Board) (k r : ℕ) (ws : List ℕ) : Type 0 where
  pub board : Board
  pub held : Holds ws board
  pub good : well_formed board ≡ true
  pub reshapes : board.reshapes ≡ b.reshapes
  pub rest : for_all (send_back t) (keys_of (drop k (seats_in_row i b))) board ≡ for_all (send_back t) (keys_of (seats_in_row i b)) b
  pub told : r + count (says (observes t) board) (keys_of (drop k (seats_in_row i b))) ≡ count (says (observes t) b) (keys_of (seats_in_row i b))

pub none_gone : (t : Shard) (i : ℕ) (b : Board) (ws : List ℕ) → Holds ws b → well_formed b ≡ true → Gone t i b 0 0 ws
none_gone t i b ws h ok = record { board = b; held = h; good = ok; reshapes = refl; rest = refl; told = omega arith }

module _ (t : Shard) (i : ℕ) (b : Board) (k r : ℕ) (ws : List ℕ) (w : Gone t i b k r ws) (l : i < length b.reshapes) where
  -- the seats are read where they still stand
  same_seats : seats_in_row i w.board ≡ seats_in_row i b
  same_seats = ap (λ (u : Table Reshape). (get_or u i no_reshape).val.seats) w.reshapes

  pub one_gone : well_formed b ≡ true → (after : List ℕ) → k < length (seats_in_row i b) → (q : Entry Seat)
      → ((c : Board) → Holds ws c → i < length c.reshapes → k < length (seats_in_row i c) → q ≡ get_or (seats_in_row i c) k no_seat) → (s : ℕ)
      → ((c : Board) → Holds ws c → well_formed c ≡ true → (s ≡ bit_of (says (observes t) c q.key)) × Holds after (send_back t q.key c)) → Gone t i b (k + 1) (r + s) after
  unfolding for_all place
  one_gone ok after m q read s step =
      let e : q ≡ get_or (seats_in_row i b) k no_seat = read w.board w.held (rw w.reshapes l) (rw same_seats m) ∙ rw same_seats in
      let x : (get_or (seats_in_row i b) k no_seat).key ≡ q.key = ap (λ (y : Entry Seat). y.key) (sym e) in
      let next : keys_of (drop k (seats_in_row i b)) ≡ q.key ∷ keys_of (drop (k + 1) (seats_in_row i b)) = keys_next (seats_in_row i b) k m ∙ rw x in
      let done = step w.board w.held w.good in
      record {
        board = send_back t q.key w.board;
        held = done.1;
        good = placed_well w.board w.good q.key (FromWatch (shard_id t));
        reshapes = w.reshapes;
        rest = sym (ap (λ (ids : List ℕ). for_all (send_back t) ids w.board) next) ∙ w.rest;
        told =
            let kept : count (says (observes t) (send_back t q.key w.board)) (keys_of (drop (k + 1) (seats_in_row i b))) ≡ count (says (observes t) w.board) (keys_of (drop (k + 1) (seats_in_row i b))) =
            count_same _ _ _ (λ y o. other_says t q.key y w.board (apart next y o)) in
            omega (arith, kept, done.0, w.told, counted next);
      }
    where
      -- the ids are distinct
      apart : keys_of (drop k (seats_in_row i b)) ≡ q.key ∷ keys_of (drop (k + 1) (seats_in_row i b)) → (y : ℕ) → 1 ≤ occ y (keys_of (drop (k + 1) (seats_in_row i b))) → y ≢ q.key
      apart next y o z = omega (arith, keys_once (seats_in_row i b) k (seats_rise b ok i l) y, ap (occ y) next, occ_head y q.key (keys_of (drop (k + 1) (seats_in_row i b))), ap (hit y) z, hit_same y)

      counted : keys_of (drop k (seats_in_row i b)) ≡ q.key ∷ keys_of (drop (k + 1) (seats_in_row i b))
          → count (says (observes t) w.board) (keys_of (drop k (seats_in_row i b))) ≡ bit_of (says (observes t) w.board q.key) + count (says (observes t) w.board) (keys_of (drop (k + 1) (seats_in_row i b)))
      counted next = ap (count (says (observes t) w.board)) next ∙ count_head (says (observes t) w.board) q.key (keys_of (drop (k + 1) (seats_in_row i b)))

  -- past the last
  pub all_gone : length (seats_in_row i b) ≤ k → (r ≡ count (says (observes t) b) (keys_of (seats_in_row i b))) × Holds ws (for_all (send_back t) (keys_of (seats_in_row i b)) b)
  unfolding for_all count
  all_gone m =
      let none = keys_end (seats_in_row i b) k m in (
        omega (arith, w.told, ap (count (says (observes t) w.board)) none),
        held_as ws _ _ (sym (ap (λ (ids : List ℕ). for_all (send_back t) ids w.board) none) ∙ w.rest) w.held,
      )

-- ---- then they are struck, and the seats go

module _ (t : Shard) (i : ℕ) (b : Board) (ok : well_formed b ≡ true) (l : i < length b.reshapes) (named : (get_or b.reshapes i no_reshape).key ≡ t) where
  abbrev sent : Board
  sent = for_all (send_back t) (keys_of (seats_in_row i b)) b

  pub sent_well : well_formed sent ≡ true
  sent_well = for_all_keeps (λ c. well_formed c ≡ true) (send_back t) (λ x c g. placed_well c g x (FromWatch (shard_id t))) (keys_of (seats_in_row i b)) b ok

  sent_reshapes : sent.reshapes ≡ b.reshapes
  unfolding place
  sent_reshapes = for_all_keeps (λ c. c.reshapes ≡ b.reshapes) (send_back t) (λ x c e. e) (keys_of (seats_in_row i b)) b refl

  pub sent_there : i < length sent.reshapes
  sent_there = rw sent_reshapes l

  struck : for_all (take_off t (pooled_from (observes t))) (cohort_of t b) b ≡ on_committees (update t (keep (λ x. not (stands x (seats_in_row i sent))))) sent
  unfolding cohort_of
  struck =
      let cohort : cohort_of t b ≡ keys_of (seats_in_row i b) = rw (at_is b.reshapes (reshapes_rise b ok) t i no_reshape l named, cohort_of) in
      let seats : seats_in_row i b ≡ seats_in_row i sent = ap (λ (u : Table Reshape). (get_or u i no_reshape).val.seats) (sym sent_reshapes) in
      let tests : ◌≡◌ {A = Id → Bool} (λ x. not (has x (keys_of (seats_in_row i b)))) (λ x. not (stands x (seats_in_row i sent))) =
      fun_ext (λ x. ap not (has_keys x (seats_in_row i b) ∙ ap (stands x) seats)) in
      ap (λ (ids : List ℕ). for_all (take_off t (pooled_from (observes t))) ids b) cohort
      ∙ taken_apart (pooled_from (observes t)) t (keys_of (seats_in_row i b)) b
      ∙ ap (λ (f : Id → Bool). on_committees (update t (keep f)) sent) tests

  pub all_released : (mid after : List ℕ) → Holds mid (on_committees (update t (keep (λ x. not (stands x (seats_in_row i sent))))) sent)
      → ((c : Board) → Holds mid c → i < length c.reshapes → Holds after (on_reshapes (change_at no_reshape i (with_seats (λ s. []))) c)) → Holds after (released t b)
  unfolding released
  all_released mid after h step =
      let c = on_committees (update t (keep (λ x. not (stands x (seats_in_row i sent))))) sent in
      rw struck
      (held_as after _ _ (sym (reshape_at_lem c t i (reshapes_rise sent sent_well) sent_there (rw sent_reshapes named) (with_seats (λ s. []))))
      (step c h sent_there))

-- ---- each way out

module _ (b : Board) (ok : well_formed b ≡ true) (after : List ℕ) (r : Outcome) (t : Shard) where
  pub no_target : is_target t ≡ false → Holds after b → r ≡ outcome OutOfRange 0 0 → Step (lapse t) b after r
  unfolding lapse alone checked
  no_target n h e = record { told = rw (ok, n) e; left = rw (ok, n) h }

  module _ (y : is_target t ≡ true) where
    not_there : reshape_at split t b ≡ false → Holds after b → r ≡ outcome NotThere 0 0 → Step (lapse t) b after r
    unfolding lapse alone checked
    not_there n h e = record { told = rw (ok, y, n) e; left = rw (ok, y, n) h }

    pub no_reshape_lem : at t b.reshapes ≡ none → Holds after b → r ≡ outcome NotThere 0 0 → Step (lapse t) b after r
    no_reshape_lem n h e = not_there (holds_none t (is_kind split) b.reshapes n) h e

    module _ (i : ℕ) (here : i < length b.reshapes) (named : (get_or b.reshapes i no_reshape).key ≡ t) where
      there : at t b.reshapes ≡ some (get_or b.reshapes i no_reshape).val
      there = at_is b.reshapes (reshapes_rise b ok) t i no_reshape here named

      splits : (m : Bool) → is_kind merge (get_or b.reshapes i no_reshape).val ≡ m → reshape_at split t b ≡ not m
      splits m e = holds_at_lem t (is_kind split) b.reshapes _ there ∙ split_unless _ m e

      pub a_merge : is_kind merge (get_or b.reshapes i no_reshape).val ≡ true → Holds after b → r ≡ outcome NotThere 0 0 → Step (lapse t) b after r
      a_merge m h e = not_there (splits true m) h e

      pub lapsed : is_kind merge (get_or b.reshapes i no_reshape).val ≡ false → (n : ℕ) → n ≡ count (says (observes t) b) (keys_of (seats_in_row i b)) → Holds after (released t b) → r ≡ outcome Done n 0
          → Step (lapse t) b after r
      unfolding lapse alone checked cohort_of
      lapsed m n c h e =
          let s : reshape_at split t b ≡ true = splits false m in
          record { told = rw (ok, y, s, cohort_of, there, ← c) e; left = rw (ok, y, s) h }
