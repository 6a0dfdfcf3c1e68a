-- A reshape's row decided: its first words, its seats and its halves.
use Prim.Native.Nat.{ℕ, zero, suc, ◌+◌, ◌-◌, ◌*◌, ◌≤◌, ◌<◌}
use mathlib.Core.Path.{◌≡◌, refl, ap, sym, ◌∙◌}
use mathlib.Core.List.{List, [], ◌∷◌, ◌++◌}
use mathlib.Core.Logic.{◌⊎◌, inl, inr}
use mathlib.Core.Option.{Option, none, some}
use mathlib.Core.Bool.{Bool, true, false, cond, false≢true, or-false}
use native.Mathlib.Omega.{arith}
use borrow.Author.Tests.{leb-true, eqb-true, eqb-false, eq-eqb}
use lib.Dec.{eqb, leb}
use lib.ListN.{length, take, drop, take-append-drop}
use lib.Seq.{take_at, drop_at, drop-drop, get_or-take, get_or-drop}
use Rattle.types.specs.Numbers.{Id, Epoch}
use Rattle.types.specs.Shards.{parent_of, left_of, right_of}
use Rattle.rules.specs.Lists.{◌and◌, ◌or◌, bit_of, is_empty}
use Rattle.rules.specs.Table.{Entry, entry, Table}
use Rattle.rules.specs.Board.{Kind, split, merge, Seat, Reshape, most_seats, most_half}
use Rattle.rules.specs.WellFormed.{is_target, is_stamp, key_before, good_table, good_ids, good_seat, good_quiet, may_have_halves, good_reshape}
use Rattle.rules.specs.Snapshot.{flag_of, kind_word, seat_words, reshape_words, is_one}
use Rattle.rules.proofs.Tests.{and_parts, and_joins, or_cases, or_left, or_right, all_parts, all_joins}
use Rattle.tables.specs.Rows.{id_table}
use Rattle.shifts.proofs.Parts.{gets, gets_is, gets_all, between_length}
use Rattle.board.specs.Layout.{seat_width, seats_at, left_at, right_at, reshape_width, seat_table, reshape_head, reshape_row}
use Rattle.board.proofs.Widths.{seat_wide, reshape_wide}
use Rattle.word_tests.specs.Tests.{at, between, all_pass, any_pass, rises, ids_ok}
use Rattle.row_tests.specs.Rows.{seat_ok, seats_ok, epochs_ok, flags_ok, reshape_head_ok, scheduled_ok, halves_ok, reshape_ok}
use Rattle.word_tests.proofs.Tests.{Some, pass_parts, pass_joins, any_cases, any_joins}
use Rattle.word_tests.proofs.Decides.{Words, word_at, Held, Decides, ids_decides, table_decides}
use Rattle.row_tests.proofs.Rows.{between_words, to_end, bit_back, bit_small, Optional, option_sound, option_complete}

-- ---- seats

child_sound : (c t : ℕ) → parent_of c ≡ t → (eqb c (left_of t) or eqb c (right_of t)) ≡ true
child_sound c t h = go (eqb c (left_of t)) refl
  where
    go : (b : Bool) → eqb c (left_of t) ≡ b → (eqb c (left_of t) or eqb c (right_of t)) ≡ true
    go true e = or_left _ _ e
    go false e = let n = eqb-false c (left_of t) e in or_right _ _ (eq-eqb c (right_of t) (omega arith))

child_complete : (c t : ℕ) → (eqb c (left_of t) or eqb c (right_of t)) ≡ true → parent_of c ≡ t
child_complete c t h = go (or_cases _ _ h)
  where
    go : (eqb c (left_of t) ≡ true) ⊎ (eqb c (right_of t) ≡ true) → parent_of c ≡ t
    go (inl p) = omega (arith, eqb-true c (left_of t) p)
    go (inr p) = omega (arith, eqb-true c (right_of t) p)

seat_sound : (g : ℕ) (t : List ℕ) → Words t → length t ≡ seat_width → seat_ok g t ≡ true → Held seat_words (good_seat g) t
unfolding seat_ok seat_words good_seat
seat_sound g t ws l h =
    let y = pass_parts _ h in
    record {
      value = entry (at t 0) (record { child = at t 1; ready = is_one (at t 2) });
      words = gets_all 3 t l ∙ ap (λ (n : ℕ). at t 0 ∷ at t 1 ∷ n ∷ []) (sym (bit_back (at t 2) (leb-true _ _ y.1.0)));
      fine = and_joins _ _ (word_at t 0 ws) (child_sound (at t 1) g (eqb-true _ _ y.0));
    }

seat_complete : (g : ℕ) (e : Entry Seat) → good_seat g e ≡ true → seat_ok g (seat_words e) ≡ true
unfolding seat_ok seat_words good_seat
seat_complete g e h = pass_joins _ (eq-eqb _ _ (child_complete e.val.child g (and_parts _ _ h).1), (bit_small e.val.ready, tt))

pub seat_decides : (g : ℕ) → Decides seat_words (good_seat g) seat_width (seat_ok g)
seat_decides g = record { wide = seat_wide; sound = seat_sound g; complete = seat_complete g }

-- a seat's first word says the order
pub seat_says : (x y : Entry Seat) (a b : List ℕ) → rises false (seat_words x ++ a) (seat_words y ++ b) ≡ key_before x y
unfolding seat_words all_pass any_pass
seat_says x y a b = or-false _

seats_decide : (g : ℕ) → Decides seat_table (good_table most_seats (good_seat g)) (1 + most_seats * seat_width) (seats_ok g)
seats_decide g = table_decides seat_words (good_seat g) seat_width (seat_ok g) (seat_decides g) key_before (rises false) seat_says most_seats

-- ---- the kind, quiet and halves

abbrev kind_of : ℕ → Kind
kind_of k = cond (is_one k) merge split

kind_back : (k : ℕ) → k ≤ 1 → kind_word (kind_of k) ≡ k
unfolding kind_word
kind_back zero h = refl
kind_back (suc zero) h = refl
kind_back (suc (suc k)) h = absurd (omega arith)

kind_small : (k : Kind) → leb (kind_word k) 1 ≡ true
unfolding kind_word
kind_small split = refl
kind_small merge = refl

quiet_sound : (k q : ℕ) → k ≤ 1 → q ≤ k → good_quiet (kind_of k) (is_one q) ≡ true
unfolding good_quiet
quiet_sound zero zero h l = refl
quiet_sound zero (suc q) h l = absurd (omega arith)
quiet_sound (suc zero) q h l = refl
quiet_sound (suc (suc k)) q h l = absurd (omega arith)

quiet_complete : (k : Kind) (q : Bool) → good_quiet k q ≡ true → leb (bit_of q) (kind_word k) ≡ true
unfolding good_quiet kind_word
quiet_complete merge q g = bit_small q
quiet_complete split true g = absurd (false≢true g)
quiet_complete split false g = refl

empty_is : (l : List ℕ) → length l ≡ 0 → is_empty l ≡ true
unfolding is_empty
empty_is [] h = refl
empty_is (x ∷ l) h = absurd (omega arith)

is_empty_lem : (l : List ℕ) → is_empty l ≡ true → length l ≡ 0
unfolding is_empty
is_empty_lem [] h = refl
is_empty_lem (x ∷ l) h = absurd (false≢true h)

scheduled_sound : (k : ℕ) (o : Option Epoch) → k ≡ 0 → flag_of o ≡ 1 → may_have_halves (kind_of k) o ≡ true
unfolding may_have_halves flag_of
scheduled_sound k none p q = absurd (omega arith)
scheduled_sound zero (some e) p q = refl
scheduled_sound (suc k) (some e) p q = absurd (omega arith)

scheduled_complete : (k : Kind) (o : Option Epoch) → may_have_halves k o ≡ true → (kind_word k ≡ 0) × (flag_of o ≡ 1)
unfolding may_have_halves kind_word flag_of
scheduled_complete split none h = absurd (false≢true h)
scheduled_complete split (some e) h = (refl, refl)
scheduled_complete merge o h = absurd (false≢true h)

abbrev pub GoodHalves : Kind → Option Epoch → List Id → List Id → Type 0
GoodHalves k o l r = (may_have_halves k o or (is_empty l and is_empty r)) ≡ true

halves_sound : (k f m n : ℕ) (o : Option Epoch) (l r : List Id) → flag_of o ≡ f → m ≡ length l → n ≡ length r → scheduled_ok k f m n ≡ true → GoodHalves (kind_of k) o l r
unfolding scheduled_ok
halves_sound k f m n o l r e p q h = go (any_cases _ h)
  where
    go : Some (all_pass (eqb k 0 ∷ eqb f 1 ∷ []) ∷ all_pass (eqb m 0 ∷ eqb n 0 ∷ []) ∷ []) → GoodHalves (kind_of k) o l r
    go (inl u) = let y = pass_parts _ u in or_left _ _ (scheduled_sound k o (eqb-true k 0 y.0) (e ∙ eqb-true f 1 y.1.0))
    go (inr (inl u)) =
        let y = pass_parts _ u in
        or_right _ _ (and_joins _ _ (empty_is l (sym p ∙ eqb-true m 0 y.0)) (empty_is r (sym q ∙ eqb-true n 0 y.1.0)))
    go (inr (inr u)) = absurd u

pub halves_complete : (k : Kind) (o : Option Epoch) (l r : List Id) (m n : ℕ) → m ≡ length l → n ≡ length r → GoodHalves k o l r → scheduled_ok (kind_word k) (flag_of o) m n ≡ true
unfolding scheduled_ok
halves_complete k o l r m n p q h = go (or_cases _ _ h)
  where
    go : (may_have_halves k o ≡ true) ⊎ ((is_empty l and is_empty r) ≡ true) → scheduled_ok (kind_word k) (flag_of o) m n ≡ true
    go (inl u) = let y = scheduled_complete k o u in any_joins _ (inl (pass_joins _ (eq-eqb _ _ y.0, (eq-eqb _ _ y.1, tt))))
    go (inr u) =
        let y = and_parts _ _ u in
        any_joins _ (inr (inl (pass_joins _ (eq-eqb m 0 (p ∙ is_empty_lem l y.0), (eq-eqb n 0 (q ∙ is_empty_lem r y.1), tt)))))

-- ---- the row

-- a list from a on is its words up to e, and those from e on
pub cut : (a e : ℕ) (t : List ℕ) → a ≤ e → drop a t ≡ between a e t ++ drop e t
cut a e t h =
    let s : a + (e - a) ≡ e = omega arith in
    sym (take-append-drop (e - a) (drop a t)) ∙ ap (λ (u : List ℕ). between a e t ++ u) (drop-drop (e - a) a t ∙ ap (λ (k : ℕ). drop k t) s)

pub join : {a b c d : List ℕ} → a ≡ b → c ≡ d → a ++ c ≡ b ++ d
join {a} {b} {c} {d} p q = ap (λ (u : List ℕ). u ++ c) p ∙ ap (λ (u : List ℕ). b ++ u) q

-- the first word of a part
first_of : (a e n : ℕ) (t u : List ℕ) → 0 < e - a → between a e t ≡ n ∷ u → at t a ≡ n
first_of a e n t u h p =
    let s : a + 0 ≡ a = omega arith in
    ap (at t) (sym s) ∙ sym (get_or-take (e - a) (drop a t) 0 0 h ∙ get_or-drop a t 0 0) ∙ ap (λ (v : List ℕ). at v 0) p

-- what the words before the seats tell
pub record Fields (t : List ℕ) : Type 0 where
  pub target : is_target (at t 0) ≡ true
  pub kind : at t 1 ≤ 1
  pub admitted : is_stamp (at t 2) ≡ true
  pub drain_by : Optional (at t 3) (at t 4)
  pub terminal : Optional (at t 5) (at t 6)
  pub quiet_left : at t 7 ≤ 1
  pub quiet_right : at t 8 ≤ at t 1

pub fields_sound : (t : List ℕ) → reshape_head_ok t ≡ true → Fields t
unfolding epochs_ok flags_ok
fields_sound t h =
    let z = pass_parts _ h in
    let y = pass_parts _ z.0 in
    let x = pass_parts _ z.1.0 in
    record {
      target = y.0;
      kind = leb-true _ _ x.0;
      admitted = y.1.0;
      drain_by = option_sound (at t 3) (at t 4) y.1.1.0;
      terminal = option_sound (at t 5) (at t 6) y.1.1.1.0;
      quiet_left = leb-true _ _ x.1.0;
      quiet_right = leb-true _ _ x.1.1.0;
    }

-- they pass whatever comes after them
pub fields_complete : (e : Entry Reshape) (rest : List ℕ) → good_reshape e ≡ true → reshape_head_ok (reshape_head e ++ rest) ≡ true
unfolding epochs_ok flags_ok reshape_head reshape_words good_reshape
fields_complete e rest g =
    let p = all_parts _ g in
    pass_joins _ (
      pass_joins _ (p.0, (p.1.0, (option_complete e.val.drain_by p.1.1.0, (option_complete e.val.terminal p.1.1.1.0, tt)))),
      (pass_joins _ (kind_small e.val.kind, (bit_small e.val.quiet_left, (quiet_complete e.val.kind e.val.quiet_right p.1.1.1.1.0, tt))), tt),
    )

-- the reshape of such words and of its lists
module _ {t : List ℕ} (f : Fields t) (seats : Table Seat) (left right : List Id) where
  abbrev pub reshape_of : Entry Reshape
  reshape_of = entry (at t 0) (record {
    kind = kind_of (at t 1);
    admitted = at t 2;
    drain_by = f.drain_by.value;
    terminal = f.terminal.value;
    quiet_left = is_one (at t 7);
    quiet_right = is_one (at t 8);
    seats = seats;
    left = left;
    right = right;
  })

  pub head_is : gets 0 9 t ≡ reshape_head reshape_of
  unfolding reshape_head reshape_words
  head_is =
      let q : at t 8 ≤ 1 = omega (arith, f.quiet_right, f.kind) in
      rw (kind_back (at t 1) f.kind, f.drain_by.flag, f.drain_by.number, f.terminal.flag, f.terminal.number, bit_back (at t 7) f.quiet_left, bit_back (at t 8) q)

  pub reshape_good : {m n : ℕ} → good_table most_seats (good_seat (at t 0)) seats ≡ true → good_ids most_half left ≡ true → good_ids most_half right ≡ true
      → m ≡ length left → n ≡ length right → scheduled_ok (at t 1) (at t 5) m n ≡ true → good_reshape reshape_of ≡ true
  unfolding good_reshape
  reshape_good {m} {n} s a b p q h =
      let halves = halves_sound (at t 1) (at t 5) m n f.terminal.value left right f.terminal.flag p q h in
      all_joins _ (
        f.target,
        (f.admitted, (f.drain_by.fine, (f.terminal.fine, (quiet_sound (at t 1) (at t 8) f.kind f.quiet_right, (s, (a, (b, (halves, tt)))))))),
      )

reshape_sound : (t : List ℕ) → Words t → length t ≡ reshape_width → reshape_ok t ≡ true → Held reshape_row good_reshape t
unfolding reshape_ok halves_ok reshape_row
reshape_sound t ws l h =
    let z = pass_parts _ h in
    let hs = pass_parts _ z.1.1.1.0 in
    let f = fields_sound t (pass_joins _ (z.0, (z.1.0, tt))) in
    let s = (seats_decide (at t 0)).sound (between seats_at left_at t) (between_words seats_at left_at t ws) (between_length seats_at left_at t (omega arith)) z.1.1.0 in
    let a = (ids_decides most_half).sound (between left_at right_at t) (between_words left_at right_at t ws) (between_length left_at right_at t (omega arith)) hs.0 in
    let b = (ids_decides most_half).sound (between right_at reshape_width t) (between_words right_at reshape_width t ws) (between_length right_at reshape_width t (omega arith)) hs.1.0 in
    record {
      value = reshape_of f s.value a.value b.value;
      words = gets_is 9 0 t (omega arith)
          ∙ join (head_is f s.value a.value b.value) (cut seats_at left_at t (omega arith)
          ∙ join s.words (cut left_at right_at t (omega arith) ∙ join a.words (sym (to_end right_at reshape_width t (omega arith)) ∙ b.words)));
      fine = reshape_good f s.value a.value b.value s.fine a.fine b.fine
          (first_of left_at right_at _ t _ (omega arith) a.words) (first_of right_at reshape_width _ t _ (omega arith) b.words) hs.1.1.0;
    }

reshape_complete : (e : Entry Reshape) → good_reshape e ≡ true → reshape_ok (reshape_row e) ≡ true
unfolding reshape_ok halves_ok reshape_row reshape_head reshape_words good_reshape
reshape_complete e g =
    let p = all_parts _ g in
    let S = seat_table e.val.seats in
    let L = id_table most_half e.val.left in
    let R = id_table most_half e.val.right in
    let t = reshape_row e in
    let ls : length S ≡ left_at - seats_at = (seats_decide e.key).wide e.val.seats in
    let la : length L ≡ right_at - left_at = (ids_decides most_half).wide e.val.left in
    let lr : length R ≡ reshape_width - right_at = (ids_decides most_half).wide e.val.right in
    let lt : length t ≤ reshape_width = omega (arith, reshape_wide e) in
    let da : drop left_at t ≡ L ++ R = drop_at S (L ++ R) (left_at - seats_at) ls in
    let db : drop right_at t ≡ R = sym (drop-drop (right_at - left_at) left_at t) ∙ ap (drop (right_at - left_at)) da ∙ drop_at L R (right_at - left_at) la in
    let s : between seats_at left_at t ≡ S = take_at S (L ++ R) (left_at - seats_at) ls in
    let a : between left_at right_at t ≡ L = ap (take (right_at - left_at)) da ∙ take_at L R (right_at - left_at) la in
    let b : between right_at reshape_width t ≡ R = to_end right_at reshape_width t lt ∙ db in
    let y = pass_parts _ (fields_complete e (S ++ (L ++ R)) g) in
    pass_joins _ (
      y.0,
      (
        y.1.0,
        (
          ap (seats_ok e.key) s ∙ (seats_decide e.key).complete e.val.seats p.1.1.1.1.1.0,
          (
            pass_joins _ (
              ap (ids_ok most_half) a ∙ (ids_decides most_half).complete e.val.left p.1.1.1.1.1.1.0,
              (
                ap (ids_ok most_half) b ∙ (ids_decides most_half).complete e.val.right p.1.1.1.1.1.1.1.0,
                (
                  halves_complete e.val.kind e.val.terminal e.val.left e.val.right (at t left_at) (at t right_at)
                      (first_of left_at right_at _ t _ (omega arith) a) (first_of right_at reshape_width _ t _ (omega arith) b) p.1.1.1.1.1.1.1.1.0,
                  tt,
                ),
              ),
            ),
            tt,
          ),
        ),
      ),
    )

pub reshape_decides : Decides reshape_row good_reshape reshape_width reshape_ok
reshape_decides = record { wide = reshape_wide; sound = reshape_sound; complete = reshape_complete }
