-- A reshape's seats told by their words in a snapshot: a count and that many seats.
use Prim.Native.Nat.{ℕ, ◌+◌, ◌-◌, ◌*◌, ◌/◌, ◌≤◌, ◌<◌}
use mathlib.Core.Path.{◌≡◌, refl, ap, sym, ◌∙◌}
use mathlib.Core.List.{List, [], ◌∷◌, ◌++◌}
use mathlib.Core.Bool.{Bool, true, false, ◌&&◌, ◌||◌, false≢true}
use native.Mathlib.Omega.{arith}
use borrow.Author.Tests.{leb-true, le-leb, eqb-false}
use lib.Dec.{eqb}
use Rattle.std.specs.Prelude.{None, Some}
use lib.ListN.{length, get_or, take, drop, length-drop, take-append-drop}
use lib.Seq.{get_or-drop, get_or-take, take_at, take-take, drop-drop, length-take-le}
use Rattle.rules.specs.Table.{Table}
use Rattle.rules.specs.Board.{Seat, most_seats}
use Rattle.rules.specs.WellFormed.{key_before, good_list, good_table, good_seat}
use Rattle.rules.specs.Snapshot.{rows_words, section, seat_words}
use Rattle.rules.proofs.Tests.{all_parts, all_joins}
use Rattle.tables.specs.Rows.{pad, table}
use Rattle.tables.proofs.Tables.{rows_length}
use Rattle.shifts.proofs.Parts.{gets_take}
use Rattle.board.specs.Layout.{seat_width}
use Rattle.board.proofs.Widths.{seat_wide}
use Rattle.word_tests.specs.Tests.{at, all_pass, any_pass, all_zero, rises, first_ok, rows_ok, table_ok}
use Rattle.word_tests.proofs.Decides.{Words, words_cut, Decides, table_decides}
use Rattle.word_tests.proofs.Loops.{zero_nil}
use Rattle.word_tests.proofs.Turns.{first_is, table_start, table_end, table_fails, table_more}
use Rattle.row_tests.specs.Rows.{seat_ok}
use Rattle.row_tests.proofs.Reshapes.{seat_decides, seat_says}
use Rattle.unpacking.specs.AsWords.{AsWords}
use Rattle.unpacking.proofs.Parts.{ends}
use Rattle.id_lists.proofs.Places.{from_rest}
use Rattle.reading.specs.Reshape.{SeatsAt, TellsSeats}

-- ---- one seat

-- the order is by the first words alone
first_alone : (s t u v : List ℕ) → at s 0 ≡ at t 0 → at u 0 ≡ at v 0 → rises false s u ≡ rises false t v
unfolding all_pass any_pass
first_alone s t u v p q = rw (p, q)

-- the first of n seats from a on, by its three words
module _ (target n a : ℕ) (ws : List ℕ) (some : 0 < n) (room : a + n * seat_width ≤ length ws) where
  abbrev seats : List ℕ
  seats = take (n * seat_width) (drop a ws)

  seats_long : length seats ≡ n * seat_width
  seats_long = length-take-le (n * seat_width) (drop a ws) (omega (arith, length-drop a ws))

  -- only a seat before another has to be below it
  order_asked : (r o p : Bool) → (1 < n → o ≡ p) → (r && (eqb n 1 || o)) ≡ (r && (eqb n 1 || p))
  order_asked r o p h = go (eqb n 1) refl
    where
      go : (b : Bool) → eqb n 1 ≡ b → (r && (eqb n 1 || o)) ≡ (r && (eqb n 1 || p))
      go true e = rw e
      go false e = rw (h (omega (arith, eqb-false n 1 e)))

  pub first_seat_is : (x y z : ℕ) (r o : Bool) → x ≡ get_or ws a 0 → y ≡ get_or ws (a + 1) 0 → z ≡ get_or ws (a + 2) 0 → r ≡ seat_ok target (x ∷ y ∷ z ∷ [])
      → o ≡ rises false (x ∷ y ∷ z ∷ []) (drop (a + 3) ws) → (r && (eqb n 1 || o)) ≡ first_ok (seat_ok target) (rises false) seat_width n seats
  first_seat_is x y z r o ex ey ez er eo =
      let a0 : a + 0 ≡ a = omega arith in
      let x' : x ≡ at (drop a ws) 0 = ex ∙ ap (at ws) (sym a0) ∙ sym (get_or-drop a ws 0 0) in
      let three : x ∷ y ∷ z ∷ [] ≡ take 3 seats =
      rw (x', ey ∙ sym (get_or-drop a ws 1 0), ez ∙ sym (get_or-drop a ws 2 0)) (gets_take 3 (drop a ws) (omega (arith, length-drop a ws)))
      ∙ sym (take-take 3 (n * seat_width) (drop a ws) (omega arith)) in
      let next : 1 < n → o ≡ rises false seats (take (length seats - 3) (drop 3 seats)) =
      λ more.
      let b0 : a + 3 + 0 ≡ a + 3 = omega arith in
      eo ∙ first_alone (x ∷ y ∷ z ∷ []) seats (drop (a + 3) ws) (take (length seats - 3) (drop 3 seats))
      (x' ∙ sym (get_or-take (n * seat_width) (drop a ws) 0 0 (omega arith)))
      (get_or-drop (a + 3) ws 0 0 ∙ ap (at ws) b0 ∙ sym (get_or-take (length seats - 3) (drop 3 seats) 0 0 (omega (arith, seats_long)) ∙ get_or-drop 3 seats 0 0
      ∙ get_or-take (n * seat_width) (drop a ws) 3 0 (omega arith) ∙ get_or-drop a ws 3 0)) in
      order_asked r o _ next
      ∙ first_is (seat_ok target) (rises false) seat_width 3 refl n seats r _ (omega (arith, seats_long)) (er ∙ ap (seat_ok target) three) refl

-- ---- the loop over them

-- the test of n seats is that of those that are left, b words after the count
abbrev pub SeatsLeft : ℕ → ℕ → ℕ → List ℕ → ℕ → ℕ → Type 0
SeatsLeft target n a ws left b =
    table_ok (seat_ok target) (rises false) seat_width n (take (1 + n * seat_width) (drop a ws))
    ≡ rows_ok (seat_ok target) (rises false) seat_width left (drop b (take (1 + n * seat_width) (drop a ws)))

module _ {bs ws : List ℕ} (h : AsWords bs ws) (target n a : ℕ) (room : a + (1 + n * seat_width) ≤ length bs / 8) where
  abbrev all : List ℕ
  all = take (1 + n * seat_width) (drop a ws)

  pub seats_start : n ≡ get_or ws a 0 → SeatsLeft target n a ws n 1
  seats_start count =
      let a0 : a + 0 ≡ a = omega arith in
      let c : at all 0 ≡ n = get_or-take (1 + n * seat_width) (drop a ws) 0 0 (omega arith) ∙ get_or-drop a ws 0 0 ∙ ap (at ws) a0 ∙ sym count in
      table_start (seat_ok target) (rises false) seat_width n all (omega (arith, c)) ∙ ap (λ (m : ℕ). rows_ok (seat_ok target) (rises false) seat_width m (drop 1 all)) c

  module _ (left b : ℕ) (place : b + left * seat_width ≡ 1 + n * seat_width) (inv : SeatsLeft target n a ws left b) where
    rest : take (left * seat_width) (drop (a + b) ws) ≡ take (length all - b) (drop b all)
    rest =
        let m : left * seat_width ≡ 1 + n * seat_width - b = omega arith in
        ap (λ (k : ℕ). take k (drop (a + b) ws)) m ∙ from_rest h a (1 + n * seat_width) room b (omega arith)

    pub seats_over : left ≤ 0 → true ≡ table_ok (seat_ok target) (rises false) seat_width n all
    seats_over z =
        let k : left * seat_width ≡ 0 = omega arith in
        table_end (seat_ok target) (rises false) seat_width n all left b 0 true inv z
        (sym zero_nil ∙ ap all_zero (ap (λ (m : ℕ). take m (drop (a + b) ws)) (sym k) ∙ rest))

    module _ (r : Bool) (some : 0 < left) (first : r ≡ first_ok (seat_ok target) (rises false) seat_width left (take (left * seat_width) (drop (a + b) ws))) where
      first' : r ≡ first_ok (seat_ok target) (rises false) seat_width left (take (length all - b) (drop b all))
      first' = first ∙ ap (first_ok (seat_ok target) (rises false) seat_width left) rest

      pub seats_fail : r ≡ false → false ≡ table_ok (seat_ok target) (rises false) seat_width n all
      seats_fail f = table_fails (seat_ok target) (rises false) seat_width n all left b 0 r inv some first' f

      pub seats_more : r ≡ true → SeatsLeft target n a ws (left - 1) (b + 3)
      seats_more f = table_more (seat_ok target) (rises false) seat_width n all left b 3 r inv some first' refl f

-- ---- the seats

full : (n : ℕ) (l : List ℕ) → length l ≡ n → pad n l ≡ l
unfolding pad
full n l e = take_at l _ n e

-- another limit
within : (g m n : ℕ) (l : Table Seat) → length l ≤ n → good_table m (good_seat g) l ≡ true → good_table n (good_seat g) l ≡ true
unfolding good_list
within g m n l h p = let y = all_parts _ p in all_joins _ (le-leb (length l) n h, y.1)

few_seats : (g m : ℕ) (l : Table Seat) → good_table m (good_seat g) l ≡ true → length l ≤ m
unfolding good_list
few_seats g m l p = leb-true (length l) m (all_parts _ p).0

-- n seats without room for more
decided : (target n : ℕ) → Decides (table seat_words seat_width n) (good_table n (good_seat target)) (1 + n * seat_width) (table_ok (seat_ok target) (rises false) seat_width n)
decided target n = table_decides seat_words (good_seat target) seat_width (seat_ok target) (seat_decides target) key_before (rises false) seat_says n

packed : (n : ℕ) (l : Table Seat) → length l ≡ n → table seat_words seat_width n l ≡ section seat_words l
unfolding section
packed n l e = ap (λ (u : List ℕ). length l ∷ u) (full (n * seat_width) (rows_words seat_words l) (rows_length seat_words seat_width seat_wide l ∙ ap (λ (m : ℕ). m * seat_width) e))

section_long : (l : Table Seat) → length (section seat_words l) ≡ 1 + length l * seat_width
unfolding section
section_long l = omega (arith, rows_length seat_words seat_width seat_wide l)

section_first : (l : Table Seat) (z : List ℕ) → at (section seat_words l ++ z) 0 ≡ length l
unfolding section
section_first l z = refl

module _ (target : ℕ) (ws : List ℕ) (a n : ℕ) (count : n ≡ get_or ws a 0) where
  -- no seats stand there
  seats_none : ((e : ℕ) → SeatsAt target ws a e → ⊥) → TellsSeats target ws a None
  seats_none h = record { yes = tt; held = λ e p. absurd (h e p) }

  -- where seats stand, they are n
  record There (e : ℕ) (p : SeatsAt target ws a e) : Type 0 where
    count' : length p.seats ≡ n
    next' : e ≡ a + (1 + n * seat_width)
    fits : a + (1 + n * seat_width) ≤ length ws
    words' : take (1 + n * seat_width) (drop a ws) ≡ section seat_words p.seats

  there : (e : ℕ) (p : SeatsAt target ws a e) → There e p
  there e p =
      let l = p.seats in
      let a0 : a + 0 ≡ a = omega arith in
      let c : length l ≡ n = sym (count ∙ ap (at ws) (sym a0) ∙ sym (get_or-drop a ws 0 0) ∙ ap (λ (u : List ℕ). at u 0) p.words ∙ section_first l (drop e ws)) in
      let long : length (section seat_words l) ≡ 1 + n * seat_width = section_long l ∙ ap (λ (m : ℕ). 1 + m * seat_width) c in
      record {
        count' = c;
        next' = p.next ∙ ap (λ (m : ℕ). a + m) long;
        fits = omega (arith, ends a ws (section seat_words l) (drop e ws) p.words (omega (arith, long)), long);
        words' = ap (take (1 + n * seat_width)) p.words ∙ take_at (section seat_words l) (drop e ws) (1 + n * seat_width) long;
      }

  pub seats_short : length ws < a + (1 + n * seat_width) → TellsSeats target ws a None
  seats_short h = seats_none (λ e p. omega (arith, (there e p).fits))

  pub seats_many : most_seats < n → TellsSeats target ws a None
  seats_many h = seats_none (λ e p. omega (arith, (there e p).count', few_seats target most_seats p.seats p.good))

  abbrev words : List ℕ
  words = take (1 + n * seat_width) (drop a ws)

  pub seats_bad : false ≡ table_ok (seat_ok target) (rises false) seat_width n words → TellsSeats target ws a None
  seats_bad h = seats_none (λ e p.
      let t = there e p in
      let g = within target most_seats n p.seats (omega (arith, t.count')) p.good in
      false≢true (h ∙ ap (table_ok (seat_ok target) (rises false) seat_width n) (t.words' ∙ sym (packed n p.seats t.count')) ∙ (decided target n).complete p.seats g))

  pub seats_told : n ≤ most_seats → a + (1 + n * seat_width) ≤ length ws → Words ws → true ≡ table_ok (seat_ok target) (rises false) seat_width n words
      → TellsSeats target ws a (Some (a + (1 + n * seat_width)))
  seats_told few room v ok =
      let long : length words ≡ 1 + n * seat_width = length-take-le (1 + n * seat_width) (drop a ws) (omega (arith, length-drop a ws)) in
      let d = (decided target n).sound words (words_cut (1 + n * seat_width) (drop a ws) (words_cut a ws v).1).0 long (sym ok) in
      let l = d.value in
      let a0 : a + 0 ≡ a = omega arith in
      let c : length l ≡ n = sym (count ∙ ap (at ws) (sym a0) ∙ sym (get_or-drop a ws 0 0) ∙ sym (get_or-take (1 + n * seat_width) (drop a ws) 0 0 (omega arith)) ∙ ap (λ (u : List ℕ). at u 0) d.words) in
      let back : words ≡ section seat_words l = d.words ∙ packed n l c in
      record {
        yes = record {
          seats = l;
          good = within target n most_seats l (omega arith) d.fine;
          words = sym (take-append-drop (1 + n * seat_width) (drop a ws)) ∙ ap (λ (u : List ℕ). u ++ drop (1 + n * seat_width) (drop a ws)) back
              ∙ ap (λ (u : List ℕ). section seat_words l ++ u) (drop-drop (1 + n * seat_width) a ws);
          next = omega (arith, ap length back, long);
        };
        held = λ e p. ap Some (sym (there e p).next');
      }
