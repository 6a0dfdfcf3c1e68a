-- STREAMS DECIDED, once for every kind of row: what pass one tells row by row is what stands in the words.
use Prim.Native.Nat.{ℕ, suc, ◌+◌, ◌-◌, ◌*◌, ◌≤◌, ◌<◌}
use mathlib.Core.Path.{◌≡◌, refl, ap, sym, subst, ◌∙◌}
use mathlib.Core.List.{List, [], ◌∷◌, ◌++◌, append_assoc}
use mathlib.Core.Logic.{◌⊎◌, inl, inr}
use mathlib.Core.Bool.{Bool, true, false, false≢true, or-false}
use native.Mathlib.Omega.{arith}
use native.Mathlib.Numerals.{add-one}
use borrow.Author.Tests.{leb-true, le-leb, eqb-true, eqb-false, eq-eqb, ne_eqb}
use lib.Dec.{eqb, ltb}
use Rattle.std.specs.Prelude.{None, Some}
use Rattle.std.proofs.lemmas.Option.{none-some, same_Some}
use lib.ListN.{length, get_or, drop, length-append, length-drop}
use lib.Seq.{drop-cons, get_or-drop, take-append_seam}
use Rattle.rules.specs.Lists.{every}
use Rattle.rules.specs.WellFormed.{rising, good_list}
use Rattle.rules.specs.Snapshot.{rows_words, section}
use Rattle.rules.proofs.Tests.{and_parts, and_joins, all_parts, all_joins, every_parts, every_join, every_none}
use Rattle.tables.proofs.Tables.{rows_length}
use Rattle.row_tests.specs.declared.RowKind.{RowKind}
use Rattle.word_tests.specs.Tests.{all_pass, any_pass, rises}
use Rattle.row_tests.specs.Rows.{row_ok, in_pairs, width_of}
use Rattle.word_tests.proofs.Decides.{Words, words_cut}
use Rattle.unpacking.specs.Unpacked.{RowOf, full_row, snap_row, RowRead}
use Rattle.unpacking.specs.Parts.{CountRead}
use Rattle.packing.specs.Packed.{row_of}
use Rattle.unpacking.proofs.Parts.{follows}
use Rattle.unpacking.proofs.Rows.{packs_row}
use Rattle.reading.specs.Stream.{good_of, before_of, RowAt, TellsRow, SectionAt, TellsSection}
use Rattle.reading.proofs.EachKind.{row_decides, row_roomy, row_says}

-- a row's order needs two words of the next, or the first alone
module _ (t ws : List ℕ) (at a : ℕ) (p : a ≡ get_or ws at 0) where
  first_there : a ≡ get_or (drop at ws) 0 0
  first_there = let z : at ≡ at + 0 = omega arith in p ∙ ap (λ (n : ℕ). get_or ws n 0) z ∙ sym (get_or-drop at ws 0 0)

  pub rises_two : (pairs : Bool) (b : ℕ) → b ≡ get_or ws (at + 1) 0 → rises pairs t (a ∷ b ∷ []) ≡ rises pairs t (drop at ws)
  rises_two pairs b q = let q' : b ≡ get_or (drop at ws) 1 0 = q ∙ sym (get_or-drop at ws 1 0) in rw (first_there, q')

  pub rises_one : ltb (get_or t 0 0) a ≡ rises false t (drop at ws)
  unfolding any_pass all_pass
  rises_one = rw first_there (sym (or-false _))

-- ---- a row

-- what stands among words are words
pub part_words : (ws t u : List ℕ) (at : ℕ) → Words ws → drop at ws ≡ t ++ u → Words t
part_words ws t u at h e =
    let p : Words (t ++ u) = subst Words e (words_cut at ws h).1 in
    subst Words (take-append_seam t u) (words_cut (length t) (t ++ u) p).0

module _ (k : RowKind) (last : Bool) (ws : List ℕ) (at : ℕ) where
  -- no row stands there
  pub none_told : ((e : ℕ) → RowAt k last ws at e → ⊥) → TellsRow k last ws at None
  none_told h = record { yes = tt; held = λ e p. absurd (h e p) }

  -- nothing was unpacked
  pub row_missing : (t : List ℕ) → RowRead k ws t at None → TellsRow k last ws at None
  row_missing t read = none_told (λ e p. none-some _ (read.whole p.row (drop e ws) (row_roomy k p.row p.good) p.words).1)

  -- of what was unpacked
  module _ (t : List ℕ) (r : ℕ) (read : RowRead k ws t at (Some r)) where
    ends : (e : ℕ) (p : RowAt k last ws at e) → (t ≡ full_row k p.row) × (r ≡ e)
    ends e p =
        let w = read.whole p.row (drop e ws) (row_roomy k p.row p.good) p.words in
        (w.0, same_Some _ _ w.1 ∙ sym p.next)

    pub row_bad : row_ok k t ≡ false → TellsRow k last ws at None
    row_bad h = none_told (λ e p. false≢true (sym h ∙ ap (row_ok k) (ends e p).0 ∙ (row_decides k).complete p.row p.good))

    pub row_falls : last ≡ false → rises (in_pairs k) t (drop r ws) ≡ false → TellsRow k last ws at None
    row_falls l h = none_told (λ e p. go e p p.order)
      where
        go : (e : ℕ) (p : RowAt k last ws at e) → (last ≡ true) ⊎ (rises (in_pairs k) (full_row k p.row) (drop e ws) ≡ true) → ⊥
        go e p (inl y) = false≢true (sym l ∙ y)
        go e p (inr y) =
            let q = ends e p in
            false≢true (sym h ∙ ap (λ (u : List ℕ). rises (in_pairs k) u (drop r ws)) q.0 ∙ ap (λ (n : ℕ). rises (in_pairs k) (full_row k p.row) (drop n ws)) q.1 ∙ y)

    pub row_told : Words t → length t ≡ width_of k → row_ok k t ≡ true → (last ≡ true) ⊎ (rises (in_pairs k) t (drop r ws) ≡ true) → TellsRow k last ws at (Some r)
    row_told v l ok o =
        let d = (row_decides k).sound t v l ok in
        let s : drop at ws ≡ snap_row k d.value ++ drop r ws =
        read.read.2 ∙ ap (λ (u : List ℕ). row_of k u ++ drop r ws) d.words ∙ ap (λ (u : List ℕ). u ++ drop r ws) (packs_row k d.value (row_roomy k d.value d.fine)) in
        record {
          yes = record {
            row = d.value;
            good = d.fine;
            words = s;
            next = same_Some _ _ (read.whole d.value (drop r ws) (row_roomy k d.value d.fine) s).1;
            order = go d.words o;
          };
          held = λ e p. ap Some (ends e p).1;
        }
      where
        go : {u : List ℕ} → t ≡ u → (last ≡ true) ⊎ (rises (in_pairs k) t (drop r ws) ≡ true) → (last ≡ true) ⊎ (rises (in_pairs k) u (drop r ws) ≡ true)
        go e (inl y) = inl y
        go e (inr y) = inr (ap (λ (v : List ℕ). rises (in_pairs k) v (drop r ws)) (sym e) ∙ y)

-- ---- rows in order

-- n good rows in order from a up to e
pub record RowsAt (k : RowKind) (n : ℕ) (ws : List ℕ) (a e : ℕ) : Type 0 where
  pub rows : List (RowOf k)
  pub count : length rows ≡ n
  pub each : every (good_of k) rows ≡ true
  pub order : rising (before_of k) rows ≡ true
  pub words : drop a ws ≡ rows_words (snap_row k) rows ++ drop e ws
  pub next : e ≡ a + length (rows_words (snap_row k) rows)

module _ (k : RowKind) (ws : List ℕ) where
  rows_cons : (x : RowOf k) (xs : List (RowOf k)) (z : List ℕ) → rows_words (snap_row k) (x ∷ xs) ++ z ≡ snap_row k x ++ (rows_words (snap_row k) xs ++ z)
  unfolding rows_words
  rows_cons x xs z = append_assoc (snap_row k x) (rows_words (snap_row k) xs) z

  rows_long : (x : RowOf k) (xs : List (RowOf k)) → length (rows_words (snap_row k) (x ∷ xs)) ≡ length (snap_row k x) + length (rows_words (snap_row k) xs)
  unfolding rows_words
  rows_long x xs = length-append (snap_row k x) (rows_words (snap_row k) xs)

  rows_none : (a : ℕ) → RowsAt k 0 ws a a
  unfolding rows_words rising
  rows_none a = record { rows = []; count = refl; each = every_none _; order = refl; words = refl; next = omega arith }

  rows_over : (a e : ℕ) → RowsAt k 0 ws a e → a ≡ e
  unfolding rows_words
  rows_over a e p = go p.rows p.count p.next
    where
      go : (l : List (RowOf k)) → length l ≡ 0 → e ≡ a + length (rows_words (snap_row k) l) → a ≡ e
      go [] c x = omega arith
      go (y ∷ l) c x = absurd (omega arith)

  module _ (n a : ℕ) (last : Bool) (h : 0 < n) (l : last ≡ eqb n 1) where
    -- a row and those after it
    rows_join : (m e : ℕ) → RowAt k last ws a m → RowsAt k (n - 1) ws m e → RowsAt k n ws a e
    unfolding rising
    rows_join m e p q = record {
      rows = p.row ∷ q.rows;
      count = omega (arith, q.count);
      each = every_join _ _ _ p.good q.each;
      order = go q.rows q.count q.order q.words p.order;
      words = p.words ∙ ap (λ (u : List ℕ). snap_row k p.row ++ u) q.words ∙ sym (rows_cons p.row q.rows (drop e ws));
      next = omega (arith, p.next, q.next, rows_long p.row q.rows);
    }
      where
        go : (xs : List (RowOf k)) → length xs ≡ n - 1 → rising (before_of k) xs ≡ true → drop m ws ≡ rows_words (snap_row k) xs ++ drop e ws
            → (last ≡ true) ⊎ (rises (in_pairs k) (full_row k p.row) (drop m ws) ≡ true) → rising (before_of k) (p.row ∷ xs) ≡ true
        go [] c o w s = refl
        go (y ∷ ys) c o w (inl s) = absurd (omega (arith, eqb-true n 1 (sym l ∙ s)))
        go (y ∷ ys) c o w (inr s) =
            and_joins _ _ (sym (row_says k p.row y (rows_words (snap_row k) ys ++ drop e ws))
            ∙ ap (rises (in_pairs k) (full_row k p.row)) (sym (w ∙ rows_cons y ys (drop e ws))) ∙ s) o

    -- the first of them, and those after it
    record Parted (e : ℕ) : Type 0 where
      middle : ℕ
      first : RowAt k last ws a middle
      others : RowsAt k (n - 1) ws middle e

    rows_part : (e : ℕ) → RowsAt k n ws a e → Parted e
    unfolding rising
    rows_part e p = go p.rows p.count p.each p.order p.words p.next
      where
        below : (x : RowOf k) (xs : List (RowOf k)) (m : ℕ) → length (x ∷ xs) ≡ n → rising (before_of k) (x ∷ xs) ≡ true → drop m ws ≡ rows_words (snap_row k) xs ++ drop e ws
            → ((last ≡ true) ⊎ (rises (in_pairs k) (full_row k x) (drop m ws) ≡ true)) × (rising (before_of k) xs ≡ true)
        below x [] m c o w = (inl (l ∙ eq-eqb n 1 (sym c)), refl)
        below x (y ∷ ys) m c o w =
            let q = and_parts (before_of k x y) (rising (before_of k) (y ∷ ys)) o in
            (inr (ap (rises (in_pairs k) (full_row k x)) (w ∙ rows_cons y ys (drop e ws)) ∙ row_says k x y _ ∙ q.0), q.1)

        go : (xs : List (RowOf k)) → length xs ≡ n → every (good_of k) xs ≡ true → rising (before_of k) xs ≡ true → drop a ws ≡ rows_words (snap_row k) xs ++ drop e ws
            → e ≡ a + length (rows_words (snap_row k) xs) → Parted e
        go [] c g o w s = absurd (omega arith)
        go (x ∷ xs) c g o w s =
            let m = a + length (snap_row k x) in
            let q = every_parts (good_of k) x xs g in
            let v : drop a ws ≡ snap_row k x ++ (rows_words (snap_row k) xs ++ drop e ws) = w ∙ rows_cons x xs (drop e ws) in
            let f : drop m ws ≡ rows_words (snap_row k) xs ++ drop e ws = follows a m ws (snap_row k x) _ v refl in
            let b = below x xs m c o f in
            record {
              middle = m;
              first = record { row = x; good = q.0; words = v ∙ ap (λ (u : List ℕ). snap_row k x ++ u) (sym f); next = refl; order = b.0 };
              others = record { rows = xs; count = omega arith; each = q.1; order = b.1; words = f; next = omega (arith, rows_long x xs) };
            }

-- n rows of w words each are all there
pub rows_fit : (k : RowKind) (w : ℕ) → ((x : RowOf k) → length (snap_row k x) ≡ w) → (ws : List ℕ) (n a e : ℕ) → RowsAt k n ws a e → n * w ≤ length ws - a
rows_fit k w fw ws n a e p =
    omega (arith, ap length p.words, length-append (rows_words (snap_row k) p.rows) (drop e ws), length-drop a ws, rows_length (snap_row k) w fw p.rows, ap (λ (m : ℕ). m * w) p.count)

-- a row is the last of those that are left where none is after it
pub last_is : (after n : ℕ) → n ≡ after + 1 → eqb after 0 ≡ eqb n 1
last_is after n e = go (eqb after 0) refl
  where
    go : (b : Bool) → eqb after 0 ≡ b → b ≡ eqb n 1
    go true h = let z = eqb-true after 0 h in sym (eq-eqb n 1 (omega arith))
    go false h = sym (ne_eqb n 1 (λ p. eqb-false after 0 h (omega arith)))

-- ---- a section

module _ (k : RowKind) (cap : ℕ) (ws : List ℕ) (at : ℕ) where
  -- a section there is n rows that are left from a on
  pub record Left (n a : ℕ) : Type 0 where
    pub into : (e : ℕ) → RowsAt k n ws a e → SectionAt k cap ws at e
    pub back : (e : ℕ) → SectionAt k cap ws at e → RowsAt k n ws a e

  pub counted : (e : ℕ) → SectionAt k cap ws at e → (at < length ws) × (get_or ws at 0 ≤ cap) × RowsAt k (get_or ws at 0) ws (at + 1) e
  unfolding section good_list
  counted e p =
      let g = all_parts _ p.good in
      let c : get_or ws at 0 ≡ length p.rows =
      let z : at + 0 ≡ at = omega arith in ap (λ (n : ℕ). get_or ws n 0) (sym z) ∙ sym (get_or-drop at ws 0 0) ∙ ap (λ (u : List ℕ). get_or u 0 0) p.words in (
        omega (arith, length-drop at ws, ap length p.words),
        omega (arith, leb-true (length p.rows) cap g.0),
        record {
          rows = p.rows;
          count = sym c;
          each = g.1.0;
          order = g.1.1.0;
          words = follows at (at + 1) ws (length p.rows ∷ []) _ p.words refl;
          next = omega (arith, p.next);
        },
      )

  pub start : at < length ws → get_or ws at 0 ≤ cap → Left (get_or ws at 0) (at + 1)
  unfolding section good_list
  start h m = record {
    into = λ e p. record {
      rows = p.rows;
      good = all_joins _ (le-leb (length p.rows) cap (omega (arith, p.count)), (p.each, (p.order, tt)));
      words = drop-cons ws at 0 h ∙ ap (λ (n : ℕ). n ∷ drop (suc at) ws) (sym p.count) ∙ ap (λ (u : List ℕ). length p.rows ∷ u) (ap (λ (n : ℕ). drop n ws) (sym (add-one at)) ∙ p.words);
      next = omega (arith, p.next);
    };
    back = λ e p. (counted e p).2;
  }

  -- no section stands there
  pub section_none : ((e : ℕ) → SectionAt k cap ws at e → ⊥) → TellsSection k cap ws at None
  section_none h = record { yes = tt; held = λ e p. absurd (h e p) }

  -- no count does
  pub count_none : CountRead cap ws at None → TellsSection k cap ws at None
  count_none c = section_none (λ e p. go e p c.no)
    where
      go : (e : ℕ) → SectionAt k cap ws at e → (length ws ≤ at) ⊎ (cap < get_or ws at 0) → ⊥
      go e p (inl past) = omega (arith, (counted e p).0)
      go e p (inr many) = omega (arith, (counted e p).1)

  pub count_start : (n : ℕ) → CountRead cap ws at (Some n) → Left n (at + 1)
  count_start n c = let y = c.yes in rw y.2 (start y.0 (omega (arith, y.1, y.2)))

  module _ (n a : ℕ) (left : Left n a) where
    pub section_over : n ≡ 0 → TellsSection k cap ws at (Some a)
    section_over z = record {
      yes = left.into a (rw z (rows_none k ws a));
      held = λ e p. ap Some (rows_over k ws a e (rw z at (left.back e p)));
    }

    module _ (last : Bool) (h : 0 < n) (l : last ≡ eqb n 1) where
      pub section_fails : TellsRow k last ws a None → TellsSection k cap ws at None
      section_fails told = section_none (λ e p. let q = rows_part k ws n a last h l e (left.back e p) in none-some _ (told.held q.middle q.first))

      pub section_more : (r : ℕ) → TellsRow k last ws a (Some r) → Left (n - 1) r
      section_more r told = record {
        into = λ e p. left.into e (rows_join k ws n a last h l r e told.yes p);
        back = λ e p. let q = rows_part k ws n a last h l e (left.back e p) in let s = same_Some _ _ (told.held q.middle q.first) in rw s q.others;
      }
