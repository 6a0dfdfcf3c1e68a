-- Words decided: a test that says yes exactly of the words of a good value. Rows decided, so the table is decided.
use Prim.Native.Nat.{ℕ, zero, suc, ◌+◌, ◌-◌, ◌*◌, ◌≤◌, ◌<◌}
use mathlib.Core.Path.{◌≡◌, refl, ap, sym, ◌∙◌}
use mathlib.Core.List.{List, [], ◌∷◌, ◌++◌, append_assoc}
use mathlib.Core.Logic.{inl, inr}
use mathlib.Core.Bool.{Bool, true}
use native.Mathlib.Omega.{arith}
use native.Mathlib.Nat.{mul-le-mul_right}
use borrow.Author.Tests.{le-leb, leb-true, eqb-true}
use lib.Dec.{eqb, leb}
use lib.ListN.{length, take, drop, replicate, length-append, length-drop, take-append-drop}
use lib.Seq.{take_at, drop_at, drop-cons, length-take-le}
use Rattle.rules.specs.Lists.{every, distinct}
use Rattle.rules.specs.Board.{last_word}
use Rattle.rules.specs.WellFormed.{is_word, rising, good_list, good_ids}
use Rattle.rules.specs.Snapshot.{rows_words, id_words}
use Rattle.rules.proofs.Tests.{Yes, and_parts, and_joins, all_parts, all_joins, every_parts, every_join, every_none}
use Rattle.tables.specs.Rows.{pad, table, id_table}
use Rattle.tables.proofs.Tables.{pad_is, rows_length, table_length}
use Rattle.tables.proofs.Ids.{id_words_lem}
use Rattle.word_tests.specs.Tests.{at, any_pass, all_zero, ids_ok, first_ok, rows_ok, table_ok}
use Rattle.word_tests.proofs.Tests.{Some, pass_parts, pass_joins, any_cases, any_joins}

-- ---- what is lent is words: each is a 64-bit number

abbrev pub Words : List ℕ → Type 0
Words t = every is_word t ≡ true

pub words_cut : (n : ℕ) (t : List ℕ) → Words t → Words (take n t) × Words (drop n t)
words_cut zero t h = (every_none _, h)
words_cut (suc n) [] h = (h, h)
words_cut (suc n) (x ∷ t) h = let p = every_parts _ _ _ h in let q = words_cut n t p.1 in (every_join _ _ _ p.0 q.0, q.1)

pub word_at : (t : List ℕ) (i : ℕ) → Words t → is_word (at t i) ≡ true
word_at [] i h = refl
word_at (x ∷ t) zero h = (every_parts is_word x t h).0
word_at (x ∷ t) (suc i) h = word_at t i (every_parts is_word x t h).1

pub words_all : (t : List ℕ) → ((i : ℕ) → at t i ≤ last_word) → Words t
words_all [] h = every_none _
words_all (x ∷ t) h = every_join _ _ _ (le-leb x last_word (h 0)) (words_all t (λ i. h (suc i)))

-- ---- decided

-- the words t are those of a good value
pub record Held {A : Type 0} (f : A → List ℕ) (good : A → Bool) (t : List ℕ) : Type 0 where
  pub value : A
  pub words : t ≡ f value
  pub fine : good value ≡ true

-- ok decides, of w words, whether they are those of a good value
pub record Decides {A : Type 0} (f : A → List ℕ) (good : A → Bool) (w : ℕ) (ok : List ℕ → Bool) : Type 0 where
  pub wide : (x : A) → length (f x) ≡ w
  pub sound : (t : List ℕ) → Words t → length t ≡ w → ok t ≡ true → Held f good t
  pub complete : (x : A) → good x ≡ true → ok (f x) ≡ true

-- ---- zeros and padding

pub zero_sound : (t : List ℕ) → all_zero t ≡ true → t ≡ replicate (length t) 0
zero_sound [] h = refl
zero_sound (x ∷ t) h =
    let p = every_parts _ x t h in
    let e : x ≡ 0 = eqb-true x 0 p.0 in
    let r : t ≡ replicate (length t) 0 = zero_sound t p.1 in
    ap (λ (y : ℕ). y ∷ t) e ∙ ap (λ (l : List ℕ). 0 ∷ l) r

pub zero_complete : (n : ℕ) → all_zero (replicate n 0) ≡ true
zero_complete zero = every_none _
zero_complete (suc n) = every_join _ _ _ refl (zero_complete n)

-- words and then zeros are the words padded
pub padded : (n : ℕ) (t l z : List ℕ) → t ≡ l ++ z → length t ≡ n → all_zero z ≡ true → t ≡ pad n l
padded n t l z e m h =
    let s : length t ≡ length l + length z = ap length e ∙ length-append l z in
    let k : length z ≡ n - length l = omega arith in
    e ∙ ap (λ (u : List ℕ). l ++ u) (zero_sound z h ∙ ap (λ (j : ℕ). replicate j 0) k) ∙ sym (pad_is n l (omega arith))

pub heads : (t : List ℕ) → 0 < length t → t ≡ at t 0 ∷ drop 1 t
heads t h = drop-cons t 0 0 h

-- ---- ids

module _ (cap : ℕ) where
  ids_sound : (t : List ℕ) → Words t → length t ≡ 1 + cap → ids_ok cap t ≡ true → Held (id_table cap) (good_ids cap) t
  unfolding ids_ok good_ids
  ids_sound t ws l h =
      let y = pass_parts _ h in
      let n = at t 0 in
      let body = drop 1 t in
      let r : n ≤ cap = leb-true _ _ y.0 in
      let bl : length body ≡ cap = length-drop 1 t ∙ omega arith in
      let nl : length (take n body) ≡ n = length-take-le n body (omega arith) in
      let rl : length (take n body) ≤ cap = omega arith in
      record {
        value = take n body;
        words = heads t (omega arith)
            ∙ ap (λ (m : ℕ). m ∷ body) (sym nl)
            ∙ ap (λ (u : List ℕ). length (take n body) ∷ u) (padded cap body (take n body) (drop n body) (sym (take-append-drop n body)) bl y.1.1.0)
            ∙ sym (id_words_lem cap (take n body));
        fine = all_joins _ (le-leb _ _ rl, ((words_cut n body (words_cut 1 t ws).1).0, (y.1.0, tt)));
      }

  ids_complete : (l : List ℕ) → good_ids cap l ≡ true → ids_ok cap (id_table cap l) ≡ true
  unfolding ids_ok good_ids
  ids_complete l g =
      let p = all_parts _ g in
      let z : List ℕ = replicate (cap - length l) 0 in
      let e : pad cap l ≡ l ++ z = pad_is cap l (leb-true _ _ p.0) in
      ap (ids_ok cap) (id_words_lem cap l)
      ∙ pass_joins _ (
        p.0,
        (
          ap (λ (u : List ℕ). distinct (take (length l) u)) e ∙ ap distinct (take_at l z (length l) refl) ∙ p.1.1.0,
          (
            ap (λ (u : List ℕ). all_zero (drop (length l) u)) e ∙ ap all_zero (drop_at l z (length l) refl) ∙ zero_complete (cap - length l),
            tt,
          ),
        ),
      )

  pub ids_decides : Decides (id_table cap) (good_ids cap) (1 + cap) (ids_ok cap)
  ids_decides = record { wide = λ l. omega (arith, table_length id_words 1 cap l); sound = ids_sound; complete = ids_complete }

-- ---- a table: rows decided, so the table is decided

-- what the first n rows' words hold, and the words after them
record RowsHeld {A : Type 0} (f : A → List ℕ) (good : A → Bool) (before : A → A → Bool) (n : ℕ) (t : List ℕ) : Type 0 where
  list : List A
  rest : List ℕ
  count : length list ≡ n
  each : every good list ≡ true
  order : rising before list ≡ true
  words : t ≡ rows_words f list ++ rest
  zeros : all_zero rest ≡ true

-- lt reads no further than a row, and says what before says
module _ {A : Type 0} (f : A → List ℕ) (good : A → Bool) (w : ℕ) (ok : List ℕ → Bool) (d : Decides f good w ok) (before : A → A → Bool) (lt : List ℕ → List ℕ → Bool)
    (says : (x y : A) (a b : List ℕ) → lt (f x ++ a) (f y ++ b) ≡ before x y) where
  rows_cons : (x : A) (xs : List A) (z : List ℕ) → rows_words f (x ∷ xs) ++ z ≡ f x ++ (rows_words f xs ++ z)
  unfolding rows_words
  rows_cons x xs z = append_assoc (f x) (rows_words f xs) z

  rising_one : (x : A) → rising before (x ∷ []) ≡ true
  unfolding rising
  rising_one x = refl

  rising_more : (x y : A) (xs : List A) → before x y ≡ true → rising before (y ∷ xs) ≡ true → rising before (x ∷ y ∷ xs) ≡ true
  unfolding rising
  rising_more x y xs p q = and_joins _ _ p q

  rising_parts : (x y : A) (xs : List A) → rising before (x ∷ y ∷ xs) ≡ true → (before x y ≡ true) × (rising before (y ∷ xs) ≡ true)
  unfolding rising
  rising_parts x y xs h = and_parts _ _ h

  -- the test of the order: at the words, and of the list
  before_sound : (n : ℕ) (x : A) (xs : List A) (t z : List ℕ) → length xs ≡ n → t ≡ f x ++ (rows_words f xs ++ z)
      → any_pass (eqb (suc n) 1 ∷ lt t (drop w t) ∷ []) ≡ true → rising before xs ≡ true → rising before (x ∷ xs) ≡ true
  before_sound n x [] t z l e h c = rising_one x
  before_sound n x (y ∷ ys) t z l e h c = rising_more x y ys (go (any_cases _ h)) c
    where
      q : drop w t ≡ f y ++ (rows_words f ys ++ z)
      q = ap (drop w) e ∙ drop_at (f x) (rows_words f (y ∷ ys) ++ z) w (d.wide x) ∙ rows_cons y ys z

      go : Some (eqb (suc n) 1 ∷ lt t (drop w t) ∷ []) → before x y ≡ true
      go (inl p) = absurd (omega (arith, eqb-true (suc n) 1 p))
      go (inr (inl p)) = sym (says x y _ _) ∙ ap (λ (u : List ℕ). lt u (f y ++ (rows_words f ys ++ z))) (sym e) ∙ ap (lt t) (sym q) ∙ p
      go (inr (inr p)) = absurd p

  first_sound : (n : ℕ) (t : List ℕ) → first_ok ok lt w n t ≡ true → Yes (leb w (length t) ∷ ok (take w t) ∷ any_pass (eqb n 1 ∷ lt t (drop w t) ∷ []) ∷ [])
  unfolding first_ok
  first_sound n t h = pass_parts _ h

  rows_none : (t : List ℕ) → t ≡ rows_words f [] ++ t
  unfolding rows_words
  rows_none t = refl

  rows_sound : (n : ℕ) (t : List ℕ) → Words t → rows_ok ok lt w n t ≡ true → RowsHeld f good before n t
  unfolding rows_ok rising
  rows_sound zero t ws h = record { list = []; rest = t; count = refl; each = every_none _; order = refl; words = rows_none t; zeros = h }
  rows_sound (suc n) t ws h =
      let y = pass_parts _ h in
      let m = first_sound (suc n) t y.0 in
      let v = words_cut w t ws in
      let i = rows_sound n (drop w t) v.1 y.1.0 in
      let k : length (take w t) ≡ w = length-take-le w t (leb-true _ _ m.0) in
      let r = d.sound (take w t) v.0 k m.1.0 in
      let e : t ≡ f r.value ++ (rows_words f i.list ++ i.rest) =
      sym (take-append-drop w t) ∙ ap (λ (u : List ℕ). u ++ drop w t) r.words ∙ ap (λ (u : List ℕ). f r.value ++ u) i.words in
      record {
        list = r.value ∷ i.list;
        rest = i.rest;
        count = ap suc i.count;
        each = every_join _ _ _ r.fine i.each;
        order = before_sound n r.value i.list t i.rest i.count e m.1.1.0 i.order;
        words = e ∙ sym (rows_cons r.value i.list i.rest);
        zeros = i.zeros;
      }

  before_complete : (x : A) (xs : List A) (z : List ℕ) → rising before (x ∷ xs) ≡ true
      → Some (eqb (suc (length xs)) 1 ∷ lt (f x ++ (rows_words f xs ++ z)) (rows_words f xs ++ z) ∷ [])
  before_complete x [] z c = inl refl
  before_complete x (y ∷ ys) z c =
      inr (inl (ap (lt (f x ++ (rows_words f (y ∷ ys) ++ z))) (rows_cons y ys z) ∙ says x y (rows_words f (y ∷ ys) ++ z) (rows_words f ys ++ z) ∙ (rising_parts x y ys c).0))

  rising_rest : (x : A) (xs : List A) → rising before (x ∷ xs) ≡ true → rising before xs ≡ true
  unfolding rising
  rising_rest x [] c = refl
  rising_rest x (y ∷ ys) c = (rising_parts x y ys c).1

  first_complete : (n : ℕ) (t : List ℕ) → leb w (length t) ≡ true → ok (take w t) ≡ true → any_pass (eqb n 1 ∷ lt t (drop w t) ∷ []) ≡ true → first_ok ok lt w n t ≡ true
  unfolding first_ok
  first_complete n t l o b = pass_joins _ (l, (o, (b, tt)))

  rows_complete : (xs : List A) (z : List ℕ) → every good xs ≡ true → rising before xs ≡ true → all_zero z ≡ true → rows_ok ok lt w (length xs) (rows_words f xs ++ z) ≡ true
  unfolding rows_ok
  rows_complete [] z p c h = ap all_zero (sym (rows_none z)) ∙ h
  rows_complete (x ∷ xs) z p c h =
      let t : List ℕ = f x ++ (rows_words f xs ++ z) in
      let g = every_parts good x xs p in
      let e : drop w t ≡ rows_words f xs ++ z = drop_at (f x) (rows_words f xs ++ z) w (d.wide x) in
      let l : leb w (length t) ≡ true = le-leb w (length t) (omega (arith, length-append (f x) (rows_words f xs ++ z), d.wide x)) in
      let o : ok (take w t) ≡ true = ap ok (take_at (f x) (rows_words f xs ++ z) w (d.wide x)) ∙ d.complete x g.0 in
      let b : any_pass (eqb (suc (length xs)) 1 ∷ lt t (drop w t) ∷ []) ≡ true =
      ap (λ (u : List ℕ). any_pass (eqb (suc (length xs)) 1 ∷ lt t u ∷ [])) e ∙ any_joins _ (before_complete x xs z c) in
      let i : rows_ok ok lt w (length xs) (drop w t) ≡ true = ap (rows_ok ok lt w (length xs)) e ∙ rows_complete xs z g.1 (rising_rest x xs c) h in
      ap (rows_ok ok lt w (suc (length xs))) (rows_cons x xs z) ∙ pass_joins _ (first_complete (suc (length xs)) t l o b, (i, tt))

  module _ (cap : ℕ) where
    table_sound : (t : List ℕ) → Words t → length t ≡ 1 + cap * w → table_ok ok lt w cap t ≡ true → Held (table f w cap) (good_list cap good before) t
    unfolding table_ok good_list
    table_sound t ws l h =
        let y = pass_parts _ h in
        let b : length (drop 1 t) ≡ cap * w = length-drop 1 t ∙ omega arith in
        let r = rows_sound (at t 0) (drop 1 t) (words_cut 1 t ws).1 y.1.0 in
        let n : at t 0 ≤ cap = leb-true _ _ y.0 in
        let rl : length r.list ≤ cap = omega (arith, r.count) in
        record {
          value = r.list;
          words = heads t (omega arith) ∙ ap (λ (m : ℕ). m ∷ drop 1 t) (sym r.count)
              ∙ ap (λ (u : List ℕ). length r.list ∷ u) (padded (cap * w) (drop 1 t) (rows_words f r.list) r.rest r.words b r.zeros);
          fine = all_joins _ (le-leb _ _ rl, (r.each, (r.order, tt)));
        }

    table_complete : (xs : List A) → good_list cap good before xs ≡ true → table_ok ok lt w cap (table f w cap xs) ≡ true
    unfolding table_ok good_list
    table_complete xs g =
        let p = all_parts _ g in
        let z : List ℕ = replicate (cap * w - length (rows_words f xs)) 0 in
        let rl : length xs ≤ cap = leb-true _ _ p.0 in
        let e = pad_is (cap * w) (rows_words f xs) (omega (arith, rows_length f w d.wide xs, mul-le-mul_right w rl)) in
        pass_joins _ (
          p.0,
          (ap (rows_ok ok lt w (length xs)) e ∙ rows_complete xs z p.1.0 p.1.1.0 (zero_complete (cap * w - length (rows_words f xs))), tt),
        )

    -- ONE LAW for every table
    pub table_decides : Decides (table f w cap) (good_list cap good before) (1 + cap * w) (table_ok ok lt w cap)
    table_decides = record { wide = table_length f w cap; sound = table_sound; complete = table_complete }
