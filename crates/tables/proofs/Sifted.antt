-- Ids taken out of a list by a test, in place: those kept stand in front, then what is left of those tried, then those to come.
use Prim.Native.Nat.{ℕ, suc, ◌+◌, ◌-◌, ◌≤◌, ◌<◌}
use mathlib.Core.Path.{◌≡◌, refl, ap, sym, ◌∙◌}
use mathlib.Core.List.{List, [], ◌∷◌, ◌++◌, append_assoc, append-nil}
use mathlib.Core.Bool.{Bool, true, false, not}
use native.Mathlib.Omega.{arith}
use native.Mathlib.Numerals.{add-one}
use borrow.Rule.Slice.PartMut.{put_mid}
use lib.Dec.{eqb}
use lib.ListN.{length, get_or, set, take, drop, replicate, length-append, length-drop, length-set, length-take, take-append-drop, replicate-append-replicate}
use lib.Seq.{get_or-drop, drop-drop, take-suc, take_all, take-set-le, drop-set-lt, take-suc-set, set-append_left, length-take-le}
use Rattle.rules.specs.Lists.{bit_of, keep, strike}
use Rattle.shifts.proofs.Parts.{mid_read, mid_put}
use Rattle.tables.specs.Rows.{id_table}
use Rattle.tables.proofs.Tables.{pad_is}
use Rattle.tables.proofs.Ids.{id_words_lem, id_at}
use Rattle.tables.proofs.Drops.{keep_append, keep_most}

-- ---- a list of ids in words

module _ (cap : ℕ) (l : List ℕ) (room : length l ≤ cap) where
  pub id_set : (m x : ℕ) → m < length l → set (id_table cap l) (1 + m) x ≡ id_table cap (set l m x)
  id_set m x h =
      let s : 1 + m ≡ suc m = omega arith in
      rw (id_words_lem cap l, id_words_lem cap (set l m x), length-set l m x, s)
      (ap (λ (z : List ℕ). length l ∷ z)
      (ap (λ (z : List ℕ). set z m x) (pad_is cap l room) ∙ set-append_left l (replicate (cap - length l) 0) m x h
      ∙ sym (pad_is cap (set l m x) (rw (length-set l m x) room) ∙ rw (length-set l m x))))

  -- the room past the first k zeroed, and the count set
  pub cut_words : (t v : List ℕ) (n k : ℕ) → t ≡ id_table cap l → n ≡ length l → k ≤ length l → v ≡ replicate (length (take (1 + n - (1 + k)) (drop (1 + k) t))) 0
      → set (put_mid (1 + k) (1 + n - (1 + k)) t v) 0 k ≡ id_table cap (take k l)
  cut_words t v n k e q h z =
      let P : List ℕ = length l ∷ take k l in
      let Z : List ℕ = replicate (cap - length l) 0 in
      let tk : length (take k l) ≡ k = length-take-le k l h in
      let w : t ≡ P ++ (drop k l ++ Z) =
      e ∙ id_words_lem cap l ∙ ap (λ (y : List ℕ). length l ∷ y) (pad_is cap l room ∙ ap (λ (y : List ℕ). y ++ Z) (sym (take-append-drop k l)) ∙ append_assoc (take k l) (drop k l) Z) in
      let p : length P ≡ 1 + k = omega (arith, tk) in
      let d : length (drop k l) ≡ 1 + n - (1 + k) = omega (arith, length-drop k l) in
      let both : cap - k ≡ (1 + n - (1 + k)) + (cap - length l) = omega arith in
      ap (λ (y : List ℕ). set y 0 k) (mid_put P (drop k l) Z t v (1 + k) (1 + n - (1 + k)) w p d)
      ∙ rw (z, mid_read P (drop k l) Z t (1 + k) (1 + n - (1 + k)) w p d, d, id_words_lem cap (take k l), tk, pad_is cap (take k l) (omega arith), tk, both)
      (ap (λ (y : List ℕ). k ∷ (take k l ++ y)) (replicate-append-replicate {A = ℕ} (1 + n - (1 + k)) (cap - length l) 0))

-- ---- the loop

-- m of l have been tried: those kept, k of them, stand in front
pub record Sifted (f : ℕ → Bool) (l : List ℕ) (m k : ℕ) (now : List ℕ) : Type 0 where
  pub kept : take k now ≡ keep f (take m l)
  pub rest : drop m now ≡ drop m l
  pub size : length now ≡ length l
  pub place : k ≡ length (keep f (take m l))

pub sifted_none : (f : ℕ → Bool) (l : List ℕ) → Sifted f l 0 0 l
unfolding keep
sifted_none f l = record { kept = refl; rest = refl; size = refl; place = refl }

module _ (f : ℕ → Bool) (l : List ℕ) (m k : ℕ) (now : List ℕ) (w : Sifted f l m k now) where
  pub sifted_few : k ≤ length now
  sifted_few = omega (arith, w.place, w.size, keep_most f (take m l), length-take m l)

  -- the next one still stands
  pub sifted_next : get_or now m 0 ≡ get_or l m 0
  sifted_next = sym (first now) ∙ ap (λ (s : List ℕ). get_or s 0 0) w.rest ∙ first l
    where
      first : (s : List ℕ) → get_or (drop m s) 0 0 ≡ get_or s m 0
      first s = get_or-drop m s 0 0 ∙ ap (λ (y : ℕ). get_or s y 0) (omega arith)

  pub sifted_more : m < length l → k ≤ m → (x : ℕ) → x ≡ get_or l m 0 → (r : ℕ) → r ≡ k + bit_of (f x) → Sifted f l (m + 1) r (set now k x)
  unfolding keep
  sifted_more n o x is r e =
      let more : keep f (take (m + 1) l) ≡ keep f (take m l) ++ keep f (x ∷ []) =
      rw (add-one m, take-suc l m 0 n, ← is) (keep_append f (take m l) (x ∷ [])) in
      go (f x) refl more e
    where
      rest : drop (m + 1) (set now k x) ≡ drop (m + 1) l
      rest = drop-set-lt (m + 1) now k x (omega arith) ∙ sym (drop-drop 1 m now) ∙ ap (drop 1) w.rest ∙ drop-drop 1 m l

      go : (c : Bool) → f x ≡ c → keep f (take (m + 1) l) ≡ keep f (take m l) ++ keep f (x ∷ []) → r ≡ k + bit_of (f x) → Sifted f l (m + 1) r (set now k x)
      go true p more e =
          let one : r ≡ suc k = rw p at e ∙ add-one k in
          let kept : keep f (take (m + 1) l) ≡ keep f (take m l) ++ (x ∷ []) = more ∙ rw p in
          record {
            kept = rw (one, kept, take-suc-set now k x (omega (arith, w.size))) (ap (λ (s : List ℕ). s ++ (x ∷ [])) w.kept);
            rest = rest;
            size = length-set now k x ∙ w.size;
            place = rw kept (omega (arith, one, w.place, length-append (keep f (take m l)) (x ∷ [])));
          }
      go false p more e =
          let none : r ≡ k = rw p at e ∙ omega arith in
          let kept : keep f (take (m + 1) l) ≡ keep f (take m l) = more ∙ rw p (append-nil (keep f (take m l))) in
          record {
            kept = rw (none, kept) (take-set-le k now k x (omega arith) ∙ w.kept);
            rest = rest;
            size = length-set now k x ∙ w.size;
            place = rw kept (omega (arith, none, w.place));
          }

  pub sifted_all : length l ≤ m → take k now ≡ keep f l
  sifted_all n = w.kept ∙ ap (keep f) (take_all m l n)

-- ---- an id struck, in words

pub record Striking (cap x : ℕ) (l t : List ℕ) (i k : ℕ) : Type 0 where
  pub now : List ℕ
  pub words : t ≡ id_table cap now
  pub sifted : Sifted (λ y. not (eqb y x)) l i k now

module _ (cap x : ℕ) (l : List ℕ) (room : length l ≤ cap) where
  pub striking_none : (t : List ℕ) → t ≡ id_table cap l → Striking cap x l t 0 0
  striking_none t e = record { now = l; words = e; sifted = sifted_none _ l }

  module _ (t : List ℕ) (i k : ℕ) (s : Striking cap x l t i k) where
    pub striking_more : i < length l → k ≤ i → (r : ℕ) → r ≡ k + bit_of (not (eqb (get_or t (1 + i) 0) x)) → Striking cap x l (set t (1 + k) (get_or t (1 + i) 0)) (i + 1) r
    striking_more h o r e =
        let here : get_or t (1 + i) 0 ≡ get_or l i 0 =
        id_at cap s.now t s.words i (omega (arith, s.sifted.size)) (omega (arith, s.sifted.size)) ∙ sifted_next _ l i k s.now s.sifted in
        record {
          now = set s.now k (get_or t (1 + i) 0);
          words = ap (λ (u : List ℕ). set u (1 + k) (get_or t (1 + i) 0)) s.words ∙ id_set cap s.now (omega (arith, s.sifted.size)) k (get_or t (1 + i) 0) (omega (arith, s.sifted.size));
          sifted = sifted_more _ l i k s.now s.sifted h o (get_or t (1 + i) 0) here r e;
        }

    pub striking_all : length l ≤ i → (u : List ℕ) → ((m : List ℕ) → t ≡ id_table cap m → length m ≤ cap → k ≤ length m → u ≡ id_table cap (take k m)) → u ≡ id_table cap (strike x l)
    unfolding strike
    striking_all h u cut =
        cut s.now s.words (omega (arith, s.sifted.size)) (sifted_few _ l i k s.now s.sifted) ∙ ap (id_table cap) (sifted_all _ l i k s.now s.sifted h)
