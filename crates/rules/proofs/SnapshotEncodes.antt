-- Words that read back: one after another, and section by section.
use Prim.Native.Nat.{ℕ, ◌+◌, ◌*◌, ◌≤◌}
use mathlib.Core.Path.{◌≡◌, refl}
use mathlib.Core.List.{List, [], ◌∷◌, ◌++◌, append_assoc}
use mathlib.Core.Bool.{Bool, true}
use native.Mathlib.Omega.{arith}
use native.Mathlib.Nat.{mul-le-mul_right, min-eq_left}
use borrow.Author.Tests.{leb-true, le-leb}
use lib.ListN.{length, length-append}
use Rattle.rules.specs.Lists.{every}
use Rattle.rules.specs.Board.{last_word}
use Rattle.rules.specs.WellFormed.{is_word, good_list, good_ids}
use Rattle.rules.specs.Snapshot.{rows_words, section, id_words, Reader, ◌>>=◌, give, word, read_rows, read_section}
use Rattle.rules.proofs.Tests.{and_joins, every_parts, every_append, all_parts}

-- the words ws read as x, are 64-bit numbers, and are no more than a width
pub record Reads {A : Type 0} (read : Reader A) (x : A) (ws : List ℕ) (width : ℕ) : Type 0 where
  pub back : (rest : List ℕ) → read (ws ++ rest) ≡ (x, rest)
  pub words : every is_word ws ≡ true
  pub short : length ws ≤ width

-- a good value's words read as it
abbrev pub Encodes : {A : Type 0} → (A → Bool) → (A → List ℕ) → Reader A → ℕ → Type 0
Encodes {A} good row read width = (x : A) → good x ≡ true → Reads read x (row x) width

-- numbers that are words, for `omega`
abbrev pub Words : List ℕ → Type 0
Words [] = Unit {0}
Words (n ∷ ws) = (n ≤ last_word) × Words ws

are_words : (ws : List ℕ) → Words ws → every is_word ws ≡ true
unfolding every
are_words [] h = refl
are_words (n ∷ ws) h = and_joins (is_word n) (every is_word ws) (le-leb n last_word h.0) (are_words ws h.1)

-- a row whose words are all there to see: reading computes, and the rest is arithmetic
pub flat : {A : Type 0} {read : Reader A} {x : A} {w : ℕ} (ws : List ℕ) → ((rest : List ℕ) → read (ws ++ rest) ≡ (x, rest)) → Words ws × (length ws ≤ w) → Reads read x ws w
flat ws b h = record { back = b; words = are_words ws h.0; short = h.1 }

-- a single word
pub one : (n : ℕ) → n ≤ last_word → Reads word n (n ∷ []) 1
unfolding word
one n h = flat (n ∷ []) (λ rest. refl) (omega arith)

-- two values, one after the other
infixr 20 ◌then◌
pub ◌then◌ : {A B : Type 0} {d : Reader A} {e : Reader B} {x : A} {y : B} {ws vs : List ℕ} {w v : ℕ}
    → Reads d x ws w → Reads e y vs v → Reads {A = A × B} (do a ← d; b ← e; give (a, b)) (x, y) (ws ++ vs) (w + v)
◌then◌ {ws} {vs} p q = record {
  back = λ rest. rw (append_assoc ws vs rest, p.back (vs ++ rest), q.back rest);
  words = every_append is_word ws vs p.words q.words;
  short = omega (arith, length-append ws vs, p.short, q.short);
}

-- what is read, made into what it says
pub made : {A B : Type 0} {d : Reader A} {x : A} {y : B} {ws : List ℕ} {w : ℕ} (f : A → B) → f x ≡ y → Reads d x ws w → Reads (do a ← d; give (f a)) y ws w
made f e r = record { back = λ rest. rw (r.back rest, e); words = r.words; short = r.short }

module _ {A : Type 0} {good : A → Bool} {row : A → List ℕ} {read : Reader A} {width : ℕ} (r : Encodes good row read width) where
  rows_read : (l : List A) → every good l ≡ true → Reads (read_rows read (length l)) l (rows_words row l) (length l * width)
  unfolding rows_words read_rows every
  rows_read [] h = record { back = λ rest. refl; words = refl; short = omega arith }
  rows_read (x ∷ l) h =
      let p = every_parts good x l h in
      let q = made (λ t. t.0 ∷ t.1) refl (r x p.0 then rows_read l p.1) in
      record { back = q.back; words = q.words; short = omega (arith, q.short) }

  -- 'these sections, each after its count'
  section_reads : (most : ℕ) → most ≤ last_word → (l : List A) → length l ≤ most → every good l ≡ true
      → Reads (read_section most read) l (section row l) (1 + most * width)
  unfolding section read_section word
  section_reads most small l fits h =
      let q = rows_read l h in
      let s = one (length l) (omega arith) then q in
      record { back = λ rest. rw (min-eq_left fits) (q.back rest); words = s.words; short = omega (arith, s.short, mul-le-mul_right width fits) }

  pub list_encodes : (most : ℕ) (before : A → A → Bool) → most ≤ last_word → Encodes (good_list most good before) (section row) (read_section most read) (1 + most * width)
  unfolding good_list
  list_encodes most before small l h = let p = all_parts _ h in section_reads most small l (leb-true _ _ p.0) p.1.0

id_encodes : Encodes is_word id_words word 1
unfolding id_words
id_encodes x h = one x (leb-true _ _ h)

pub ids_encode : (most : ℕ) → most ≤ last_word → Encodes (good_ids most) (section id_words) (read_section most word) (1 + most * 1)
unfolding good_ids
ids_encode most small l h = let p = all_parts _ h in section_reads id_encodes most small l (leb-true _ _ p.0) p.1.0
