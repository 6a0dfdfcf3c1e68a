-- A part of a list: read where it stands, and put back as another.
use Prim.Native.Nat.{ℕ, zero, suc, ◌+◌, ◌-◌, ◌≤◌, ◌<◌}
use mathlib.Core.Path.{◌≡◌, refl, ap, sym, ◌∙◌}
use mathlib.Core.List.{List, [], ◌∷◌, ◌++◌, append_assoc, append-nil}
use native.Mathlib.Omega.{arith}
use native.Mathlib.Nat.{zero-add}
use lib.ListN.{length, get_or, set, take, drop, length-append, length-drop, drop_of_length-le, get_or-append}
use lib.Seq.{drop-cons, drop-drop, length-take-le, take_at, drop_at, get_or-append-add, set-append_left, sets, sets-eq}
use borrow.Rule.Slice.PartMut.{put_mid}

-- ---- words by their places

-- n words from i on
abbrev pub gets : ℕ → ℕ → List ℕ → List ℕ
gets i zero t = []
gets i (suc n) t = get_or t i 0 ∷ gets (suc i) n t

pub gets_is : (n i : ℕ) (t : List ℕ) → i + n ≤ length t → drop i t ≡ gets i n t ++ drop (i + n) t
gets_is zero i t h = let e : i + 0 ≡ i = omega arith in rw e
gets_is (suc n) i t h =
    let e : suc i + n ≡ i + suc n = omega arith in
    drop-cons t i 0 (omega arith) ∙ ap (λ (u : List ℕ). get_or t i 0 ∷ u) (gets_is n (suc i) t (omega arith) ∙ ap (λ (k : ℕ). gets (suc i) n t ++ drop k t) e)

pub gets_all : (n : ℕ) (t : List ℕ) → length t ≡ n → t ≡ gets 0 n t
gets_all n t h =
    gets_is n 0 t (omega arith) ∙ ap (λ (u : List ℕ). gets 0 n t ++ u) (drop_of_length-le t {i = 0 + n} (omega arith)) ∙ append-nil (gets 0 n t)

gets_length : (n i : ℕ) (t : List ℕ) → length (gets i n t) ≡ n
gets_length zero i t = refl
gets_length (suc n) i t = ap suc (gets_length n (suc i) t)

pub gets_take : (n : ℕ) (t : List ℕ) → n ≤ length t → gets 0 n t ≡ take n t
gets_take n t h = sym (ap (take n) (gets_is n 0 t (omega arith)) ∙ take_at (gets 0 n t) (drop (0 + n) t) n (gets_length n 0 t))

-- ---- a part

-- the words from a to e: how many, what they are where that is known, and what follows them
pub between_length : (a e : ℕ) (t : List ℕ) → e ≤ length t → length (take (e - a) (drop a t)) ≡ e - a
between_length a e t h = length-take-le (e - a) (drop a t) (omega (arith, length-drop a t))

pub part_is : (a e : ℕ) (t A B : List ℕ) → drop a t ≡ A ++ B → length A ≡ e - a → take (e - a) (drop a t) ≡ A
part_is a e t A B p l = ap (take (e - a)) p ∙ take_at A B (e - a) l

pub part_after : (a k e : ℕ) (t A B : List ℕ) → drop a t ≡ A ++ B → length A ≡ k → a + k ≡ e → drop e t ≡ B
part_after a k e t A B p l s = ap (λ (n : ℕ). drop n t) (sym s) ∙ sym (drop-drop k a t) ∙ ap (drop k) p ∙ drop_at A B k l

pub mid_read : (P F R l : List ℕ) (a k : ℕ) → l ≡ P ++ (F ++ R) → length P ≡ a → length F ≡ k → take k (drop a l) ≡ F
mid_read P F R l a k e la lk = rw (e, drop_at P (F ++ R) a la) (take_at F R k lk)

pub mid_put : (P F R l G : List ℕ) (a k : ℕ) → l ≡ P ++ (F ++ R) → length P ≡ a → length F ≡ k → put_mid a k l G ≡ P ++ (G ++ R)
mid_put P F R l G a k e la lk = rw (e, drop_at P (F ++ R) a la, take_at P (F ++ R) a la, drop_at F R k lk)

set_append_add : (l m : List ℕ) (i v : ℕ) → set (l ++ m) (length l + i) v ≡ l ++ set m i v
set_append_add [] m i v = rw zero-add
set_append_add (x ∷ l) m i v = let e : length (x ∷ l) + i ≡ suc (length l + i) = omega arith in rw e (ap (λ (z : List ℕ). x ∷ z) (set_append_add l m i v))

-- where the words of a value stand in the words of a whole: what is before and after them does not depend on the value
pub record Spot {A : Type 0} (part whole : A → List ℕ) (a : ℕ) : Type 0 where
  pub front : List ℕ
  pub back : List ℕ
  pub is : (x : A) → whole x ≡ front ++ (part x ++ back)
  pub size : length front ≡ a

module _ {A : Type 0} {part whole : A → List ℕ} {a : ℕ} (s : Spot part whole a) where
  -- the part that the code lends, from b on, k words
  pub spot_read : (x : A) (ws : List ℕ) (b k : ℕ) → ws ≡ whole x → a ≡ b → length (part x) ≡ k → take k (drop b ws) ≡ part x
  spot_read x ws b k e q l = mid_read s.front (part x) s.back ws b k (e ∙ s.is x) (s.size ∙ q) l

  -- the part comes back as another value's
  pub spot_put : (x y : A) (ws p : List ℕ) (b k : ℕ) → ws ≡ whole x → a ≡ b → length (part x) ≡ k → p ≡ part y → put_mid b k ws p ≡ whole y
  spot_put x y ws p b k e q l g = mid_put s.front (part x) s.back ws p b k (e ∙ s.is x) (s.size ∙ q) l ∙ rw (g, s.is y)

  -- a part of a part
  pub within : {B : Type 0} {inner : B → List ℕ} {c : ℕ} (g : B → A) → Spot inner (λ y. part (g y)) c → Spot inner (λ y. whole (g y)) (a + c)
  within g t = record {
    front = s.front ++ t.front;
    back = t.back ++ s.back;
    is = λ y. s.is (g y) ∙ rw (t.is y) (simp append_assoc);
    size = omega (arith, length-append s.front t.front, s.size, t.size);
  }

  -- one word of the part
  pub spot_word : (x : A) (ws : List ℕ) (b c : ℕ) → ws ≡ whole x → a + c ≡ b → c < length (part x) → get_or ws b 0 ≡ get_or (part x) c 0
  spot_word x ws b c e q l =
      let p : b ≡ length s.front + c = omega (arith, s.size) in
      rw (e ∙ s.is x, p) (get_or-append-add s.front (part x ++ s.back) c 0 ∙ get_or-append (part x) s.back 0 c l)

  pub spot_store : (x y : A) (ws : List ℕ) (b c v : ℕ) → ws ≡ whole x → a + c ≡ b → c < length (part x) → set (part x) c v ≡ part y → set ws b v ≡ whole y
  spot_store x y ws b c v e q l g =
      let p : b ≡ length s.front + c = omega (arith, s.size) in
      rw (e ∙ s.is x, p, s.is y) (set_append_add s.front (part x ++ s.back) c v ∙ rw (set-append_left (part x) s.back c v l, g))

-- stores one after another fill a list of their number
pub filled : (t vs : List ℕ) → length t ≡ length vs → sets t 0 vs ≡ vs
filled t vs h =
    let z : drop (0 + length vs) t ≡ [] = drop_of_length-le t {i = 0 + length vs} (omega arith) in
    sets-eq vs t 0 (omega arith) ∙ rw z (append-nil vs)
