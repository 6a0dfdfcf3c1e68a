-- Words moved up and down: a turn of each loop, and a gap opened and closed.
use Prim.Native.Nat.{ℕ, suc, ◌+◌, ◌-◌, ◌≤◌, ◌<◌}
use mathlib.Core.Path.{◌≡◌, refl, ap, sym, ◌∙◌}
use mathlib.Core.List.{List, [], ◌∷◌, ◌++◌, append_assoc}
use native.Mathlib.Omega.{arith}
use native.Mathlib.Numerals.{add-one}
use lib.ListN.{length, get_or, set, take, drop, take-append-drop, length-append, length-drop, replicate, get_or-append}
use lib.Seq.{take-suc, take-add, take_all, take-take, take_at, take-append-le, drop-append-le, drop-cons, append_snoc, set_at, get_or-take, get_or-drop, get_or-append-add, length-take-le, drop-drop, take-append-add, drop-append_seam, take-append_seam, drop_at}
use borrow.Rule.Slice.PartMut.{put_mid}
use Rattle.shifts.proofs.Parts.{mid_read, mid_put}
use Rattle.shifts.specs.Moved.{moved_up, moved_down, moved_to}

pub up_none : (t : List ℕ) (to by : ℕ) → t ≡ moved_up t to to by
up_none t to by = let z : to - to ≡ 0 = omega arith in rw z (sym (take-append-drop (to + by) t))

-- the store of word k at k + by, where those past k have moved
pub up_more : (t : List ℕ) (k to by : ℕ) → k < to → to + by ≤ length t
    → set (moved_up t (suc k) to by) (k + by) (get_or (moved_up t (suc k) to by) k 0) ≡ moved_up t k to by
up_more t k to by h l =
    let front : length (take (suc k + by) t) ≡ suc k + by = length-take-le (suc k + by) t (omega arith) in
    let v : get_or (moved_up t (suc k) to by) k 0 ≡ get_or t k 0 =
    get_or-append (take (suc k + by) t) _ 0 k (omega arith) ∙ get_or-take (suc k + by) t k 0 (omega arith) in
    let e : suc k + by ≡ suc (k + by) = omega arith in
    let cut : moved_up t (suc k) to by ≡ take (k + by) t ++ get_or t (k + by) 0 ∷ (take (to - suc k) (drop (suc k) t) ++ drop (to + by) t) =
    rw (e, take-suc t (k + by) 0 (omega arith)) (append_snoc (take (k + by) t) (get_or t (k + by) 0) _) in
    let g : take (to - k) (drop k t) ≡ get_or t k 0 ∷ take (to - suc k) (drop (suc k) t) =
    let q : to - k ≡ suc (to - suc k) = omega arith in rw (q, drop-cons t k 0 (omega arith)) refl in
    rw (v, cut) (set_at (take (k + by) t) _ _ (get_or t k 0) (k + by) (length-take-le (k + by) t (omega arith)) ∙ rw g)

pub down_none : (t : List ℕ) (from by : ℕ) → t ≡ moved_down t from from by
down_none t from by = let z : from - from ≡ 0 = omega arith in rw z (sym (take-append-drop (from - by) t))

-- the store of word k at k - by, where those before k have moved
pub down_more : (t : List ℕ) (from k by : ℕ) → by ≤ from → from ≤ k → k < length t
    → set (moved_down t from k by) (k - by) (get_or (moved_down t from k by) k 0) ≡ moved_down t from (suc k) by
down_more t from k by h l n =
    let A : List ℕ = take (from - by) t in
    let B : List ℕ = take (k - from) (drop from t) in
    let a : length A ≡ from - by = length-take-le (from - by) t (omega arith) in
    let b : length B ≡ k - from = length-take-le (k - from) (drop from t) (omega (arith, length-drop from t)) in
    let ab : length (A ++ B) ≡ k - by = omega (arith, length-append A B) in
    let cut : moved_down t from k by ≡ (A ++ B) ++ get_or t (k - by) 0 ∷ drop (suc (k - by)) t =
    rw (drop-cons t (k - by) 0 (omega arith)) (sym (append_assoc A B _)) in
    let v : get_or (moved_down t from k by) k 0 ≡ get_or t k 0 =
    let i : k ≡ length (A ++ B) + by = omega arith in
    let j : k - by + by ≡ k = omega arith in
    ap (λ (x : List ℕ). get_or x k 0) (sym (append_assoc A B (drop (k - by) t)))
    ∙ ap (λ (x : ℕ). get_or ((A ++ B) ++ drop (k - by) t) x 0) i
    ∙ get_or-append-add (A ++ B) (drop (k - by) t) by 0
    ∙ get_or-drop (k - by) t by 0
    ∙ ap (λ (x : ℕ). get_or t x 0) j in
    let g : take (suc k - from) (drop from t) ≡ B ++ (get_or t k 0 ∷ []) =
    let q : suc k - from ≡ suc (k - from) = omega arith in
    let j : from + (k - from) ≡ k = omega arith in
    rw (q, take-suc (drop from t) (k - from) 0 (omega (arith, length-drop from t)), get_or-drop from t (k - from) 0, j) in
    let e : suc k - by ≡ suc (k - by) = omega arith in
    ap (λ (x : ℕ). set (moved_down t from k by) (k - by) x) v
    ∙ ap (λ (x : List ℕ). set x (k - by) (get_or t k 0)) cut
    ∙ set_at (A ++ B) (get_or t (k - by) 0) (drop (suc (k - by)) t) (get_or t k 0) (k - by) ab
    ∙ rw (g, e) (simp append_assoc)

-- n words more at once
pub up_many : (t : List ℕ) (k to by n : ℕ) → n ≤ k → k ≤ to → to + by ≤ length t → moved_to (moved_up t k to by) (k - n) (k - n + by) n ≡ moved_up t (k - n) to by
up_many t k to by n h l m =
    let A : List ℕ = take (k + by) t in
    let B : List ℕ = take (to - k) (drop k t) ++ drop (to + by) t in
    let a : length A ≡ k + by = length-take-le (k + by) t (omega arith) in
    let front : take (k - n + by) (A ++ B) ≡ take (k - n + by) t = take-append-le (k - n + by) A B (omega arith) ∙ take-take (k - n + by) (k + by) t (omega arith) in
    let part : take n (drop (k - n) (A ++ B)) ≡ take n (drop (k - n) t) =
    let x : length (drop (k - n) A) ≡ n + by = omega (arith, length-drop (k - n) A) in
    let y : drop (k - n) t ≡ drop (k - n) A ++ drop (k + by) t = ap (drop (k - n)) (sym (take-append-drop (k + by) t)) ∙ drop-append-le (k - n) A (drop (k + by) t) (omega arith) in
    ap (take n) (drop-append-le (k - n) A B (omega arith))
    ∙ take-append-le n (drop (k - n) A) B (omega arith)
    ∙ sym (ap (take n) y ∙ take-append-le n (drop (k - n) A) (drop (k + by) t) (omega arith)) in
    let back : drop (k - n + by + n) (A ++ B) ≡ B = drop_at A B (k - n + by + n) (omega arith) in
    let whole : take (to - (k - n)) (drop (k - n) t) ≡ take n (drop (k - n) t) ++ take (to - k) (drop k t) =
    let x : to - (k - n) ≡ n + (to - k) = omega arith in
    let y : k - n + n ≡ k = omega arith in
    rw x (take-add n (to - k) (drop (k - n) t)) ∙ ap (λ (u : List ℕ). take n (drop (k - n) t) ++ take (to - k) u) (drop-drop n (k - n) t ∙ ap (λ (i : ℕ). drop i t) y) in
    rw (front, part, back, whole) (simp append_assoc)

pub down_many : (t : List ℕ) (from k by n : ℕ) → by ≤ from → from ≤ k → k + n ≤ length t → moved_to (moved_down t from k by) k (k - by) n ≡ moved_down t from (k + n) by
down_many t from k by n h l m =
    let A : List ℕ = take (from - by) t in
    let B : List ℕ = take (k - from) (drop from t) in
    let C : List ℕ = drop (k - by) t in
    let a : length A ≡ from - by = length-take-le (from - by) t (omega arith) in
    let b : length B ≡ k - from = length-take-le (k - from) (drop from t) (omega (arith, length-drop from t)) in
    let ab : length (A ++ B) ≡ k - by = omega (arith, length-append A B) in
    let s : A ++ (B ++ C) ≡ (A ++ B) ++ C = sym (append_assoc A B C) in
    let rest : drop (k - by) (A ++ (B ++ C)) ≡ C = ap (drop (k - by)) s ∙ drop_at (A ++ B) C (k - by) ab in
    let front : take (k - by) (A ++ (B ++ C)) ≡ A ++ B = ap (take (k - by)) s ∙ take_at (A ++ B) C (k - by) ab in
    let there : drop k (A ++ (B ++ C)) ≡ drop k t =
    let i : k - by + by ≡ k = omega arith in
    ap (λ (j : ℕ). drop j (A ++ (B ++ C))) (sym i) ∙ sym (drop-drop by (k - by) (A ++ (B ++ C))) ∙ ap (drop by) rest ∙ drop-drop by (k - by) t ∙ ap (λ (j : ℕ). drop j t) i in
    let back : drop (k - by + n) (A ++ (B ++ C)) ≡ drop (k + n - by) t =
    let i : k - by + n ≡ k + n - by = omega arith in
    sym (drop-drop n (k - by) (A ++ (B ++ C))) ∙ ap (drop n) rest ∙ drop-drop n (k - by) t ∙ ap (λ (j : ℕ). drop j t) i in
    let whole : take (k + n - from) (drop from t) ≡ B ++ take n (drop k t) =
    let x : k + n - from ≡ k - from + n = omega arith in
    let y : from + (k - from) ≡ k = omega arith in
    rw x (take-add (k - from) n (drop from t)) ∙ ap (λ (u : List ℕ). B ++ take n u) (drop-drop (k - from) from t ∙ ap (λ (i : ℕ). drop i t) y) in
    rw (front, there, back, whole) (simp append_assoc)

-- one move after another is one move
pub up_joins : (t : List ℕ) (from k to by : ℕ) → from ≤ k → k ≤ to → to + by ≤ length t → moved_up (moved_up t k to by) from k by ≡ moved_up t from to by
up_joins t from k to by h l m =
    let e : k - (k - from) ≡ from = omega arith in
    let d : k + by ≡ from + by + (k - from) = omega arith in
    let s : List ℕ = moved_up t k to by in
    ap (λ (i : ℕ). take (from + by) s ++ (take (k - from) (drop from s) ++ drop i s)) d
    ∙ ap (λ (i : ℕ). moved_to s i (i + by) (k - from)) (sym e)
    ∙ up_many t k to by (k - from) (omega arith) l m
    ∙ ap (λ (i : ℕ). moved_up t i to by) e

pub down_joins : (t : List ℕ) (from k to by : ℕ) → by ≤ from → from ≤ k → k ≤ to → to ≤ length t → moved_down (moved_down t from k by) k to by ≡ moved_down t from to by
down_joins t from k to by h l m n =
    let e : k + (to - k) ≡ to = omega arith in
    let d : to - by ≡ k - by + (to - k) = omega arith in
    ap (λ (i : ℕ). take (k - by) (moved_down t from k by) ++ (take (to - k) (drop k (moved_down t from k by)) ++ drop i (moved_down t from k by))) d
    ∙ down_many t from k by (to - k) h l (omega arith)
    ∙ ap (λ (i : ℕ). moved_down t from i by) e

-- the part that the code reads and the one that it writes
pub moved_part : (t v w : List ℕ) (from to : ℕ) → from ≤ length t → w ≡ take 8 (take (length t - from) (drop from t)) → v ≡ w → put_mid to (to + 8 - to) t v ≡ moved_to t from to 8
moved_part t v w from to h e q =
    let k : to + 8 - to ≡ 8 = omega arith in
    let r : take (length t - from) (drop from t) ≡ drop from t = take_all (length t - from) (drop from t) (omega (arith, length-drop from t)) in
    rw (k, drop-drop 8 to t, q, e, r)

-- the same as the code has it
pub up_turn : (s t : List ℕ) (k to by : ℕ) → t ≡ moved_up s k to by → 0 < k → k ≤ to → to + by ≤ length s → set t (k - 1 + by) (get_or t (k - 1) 0) ≡ moved_up s (k - 1) to by
up_turn s t k to by p z h l =
    let e : k ≡ suc (k - 1) = omega arith in
    let q : t ≡ moved_up s (suc (k - 1)) to by = p ∙ ap (λ (x : ℕ). moved_up s x to by) e in
    ap (λ (x : List ℕ). set x (k - 1 + by) (get_or x (k - 1) 0)) q ∙ up_more s (k - 1) to by (omega arith) l

pub down_turn : (s t : List ℕ) (from k by : ℕ) → t ≡ moved_down s from k by → by ≤ from → from ≤ k → k < length s → set t (k - by) (get_or t k 0) ≡ moved_down s from (k + 1) by
down_turn s t from k by p h l n = ap (λ (x : List ℕ). set x (k - by) (get_or x k 0)) p ∙ down_more s from k by h l n ∙ ap (λ (x : ℕ). moved_down s from x by) (sym (add-one k))

-- ---- a gap opened and closed, in parts

up_parts : (P R G Z : List ℕ)
    → moved_up (P ++ (R ++ (G ++ Z))) (length P) (length P + length R) (length G) ≡ P ++ (take (length G) (R ++ (G ++ Z)) ++ (R ++ Z))
up_parts P R G Z =
    let n : length P + length R - length P ≡ length R = omega arith in
    let z : drop (length P + length R + length G) (P ++ (R ++ (G ++ Z))) ≡ Z =
    ap (drop (length P + length R + length G)) (simp append_assoc)
    ∙ drop_at ((P ++ R) ++ G) Z (length P + length R + length G) (simp length-append) in
    rw (z, n, take-append-add P (R ++ (G ++ Z)) (length G), drop-append_seam P (R ++ (G ++ Z)), take-append_seam R (G ++ Z)) (simp append_assoc)

pub opened : (t u v P R G Z : List ℕ) (from to by : ℕ) → t ≡ P ++ (R ++ (G ++ Z)) → length P ≡ from → from + length R ≡ to → length G ≡ by → u ≡ moved_up t from to by
    → v ≡ replicate (length (take (from + by - from) (drop from u))) 0 → put_mid from (from + by - from) u v ≡ P ++ (replicate by 0 ++ (R ++ Z))
opened t u v P R G Z from to by e p r g m w =
    let T : List ℕ = take by (R ++ (G ++ Z)) in
    let l : length T ≡ by = length-take-le by (R ++ (G ++ Z)) (simp length-append (omega arith)) in
    let k : from + by - from ≡ by = omega arith in
    let q : u ≡ P ++ (T ++ (R ++ Z)) = m ∙ rw (e, ← r, ← p, ← g) (up_parts P R G Z) in
    let f : take by (drop from u) ≡ T = mid_read P T (R ++ Z) u from by q p l in
    rw (w, k, f, l) (mid_put P T (R ++ Z) u (replicate by 0) from by q p l)

down_parts : (P F R Z : List ℕ)
    → moved_down (P ++ (F ++ (R ++ Z))) (length P + length F) (length P + length F + length R) (length F)
    ≡ P ++ (R ++ drop (length P + length R) (P ++ (F ++ (R ++ Z))))
down_parts P F R Z =
    let n : length P + length F - length F ≡ length P = omega arith in
    let m : length P + length F + length R - (length P + length F) ≡ length R = omega arith in
    let k : length P + length F + length R - length F ≡ length P + length R = omega arith in
    let z : drop (length P + length F) (P ++ (F ++ (R ++ Z))) ≡ R ++ Z =
    ap (drop (length P + length F)) (simp append_assoc) ∙ drop_at (P ++ F) (R ++ Z) (length P + length F) (simp length-append) in
    rw (n, m, k, z, take-append_seam P (F ++ (R ++ Z)), take-append_seam R Z)

pub closed : (t u v P F R Z : List ℕ) (from to by : ℕ) → t ≡ P ++ (F ++ (R ++ Z)) → length P ≡ from → length F ≡ by → from + by + length R ≡ to
    → u ≡ moved_down t (from + by) to by → v ≡ replicate (length (take (to - (to - by)) (drop (to - by) u))) 0
    → put_mid (to - by) (to - (to - by)) u v ≡ P ++ (R ++ (replicate by 0 ++ Z))
closed t u v P F R Z from to by e p g r m w =
    let T : List ℕ = take by (drop (length P + length R) t) in
    let n : length t ≡ length P + (length F + (length R + length Z)) = rw e (simp length-append) in
    let l : length T ≡ by = length-take-le by (drop (length P + length R) t) (omega (arith, length-drop (length P + length R) t)) in
    let a : to - by ≡ length P + length R = omega arith in
    let k : to - (to - by) ≡ by = omega arith in
    let z : drop (length P + length R) t ≡ T ++ Z =
    sym (take-append-drop by (drop (length P + length R) t))
    ∙ ap (λ (x : List ℕ). T ++ x)
    (drop-drop by (length P + length R) t ∙ rw (e, ← g)
    (ap (drop (length P + length R + length F)) (simp append_assoc) ∙ drop_at ((P ++ F) ++ R) Z (length P + length R + length F) (simp length-append (omega arith)))) in
    let q : u ≡ (P ++ R) ++ (T ++ Z) =
    m ∙ rw (← z) (rw (e, ← r, ← p, ← g) (down_parts P F R Z ∙ simp append_assoc)) in
    let pr : length (P ++ R) ≡ to - by = omega (arith, length-append P R) in
    let f : take by (drop (to - by) u) ≡ T = mid_read (P ++ R) T Z u (to - by) by q pr l in
    rw (w, k, f, l) (mid_put (P ++ R) T Z u (replicate by 0) (to - by) by q pr l ∙ append_assoc P R _)

-- F moves down over J: what stands behind it then is as long as J
pub record Behind (P J F R u : List ℕ) : Type 0 where
  pub junk : List ℕ
  pub words : u ≡ P ++ (F ++ (junk ++ R))
  pub size : length junk ≡ length J

pub shifted : (P J F R t u : List ℕ) (from to by : ℕ) → t ≡ P ++ (J ++ (F ++ R)) → length P + length J ≡ from → from + length F ≡ to → length J ≡ by
    → u ≡ moved_down t from to by → Behind P J F R u
shifted P J F R t u from to by e p r g m =
    let T : List ℕ = take by (drop (length P + length F) t) in
    let n : length t ≡ length P + (length J + (length F + length R)) = rw e (simp length-append) in
    let z : drop (length P + length F) t ≡ T ++ R =
    sym (take-append-drop by (drop (length P + length F) t))
    ∙ ap (λ (x : List ℕ). T ++ x)
    (drop-drop by (length P + length F) t ∙ rw (e, ← g)
    (ap (drop (length P + length F + length J)) (simp append_assoc) ∙ drop_at ((P ++ J) ++ F) R (length P + length F + length J) (simp length-append (omega arith)))) in
    record {
      junk = T;
      words = m ∙ rw (← z) (rw (e, ← r, ← p, ← g) (down_parts P J F R));
      size = length-take-le by (drop (length P + length F) t) (omega (arith, length-drop (length P + length F) t)) ∙ sym g;
    }
