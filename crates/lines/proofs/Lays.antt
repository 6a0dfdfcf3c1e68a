-- What is put one after another in a line.
use Prim.Native.Nat.{ℕ, ◌+◌, ◌-◌, ◌≤◌, ◌<◌, min}
use mathlib.Core.Path.{◌≡◌, refl, ap, sym, ◌∙◌}
use mathlib.Core.Bool.{Bool, true, false}
use mathlib.Core.List.{List, [], ◌++◌, append_assoc, append-nil}
use native.Mathlib.Omega.{arith}
use native.Mathlib.Nat.{add-zero}
use borrow.Author.Tests.{ltb-true, ltb-false}
use lib.Dec.{ltb}
use lib.ListN.{length, take, drop, replicate, length-replicate, length-append, length-drop}
use lib.Seq.{take_all, take-append-le, take-append-add, drop-drop, length-take-le, take-take}
use borrow.Rule.Slice.PartMut.{put_mid, same_len_mid}
use Rattle.std.proofs.lemmas.List.{take-replicate}
use Rattle.std.proofs.lemmas.Slice.{take-put_mid, drop-put_mid}
use Rattle.lines.specs.Says.{Puts}
use Rattle.lines.specs.Numeral.{spaces}

pub puts_none : (l : List ℕ) (at : ℕ) → Puts l at [] l at
puts_none l at = record { room = refl; says = λ t h. rw append-nil h; kept = refl; past = λ h. (refl, refl) }

-- what stood after a place stands after every later one
kept_on_lem : (l m : List ℕ) (a b : ℕ) → drop a m ≡ drop a l → a ≤ b → drop b m ≡ drop b l
kept_on_lem l m a b e h =
    let z : a + (b - a) ≡ b = omega arith in
    rw (← z, ← drop-drop (b - a) a m, ← drop-drop (b - a) a l, e)

module _ {l u m : List ℕ} {at a : ℕ} (p : Puts l at u m a) where
  -- the next place is never before the last
  forth : at ≤ a
  forth = go (ltb (length l) at) refl
    where
      go : (z : Bool) → ltb (length l) at ≡ z → at ≤ a
      go true e = omega (arith, (p.past (ltb-true (length l) at e)).0)
      go false e =
          let h = ltb-false (length l) at e in
          let w = length-take-le at l h in
          let q = p.says (take at l) (record { place = omega arith; text = sym (take-take at at l (omega arith)) }) in
          omega (arith, q.place, p.room, length-append (take at l) u)

pub puts_both : {l u m v n : List ℕ} {at a b : ℕ} → Puts l at u m a → Puts m a v n b → Puts l at (u ++ v) n b
puts_both {l} {u} {m} {v} {n} {at} {a} {b} p q = record {
  room = q.room ∙ p.room;
  says = λ t s. rw (← append_assoc t u v) (q.says (t ++ u) (p.says t s));
  kept = q.kept ∙ kept_on_lem l m a b p.kept (forth q);
  past = λ z. let x = p.past z in let y = q.past (omega (arith, x.0, p.room)) in (y.0 ∙ x.0, y.1 ∙ x.1);
}

-- ---- s from a place within the room on, as much of it as fits

seam : (t s : List ℕ) (a n : ℕ) → a ≤ length t → (a < length t → n ≡ 0) → take a t ++ take n s ≡ take (a + n) (t ++ s)
seam t s a n h z = go (ltb a (length t)) refl
  where
    go : (c : Bool) → ltb a (length t) ≡ c → take a t ++ take n s ≡ take (a + n) (t ++ s)
    go true e = let i : n ≡ 0 = z (ltb-true a (length t) e) in rw (i, append-nil, add-zero) (sym (take-append-le a t s h))
    go false e = let i : a ≡ length t = omega (arith, ltb-false a (length t) e) in rw (i, take_all (length t) t (omega arith)) (sym (take-append-add t s n))

pub puts_fitting : (l s : List ℕ) (at n : ℕ) → at ≤ length l → n ≡ min (length s) (length l - at) → Puts l at s (put_mid at (at + n - at) l (take n s)) (at + n)
puts_fitting l s at n h e =
    let k : at + n - at ≡ n = omega arith in
    let w : length (take n s) ≡ n = length-take-le n s (omega arith) in
    let room = same_len_mid at n l (take n s) (omega (arith, w, length-take-le n (drop at l), length-drop at l)) in
    rw k (record {
      room = room;
      says = λ t q. record {
        place = omega (arith, q.place, room, length-append t s);
        text = take-put_mid at n l (take n s) (at + n) (omega arith) h ∙ ap (λ (x : List ℕ). x ++ take n s) q.text ∙ seam t s at n (omega (arith, q.place)) (λ z. omega (arith, q.place));
      };
      kept = drop-put_mid at n l (take n s) (at + n) (omega arith) h w;
      past = λ z. absurd (omega arith);
    })

-- n of m blanks, where ys fills the room that there is for them
pub blanks_fitting : (l ys : List ℕ) (at n m : ℕ) → at ≤ length l → n ≡ min m (length l - at) → ys ≡ replicate (length (take (at + n - at) (drop at l))) 32
    → Puts l at (spaces m) (put_mid at (at + n - at) l ys) (at + n)
blanks_fitting l ys at n m h e f =
    let k : length (take (at + n - at) (drop at l)) ≡ n = length-take-le (at + n - at) (drop at l) (omega (arith, length-drop at l)) ∙ omega arith in
    let y : ys ≡ take n (spaces m) = f ∙ rw k (sym (take-replicate n m 32 (omega arith))) in
    rw y (puts_fitting l (spaces m) at n h (omega (arith, length-replicate {A = ℕ} m 32)))

-- a place past the room writes nothing
pub puts_past : (l s : List ℕ) (at : ℕ) → length l < at → Puts l at s l at
puts_past l s at h = record {
  room = refl;
  says = λ t q. absurd (omega (arith, q.place));
  kept = refl;
  past = λ z. (refl, refl);
}

-- what is laid is within the room
pub take_within : (n : ℕ) (l : List ℕ) → take (min n (length l)) l ≡ take n l
take_within n l = go (ltb n (length l)) refl
  where
    go : (c : Bool) → ltb n (length l) ≡ c → take (min n (length l)) l ≡ take n l
    go true e = let h = ltb-true n (length l) e in let m : min n (length l) ≡ n = omega arith in rw m
    go false e =
        let h = ltb-false n (length l) e in
        take_all (min n (length l)) l (omega arith) ∙ sym (take_all n l (omega arith))
