-- Room that is cleared piece by piece.
use Prim.Native.Nat.{ℕ, ◌+◌, ◌-◌, ◌≤◌}
use mathlib.Core.Path.{◌≡◌, refl, ap, sym, ◌∙◌}
use mathlib.Core.List.{List, ◌++◌, append_assoc, append-nil}
use native.Mathlib.Omega.{arith}
use borrow.Rule.Slice.PartMut.{put_mid}
use lib.ListN.{length, take, drop, replicate, length-append, length-drop, length-replicate, take-append-drop, drop_of_length-le, replicate-append-replicate}
use lib.Seq.{drop-drop}
use Rattle.shifts.proofs.Parts.{between_length, mid_put}

-- zeros up to a, and what was there from a on
pub record Wiped (t₀ t : List ℕ) (a : ℕ) : Type 0 where
  pub room : a ≤ length t₀
  pub is : t ≡ replicate a 0 ++ drop a t₀

pub wiped_none : (t : List ℕ) → Wiped t t 0
wiped_none t = record { room = omega arith; is = refl }

pub wiped_length : {t₀ t : List ℕ} {a : ℕ} → Wiped t₀ t a → length t ≡ length t₀
wiped_length {t₀} {t} {a} w = ap length w.is ∙ omega (arith, length-append (replicate a 0) (drop a t₀), length-replicate {A = ℕ} a 0, length-drop a t₀, w.room)

pub wiped_on : {t₀ t : List ℕ} {a : ℕ} (p : List ℕ) (e : ℕ) → Wiped t₀ t a → a ≤ e → e ≤ length t₀ → p ≡ replicate (length (take (e - a) (drop a t))) 0
    → Wiped t₀ (put_mid a (e - a) t p) e
wiped_on {t₀} {t} {a} p e w h l q =
    let F = take (e - a) (drop a t₀) in
    let z : a + (e - a) ≡ e = omega arith in
    let rest : drop (e - a) (drop a t₀) ≡ drop e t₀ = drop-drop (e - a) a t₀ ∙ ap (λ (k : ℕ). drop k t₀) z in
    let split : drop a t₀ ≡ F ++ drop e t₀ = sym (take-append-drop (e - a) (drop a t₀)) ∙ ap (λ (r : List ℕ). F ++ r) rest in
    let zeros : p ≡ replicate (e - a) 0 = q ∙ ap (λ (k : ℕ). replicate k 0) (between_length a e t (omega (arith, wiped_length w))) in
    record {
      room = l;
      is =
          mid_put (replicate a 0) F (drop e t₀) t p a (e - a) (w.is ∙ ap (λ (r : List ℕ). replicate a 0 ++ r) split) (length-replicate a 0) (between_length a e t₀ l)
          ∙ ap (λ (r : List ℕ). replicate a 0 ++ (r ++ drop e t₀)) zeros
          ∙ sym (append_assoc (replicate a 0) (replicate (e - a) 0) (drop e t₀))
          ∙ ap (λ (r : List ℕ). r ++ drop e t₀) (replicate-append-replicate {A = ℕ} a (e - a) 0 ∙ ap (λ (k : ℕ). replicate k 0) z);
    }

pub wiped_all : {t₀ t : List ℕ} {e : ℕ} → Wiped t₀ t e → length t₀ ≤ e → t ≡ replicate (length t₀) 0
wiped_all {t₀} {t} {e} w h =
    let n : e ≡ length t₀ = omega (arith, w.room) in
    w.is ∙ rw (n, drop_of_length-le t₀ {i = length t₀} (omega arith)) (append-nil _)
