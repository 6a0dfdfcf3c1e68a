-- A text walked line by line.
use Prim.Native.Nat.{ℕ, zero, suc, ◌+◌, ◌-◌, ◌≤◌, ◌<◌}
use mathlib.Core.Path.{◌≡◌, refl, ap, sym, ◌∙◌}
use mathlib.Core.Bool.{Bool, true, false, cond}
use mathlib.Core.List.{List, [], ◌∷◌}
use native.Mathlib.Omega.{arith}
use native.Mathlib.Numerals.{add-one}
use lib.Dec.{eqb}
use lib.ListN.{length, take, drop, get_or, drop_of_length-le}
use lib.Seq.{drop-cons, drop-drop}
use Rattle.templates.specs.Lines.{first_line, line_of}

-- ---- one line

none : (b : ℕ) (t : List ℕ) → eqb b 10 ≡ true → first_line (b ∷ t) ≡ []
unfolding first_line
none b t e = rw e

more : (b : ℕ) (t : List ℕ) → eqb b 10 ≡ false → first_line (b ∷ t) ≡ b ∷ first_line t
unfolding first_line
more b t e = rw e

pub stops : (t : List ℕ) (e : ℕ) → e < length t → eqb (get_or t e 0) 10 ≡ true → length (first_line (drop e t)) ≡ 0
stops t e h b = rw (drop-cons t e 0 h, none (get_or t e 0) (drop (suc e) t) b)

pub goes_on_lem : (t : List ℕ) (e : ℕ) → e < length t → eqb (get_or t e 0) 10 ≡ false → length (first_line (drop e t)) ≡ 1 + length (first_line (drop (e + 1) t))
goes_on_lem t e h b = rw (drop-cons t e 0 h, more (get_or t e 0) (drop (suc e) t) b, add-one e) (omega arith)

pub ends : (t : List ℕ) (e : ℕ) → length t ≤ e → length (first_line (drop e t)) ≡ 0
unfolding first_line
ends t e h = rw (drop_of_length-le t {i = e} h)

line_is : (t : List ℕ) → take (length (first_line t)) t ≡ first_line t
unfolding first_line
line_is [] = refl
line_is (b ∷ t) = go (eqb b 10) (line_is t)
  where
    go : (c : Bool) → take (length (first_line t)) t ≡ first_line t → take (length (cond c [] (b ∷ first_line t))) (b ∷ t) ≡ cond c [] (b ∷ first_line t)
    go true h = refl
    go false h = ap (λ (l : List ℕ). b ∷ l) h

-- ---- the lines before it

no_line : (k : ℕ) → line_of k [] ≡ []
unfolding first_line line_of
no_line zero = refl
no_line (suc k) = no_line k

module _ (t : List ℕ) (k s n e : ℕ) (p : line_of n (drop s t) ≡ line_of k t) (q : e ≡ s + length (first_line (drop s t))) where
  after : (m : ℕ) → n ≡ suc m → line_of m (drop (e + 1) t) ≡ line_of k t
  unfolding line_of
  after m z =
      let d : s + (length (first_line (drop s t)) + 1) ≡ e + 1 = omega arith in
      rw (← d, ← drop-drop (length (first_line (drop s t)) + 1) s t) (rw z at p)

  pub next : 0 < n → line_of (n - 1) (drop (e + 1) t) ≡ line_of k t
  next h = let z : n ≡ suc (n - 1) = omega arith in after (n - 1) z

  -- the last line is passed
  pub past : 0 < n → e ≡ length t → [] ≡ line_of k t
  past h z = let d : length t ≤ e + 1 = omega arith in sym (no_line (n - 1)) ∙ (rw (drop_of_length-le t {i = e + 1} d) at (next h))

  pub there : n ≤ 0 → take (e - s) (drop s t) ≡ line_of k t
  unfolding line_of
  there h =
      let z : n ≡ 0 = omega arith in
      let d : e - s ≡ length (first_line (drop s t)) = omega arith in
      rw d (line_is (drop s t) ∙ (rw z at p))
