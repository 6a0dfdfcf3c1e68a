-- Tests of lists, as counts.
use mathlib.Core.Path.{◌≡◌, refl, sym, ◌∙◌}
use mathlib.Core.List.{List, [], ◌∷◌}
use mathlib.Core.Option.{Option, none, some}
use mathlib.Core.Bool.{Bool, true, false, true≢false}
use Prim.Native.Nat.{ℕ, ◌≤◌}
use native.Mathlib.Omega.{arith}
use Rattle.rules.specs.Lists.{◌and◌, ◌or◌, bit_of, any, has}
use Rattle.rules.specs.Table.{Table, at, stands, holds_at, is_some}
use Rattle.rules.proofs.Counts.{Alike, same, apart, alike, hit_same, hit_apart, occ}
use Rattle.rules.proofs.Tables.{tally}
use Rattle.rules.proofs.Tests.{or_left, or_right, le_of, of_le, lt_of_no, has_occ}

-- what is never 1 or more is 0
pub zero_unless : (n : ℕ) → (1 ≤ n → ⊥) → n ≡ 0
zero_unless n h = go (alike n 0)
  where
    go : Alike n 0 → n ≡ 0
    go (same p v) = p
    go (apart p v) = absurd (h (omega arith))

-- ---- a test is 1 or 0

pub bit_yes : (c : Bool) → c ≡ true → bit_of c ≡ 1
bit_yes c h = rw h

pub bit_no : (c : Bool) → c ≡ false → bit_of c ≡ 0
bit_no c h = rw h

pub yes_bit : (c : Bool) → 1 ≤ bit_of c → c ≡ true
yes_bit true h = refl
yes_bit false h = absurd (omega arith)

pub no_bit : (c : Bool) → bit_of c ≡ 0 → c ≡ false
no_bit true h = absurd (omega arith)
no_bit false h = refl

pub bit_most : (c : Bool) → bit_of c ≤ 1
bit_most true = omega arith
bit_most false = omega arith

pub and_most : (a c : Bool) → bit_of (a and c) ≤ bit_of a
unfolding ◌and◌
and_most true c = bit_most c
and_most false c = omega arith

-- what stands at a key passes a test: its number is 1
pub holds_bit : {A : Type 0} (f : A → Bool) (g : A → ℕ) → ((a : A) → bit_of (f a) ≡ g a) → (k : ℕ) (t : Table A) → bit_of (holds_at k f t) ≡ tally g (at k t)
unfolding holds_at tally
holds_bit {A} f g e k t = go (at k t)
  where
    go : (o : Option A) → bit_of (elim o [ none ↦ false | some v ↦ f v ]) ≡ tally g o
    go none = refl
    go (some v) = e v

pub tally_le : {A : Type 0} (g k : A → ℕ) → ((a : A) → g a ≤ k a) → (o : Option A) → tally g o ≤ tally k o
unfolding tally
tally_le g k h none = omega arith
tally_le g k h (some a) = h a

-- where nothing stands, nothing is told
pub none_told : {A : Type 0} (g : A → ℕ) (o : Option A) → tally (λ a. 1) o ≡ 0 → tally g o ≡ 0
unfolding tally
none_told g none h = refl
none_told g (some a) h = absurd (omega arith)

pub some_bit : {A : Type 0} (o : Option A) → bit_of (is_some o) ≡ tally (λ a. 1) o
unfolding is_some tally
some_bit none = refl
some_bit (some v) = refl

pub stands_bit : {A : Type 0} (k : ℕ) (t : Table A) → bit_of (stands k t) ≡ tally (λ a. 1) (at k t)
unfolding stands
stands_bit k t = some_bit (at k t)

-- ---- a number is in a list

pub in_of : (x : ℕ) (l : List ℕ) → has x l ≡ true → 1 ≤ occ x l
in_of x l h = le_of _ _ (sym (has_occ x l) ∙ h)

pub of_in : (x : ℕ) (l : List ℕ) → 1 ≤ occ x l → has x l ≡ true
of_in x l h = has_occ x l ∙ of_le _ _ h

pub out_of : (x : ℕ) (l : List ℕ) → has x l ≡ false → occ x l ≡ 0
out_of x l h = omega (arith, lt_of_no 1 (occ x l) (sym (has_occ x l) ∙ h))

pub of_out : (x : ℕ) (l : List ℕ) → occ x l ≡ 0 → has x l ≡ false
of_out x l h = has_occ x l ∙ rw h

-- some number of a list passes a test
pub any_in : (f : ℕ → Bool) (l : List ℕ) (x : ℕ) → 1 ≤ occ x l → f x ≡ true → any f l ≡ true
unfolding any occ
any_in f [] x o h = absurd (omega arith)
any_in f (y ∷ l) x o h = go (alike x y) (any_in f l x)
  where
    go : Alike x y → (1 ≤ occ x l → f x ≡ true → any f l ≡ true) → (f y or any f l) ≡ true
    go (same p q) ih = or_left _ _ (rw (← p) h)
    go (apart p q) ih = or_right _ _ (ih (omega (arith, hit_apart x y p)) h)

-- none does
pub none_in : (f : ℕ → Bool) (l : List ℕ) → any f l ≡ false → (x : ℕ) → 1 ≤ occ x l → f x ≡ false
none_in f l h x o = go (f x) refl
  where
    go : (c : Bool) → f x ≡ c → c ≡ false
    go true e = absurd (true≢false (sym (any_in f l x o e) ∙ h))
    go false e = refl

pub in_none : (f : ℕ → Bool) (l : List ℕ) → ((x : ℕ) → 1 ≤ occ x l → f x ≡ false) → any f l ≡ false
unfolding any occ ◌or◌
in_none f [] h = refl
in_none f (y ∷ l) h = rw (h y (omega (arith, hit_same y))) (in_none f l (λ x o. h x (omega arith)))
