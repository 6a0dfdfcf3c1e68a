-- What tests in a row say; the code's `&` and `|` are the rules' `and` and `or`.
use mathlib.Core.Path.{◌≡◌, refl}
use mathlib.Core.List.{List, [], ◌∷◌}
use mathlib.Core.Logic.{◌⊎◌, inl, inr}
use mathlib.Core.Bool.{Bool, true, false, ◌&&◌, ◌||◌, false≢true}
use Rattle.rules.specs.Lists.{◌and◌, ◌or◌}
use Rattle.rules.proofs.Tests.{Yes}
use Rattle.word_tests.specs.Tests.{and_on, or_on, all_pass, any_pass}

pub and_is : (a b : Bool) → (a and b) ≡ (a && b)
unfolding ◌and◌
and_is true b = refl
and_is false b = refl

pub or_is : (a b : Bool) → (a or b) ≡ (a || b)
unfolding ◌or◌
or_is true b = refl
or_is false b = refl

pub left_true : (a b : Bool) → (a && b) ≡ true → a ≡ true
left_true true b h = refl
left_true false b h = h

pub right_true : (a b : Bool) → (a && b) ≡ true → b ≡ true
right_true true b h = h
right_true false b h = absurd (false≢true h)

pub both : (a b : Bool) → a ≡ true → b ≡ true → (a && b) ≡ true
both a b p q = rw (p, q)

and_parts : (a : Bool) (bs : List Bool) → and_on a bs ≡ true → (a ≡ true) × Yes bs
and_parts a [] h = (h, tt)
and_parts a (b ∷ bs) h = let r = and_parts (a && b) bs h in (left_true a b r.0, (right_true a b r.0, r.1))

and_joins : (a : Bool) (bs : List Bool) → a ≡ true → Yes bs → and_on a bs ≡ true
and_joins a [] p q = p
and_joins a (b ∷ bs) p q = and_joins (a && b) bs (both a b p q.0) q.1

pub pass_parts : (bs : List Bool) → all_pass bs ≡ true → Yes bs
unfolding all_pass
pass_parts [] h = tt
pass_parts (b ∷ bs) h = and_parts b bs h

pub pass_joins : (bs : List Bool) → Yes bs → all_pass bs ≡ true
unfolding all_pass
pass_joins [] h = refl
pass_joins (b ∷ bs) h = and_joins b bs h.0 h.1

-- one of the tests says yes
abbrev pub Some : List Bool → Type 0
Some [] = ⊥
Some (b ∷ bs) = (b ≡ true) ⊎ Some bs

or_cases : (a : Bool) (bs : List Bool) → or_on a bs ≡ true → (a ≡ true) ⊎ Some bs
or_cases a [] h = inl h
or_cases true (b ∷ bs) h = inl refl
or_cases false (b ∷ bs) h = inr (or_cases b bs h)

or_yes : (bs : List Bool) → or_on true bs ≡ true
or_yes [] = refl
or_yes (b ∷ bs) = or_yes bs

or_joins : (bs : List Bool) (a : Bool) → (a ≡ true) ⊎ Some bs → or_on a bs ≡ true
or_joins [] true h = refl
or_joins [] false (inl h) = h
or_joins [] false (inr h) = absurd h
or_joins (b ∷ bs) true h = or_yes bs
or_joins (b ∷ bs) false (inl h) = absurd (false≢true h)
or_joins (b ∷ bs) false (inr h) = or_joins bs b h

pub any_cases : (bs : List Bool) → any_pass bs ≡ true → Some bs
unfolding any_pass
any_cases [] h = absurd (false≢true h)
any_cases (b ∷ bs) h = or_cases b bs h

pub any_joins : (bs : List Bool) → Some bs → any_pass bs ≡ true
unfolding any_pass
any_joins [] h = absurd h
any_joins (b ∷ bs) h = or_joins bs b h
