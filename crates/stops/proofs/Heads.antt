-- The settings are good where every one of their tests passes.
use Prim.Native.Nat.{ℕ, suc, ◌+◌, ◌≤◌, ◌<◌}
use mathlib.Core.Path.{◌≡◌, refl}
use mathlib.Core.List.{List, [], ◌∷◌, ◌++◌}
use mathlib.Core.Bool.{Bool, true, false, cond}
use native.Mathlib.Omega.{arith}
use native.Mathlib.Numerals.{add-one}
use lib.Dec.{eqb, leb}
use lib.ListN.{length, get_or, take, drop, replicate, drop_of_length-le}
use lib.Seq.{drop-cons}
use Rattle.rules.specs.Lists.{◌and◌, every}
use Rattle.rules.specs.Board.{last_epoch}
use Rattle.rules.specs.WellFormed.{within}
use Rattle.word_tests.specs.Tests.{all_pass}
use Rattle.wellformed.specs.Check.{numbers_ok, settings_ok}
use Rattle.word_tests.proofs.Decides.{Words}
use Rattle.reading.specs.Stream.{TellsHead}
use Rattle.reading.proofs.Boards.{head_none, head_told}
use Rattle.std.specs.Prelude.{Ok, Err}
use Rattle.stops.specs.Stop.{setting_tests, tests_reading, is_ended}

-- ---- tests one after another

short_stops : (fs : List (ℕ → Bool)) (i : ℕ) (ws : List ℕ) → length ws < length fs → is_ended (tests_reading fs i ws) ≡ false
unfolding tests_reading
short_stops [] i ws h = absurd (omega arith)
short_stops (f ∷ fs) i [] h = refl
short_stops (f ∷ fs) i (n ∷ ws) h = go (f n) (short_stops fs (i + 1) ws (omega arith))
  where
    go : (c : Bool) → is_ended (tests_reading fs (i + 1) ws) ≡ false → is_ended (cond c (tests_reading fs (i + 1) ws) (Err i)) ≡ false
    go true e = e
    go false e = refl

pub tests_end : (fs : List (ℕ → Bool)) (i : ℕ) (ws : List ℕ) (a : ℕ) → tests_reading fs i ws ≡ Ok a → (a ≡ i + length fs) × (length fs ≤ length ws)
unfolding tests_reading
tests_end [] i ws a e = let q : i ≡ a = cc in (omega arith, omega arith)
tests_end (f ∷ fs) i [] a e = absurd (let z : ◌≡◌ {A = ℕ} 0 1 = cc in omega arith)
tests_end (f ∷ fs) i (n ∷ ws) a e = go (f n) e (tests_end fs (i + 1) ws a)
  where
    go : (c : Bool) → cond c (tests_reading fs (i + 1) ws) (Err i) ≡ Ok a → (tests_reading fs (i + 1) ws ≡ Ok a → (a ≡ i + 1 + length fs) × (length fs ≤ length ws))
        → (a ≡ i + suc (length fs)) × (suc (length fs) ≤ suc (length ws))
    go true e rec = let r = rec e in (omega (arith, r.0), omega (arith, r.1))
    go false e rec = absurd (let z : ◌≡◌ {A = ℕ} 0 1 = cc in omega arith)

-- a loop over the tests: no word, a word that fails, one that passes, and the end
module _ (fs : List (ℕ → Bool)) (i : ℕ) (ws : List ℕ) where
  pub test_missing : i < length fs → length ws ≤ i → tests_reading (drop i fs) i (drop i ws) ≡ Err i
  unfolding tests_reading
  test_missing h g = rw (drop-cons fs i (λ _. true) h, drop_of_length-le ws {i = i} g)

  pub test_fails : i < length fs → i < length ws → get_or fs i (λ _. true) (get_or ws i 0) ≡ false → tests_reading (drop i fs) i (drop i ws) ≡ Err i
  unfolding tests_reading
  test_fails h g e = rw (drop-cons fs i (λ _. true) h, drop-cons ws i 0 g, e)

  pub test_passes : i < length fs → i < length ws → get_or fs i (λ _. true) (get_or ws i 0) ≡ true
      → tests_reading (drop i fs) i (drop i ws) ≡ tests_reading (drop (i + 1) fs) (i + 1) (drop (i + 1) ws)
  unfolding tests_reading
  test_passes h g e = rw (drop-cons fs i (λ _. true) h, drop-cons ws i 0 g, e) (rw (add-one i))

  pub tests_done : length fs ≤ i → tests_reading (drop i fs) i (drop i ws) ≡ Ok i
  unfolding tests_reading
  tests_done h = rw (drop_of_length-le fs {i = i} h)

pub seven_tests : length setting_tests ≡ 7
unfolding setting_tests
seven_tests = refl

-- ---- the seven tests of the settings

seven : (a b c d e f g : ℕ) (rest : List ℕ)
    → is_ended (tests_reading setting_tests 0 (a ∷ b ∷ c ∷ d ∷ e ∷ f ∷ g ∷ rest)) ≡ settings_ok (take 7 (a ∷ b ∷ c ∷ d ∷ e ∷ f ∷ g ∷ rest) ++ replicate 9 0)
unfolding setting_tests tests_reading settings_ok numbers_ok all_pass every ◌and◌
seven a b c d e f g rest = go (eqb a 6) (leb b last_epoch) (within 4 32 c) (leb d 1000000) (leb e 1000000) (within 1 1000000 f) (leb g 48)
  where
    go : (p q r s t u v : Bool)
        → is_ended (cond p (cond q (cond r (cond s (cond t (cond u (cond v (Ok 7) (Err 6)) (Err 5)) (Err 4)) (Err 3)) (Err 2)) (Err 1)) (Err 0))
        ≡ all_pass (p ∷ all_pass (q ∷ r ∷ s ∷ t ∷ u ∷ v ∷ []) ∷ true ∷ [])
    go false q r s t u v = refl
    go true false r s t u v = refl
    go true true false s t u v = refl
    go true true true false t u v = refl
    go true true true true false u v = refl
    go true true true true true false v = refl
    go true true true true true true false = refl
    go true true true true true true true = refl

head_short : (l : List ℕ) → length l < 7 → TellsHead l (is_ended (tests_reading setting_tests 0 l))
unfolding setting_tests
head_short l h = rw (short_stops setting_tests 0 l h) (head_none l h)

pub head_tells : (l : List ℕ) → Words l → TellsHead l (is_ended (tests_reading setting_tests 0 l))
head_tells [] v = head_short _ (omega arith)
head_tells (a ∷ []) v = head_short _ (omega arith)
head_tells (a ∷ b ∷ []) v = head_short _ (omega arith)
head_tells (a ∷ b ∷ c ∷ []) v = head_short _ (omega arith)
head_tells (a ∷ b ∷ c ∷ d ∷ []) v = head_short _ (omega arith)
head_tells (a ∷ b ∷ c ∷ d ∷ e ∷ []) v = head_short _ (omega arith)
head_tells (a ∷ b ∷ c ∷ d ∷ e ∷ f ∷ []) v = head_short _ (omega arith)
head_tells (a ∷ b ∷ c ∷ d ∷ e ∷ f ∷ g ∷ rest) v = head_told _ _ v (omega arith) (seven a b c d e f g rest)
