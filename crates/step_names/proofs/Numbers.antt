-- What a number that is no step's takes: nothing.
use Rattle.std.specs.Prelude.{ℕ, ◌≡◌, false, map}
use mathlib.Core.Logic.{inl, inr}
use native.Mathlib.Omega.{arith}
use lib.ListN.{get_or-eq_default}
use Rattle.step_names.specs.Table.{Row, steps, IsNoStep, numbers_of, takes_draws, is_batch}

pub none_numbers_of : (n : ℕ) → IsNoStep n → numbers_of n ≡ 0
unfolding steps numbers_of
none_numbers_of n (inl e) = rw e
none_numbers_of n (inr past) = get_or-eq_default (map (λ (s : Row). s.numbers) steps) 0 {n = n} (omega arith)

pub none_takes_draws : (n : ℕ) → IsNoStep n → takes_draws n ≡ false
unfolding steps takes_draws
none_takes_draws n (inl e) = rw e
none_takes_draws n (inr past) = get_or-eq_default (map (λ (s : Row). s.draws) steps) false {n = n} (omega arith)

pub none_is_batch : (n : ℕ) → IsNoStep n → is_batch n ≡ false
unfolding steps is_batch
none_is_batch n (inl e) = rw e
none_is_batch n (inr past) = get_or-eq_default (map (λ (s : Row). s.batch) steps) false {n = n} (omega arith)
