use mathlib.Core.Path.{ap, sym, ◌∙◌}
use Prim.Native.Nat.{ℕ, ◌+◌, ◌*◌}
use native.Mathlib.Omega.{arith}
use Rattle.packing.proofs.Sizes.{flat_within, flat_length}
use Rattle.packing.proofs.flat_size.Goals as goal

pub overflow_mul-result : goal.overflow_mul-result
overflow_mul-result c = let a = c.args in omega (arith, ap (λ (n : ℕ). n * a.w) c.count.ensures, flat_within a.w a.cap a.t.now c.requires)

pub overflow_add-result : goal.overflow_add-result
overflow_add-result c = let a = c.args in omega (arith, ap (λ (n : ℕ). n * a.w) c.count.ensures, flat_within a.w a.cap a.t.now c.requires)

pub returns : goal.returns
returns c = let a = c.args in ap (λ (n : ℕ). 1 + n * a.w) c.count.ensures ∙ sym (flat_length a.w a.cap a.t.now c.requires)
