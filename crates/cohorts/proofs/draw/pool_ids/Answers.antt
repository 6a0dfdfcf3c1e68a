use Prim.Native.Nat.{ℕ, ◌+◌, ◌<◌}
use mathlib.Core.Path.{refl, ap, sym, ◌∙◌}
use mathlib.Core.List.{◌++◌, append-nil}
use native.Mathlib.Omega.{arith}
use lib.ListN.{length, take, length-set}
use Rattle.types.specs.Places.{is_pooled}
use Rattle.types.specs.declared.Machine.{Machine}
use Rattle.rules.specs.Moves.{pool_of}
use Rattle.pool.proofs.Pools.{bit_most, keys_none}
use Rattle.cohorts.proofs.Draws.{gathered}
use Rattle.cohorts.proofs.draw.pool_ids.Goals as goal

pub loop-i-init : goal.loop-i-init
unfolding pool_of
loop-i-init c = (
  omega arith,
  c.rows_within-n.ensures.0,
  omega arith,
  refl,
  λ b h. (c.rows_within-n.ensures.1 (rw (c.count.ensures b h) h.fits.machines) ∙ c.count.ensures b h, refl),
)

pub overflow_add-k : goal.overflow_add-k
overflow_add-k c = omega (arith, c.from-k.ensures, bit_most c.is_pooled.result)

pub loop-i-preserved : goal.loop-i-preserved
loop-i-preserved c = let a = c.loop-i in (
  omega arith,
  a.invariant.1,
  omega (arith, c.from-k.ensures, bit_most c.is_pooled.result),
  simp length-set a.invariant.3,
  λ b h.
      let t = a.invariant.4 b h in
      let l : a.i < length b.machines = omega (arith, t.0, c.loop-i-test.true) in
      let m = c.at-m.ensures b h l in
      (t.0, gathered b a.i a.k _ _ a.out _ l (omega (arith, a.invariant.3, c.requires.1)) (c.is_pooled.ensures ∙ ap (λ (x : Machine). is_pooled x.place) m) (ap (λ (x : Machine). x.id.0) m) (ap (λ (x : ℕ). a.k + x) c.from-k.ensures) t.1),
)

pub returns : goal.returns
returns c = let a = c.loop-i in (
  omega arith,
  λ b h.
      let t = a.invariant.4 b h in
      sym (append-nil _) ∙ ap (λ r. take a.k a.out ++ r) (sym (keys_none is_pooled b.machines a.i (omega (arith, t.0, c.loop-i-test.false)))) ∙ t.1,
)
