use Prim.Native.Nat.{ℕ, ◌≤◌, ◌<◌}
use mathlib.Core.Path.{◌≡◌, refl, ap, sym, ◌∙◌}
use mathlib.Core.Bool.{true}
use native.Mathlib.Omega.{arith}
use lib.ListN.{length, get_or}
use Rattle.types.specs.Places.{is_pooled}
use Rattle.types.specs.declared.Machine.{Machine}
use Rattle.rules.specs.Moves.{pool_of}
use Rattle.board.specs.Held.{no_machine}
use Rattle.pool.proofs.Pools.{rank_found, rank_passed, rank_counted, rank_ended}
use Rattle.pool.proofs.find_at_rank.Goals.{then-is_pooled+else-left-eq0, else-is_pooled}
use Rattle.pool.proofs.find_at_rank.Goals as goal

least : (n k : ℕ) → (k < n → ⊥) → n ≤ k
least n k f = omega arith

pub loop-i-init : goal.loop-i-init
unfolding pool_of
loop-i-init c = (omega arith, c.rows-n.ensures.0, λ b h l. (c.rows-n.ensures.1 b h, (l, refl)))

pub returns-then-left-eq0 : goal.returns-then-left-eq0
returns-then-left-eq0 c =
    let a = c.loop-i in (
      omega arith,
      λ b h l.
          let t = a.invariant.2 b h l in
          let w : a.i < length b.machines = omega (arith, t.0, c.loop-i-test.true) in
          let p : is_pooled (get_or b.machines a.i no_machine).val ≡ true =
          ap (λ (m : Machine). is_pooled m.place) (sym (c.at-m.ensures b h w)) ∙ sym c.is_pooled.ensures ∙ c.if-is_pooled.true in
          record { within = w; pooled = p; id = rank_found is_pooled b.machines a.i a.left _ t.1 no_machine w p c.if-left-eq0.true },
    )

pub loop-i-preserved : goal.loop-i-preserved
loop-i-preserved c =
    let a = c.loop-i in (
      omega arith,
      a.invariant.1,
      λ b h l.
          let t = a.invariant.2 b h l in
          let w : a.i < length b.machines = omega (arith, t.0, c.loop-i-test.true) in
          let p : is_pooled (get_or b.machines a.i no_machine).val ≡ c.is_pooled.result =
          ap (λ (m : Machine). is_pooled m.place) (sym (c.at-m.ensures b h w)) ∙ sym c.is_pooled.ensures in (
            t.0,
            elim c.if-is_pooled.branch [
              | then-is_pooled+else-left-eq0 u ↦ rw u.left-is (rank_counted is_pooled b.machines a.i a.left _ t.1 no_machine w (p ∙ u.if-is_pooled.true) u.if-left-eq0.false)
              | else-is_pooled u ↦ rw u.left-is (rank_passed is_pooled b.machines a.i a.left _ t.1 no_machine w (p ∙ u.if-is_pooled.false))
            ],
          ),
    )

pub returns : goal.returns
returns c = λ b h.
    let a = c.loop-i in
    least (length (pool_of b)) c.args.k (λ l. let t = a.invariant.2 b h l in rank_ended is_pooled b.machines a.i a.left _ t.1 (omega (arith, t.0, c.loop-i-test.false)))
