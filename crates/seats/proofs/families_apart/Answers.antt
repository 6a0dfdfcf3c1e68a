use Prim.Native.Nat.{◌<◌}
use mathlib.Core.Path.{refl, sym, ◌∙◌}
use native.Mathlib.Omega.{arith}
use borrow.Author.Tests.{not-true, not-false}
use lib.ListN.{length}
use Rattle.rules.specs.Table.{keys_where, keys_of}
use Rattle.rules.specs.SeatCheck.{families_apart}
use Rattle.board.specs.Held.{no_reshape}
use Rattle.occupancy.proofs.Walks.{walk_ended, walk_passed, walk_failed}
use Rattle.seats.specs.Rows.{is_family_apart}
use Rattle.seats.proofs.families_apart.Goals as goal

pub loop-i-init : goal.loop-i-init
loop-i-init c = (
  omega arith,
  c.rows_within-n.ensures.0,
  λ b h.
      let n = c.count.ensures b h in
      (c.rows_within-n.ensures.1 (rw n h.fits.reshapes) ∙ n, refl),
)

pub returns-then-not-is_family_apart : goal.returns-then-not-is_family_apart
unfolding families_apart keys_of keys_where
returns-then-not-is_family_apart c = λ b h.
    let a = c.loop-i in
    let t = a.invariant.2 b h in
    let l : a.i < length b.reshapes = omega (arith, t.0, c.loop-i-test.true) in
    walk_failed (λ rows. families_apart (keys_of rows)) is_family_apart refl (λ e rows. refl) _ b.reshapes a.i t.1 no_reshape l
    (sym (c.is_family_apart.ensures b h l) ∙ not-true _ c.if-not-is_family_apart.true-raw)

pub loop-i-preserved : goal.loop-i-preserved
unfolding families_apart keys_of keys_where
loop-i-preserved c = (
  omega arith,
  c.loop-i.invariant.1,
  λ b h.
      let a = c.loop-i in
      let t = a.invariant.2 b h in
      let l : a.i < length b.reshapes = omega (arith, t.0, c.loop-i-test.true) in (
        t.0,
        walk_passed (λ rows. families_apart (keys_of rows)) is_family_apart refl (λ e rows. refl) _ b.reshapes a.i t.1 no_reshape l
            (sym (c.is_family_apart.ensures b h l) ∙ not-false _ c.if-not-is_family_apart.false-raw),
      ),
)

pub returns : goal.returns
unfolding families_apart keys_of keys_where
returns c = λ b h.
    let t = c.loop-i.invariant.2 b h in
    walk_ended (λ rows. families_apart (keys_of rows)) is_family_apart refl (λ e rows. refl) _ b.reshapes c.loop-i.i t.1 (omega (arith, t.0, c.loop-i-test.false))
