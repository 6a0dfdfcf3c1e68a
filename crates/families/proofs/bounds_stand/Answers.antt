use mathlib.Core.Path.{◌∙◌, refl, ap}
use mathlib.Core.Bool.{true, false}
use native.Mathlib.Omega.{arith}
use Rattle.rules.specs.Table.{stands}
use Rattle.std.specs.Prelude.{Some, None}
use Rattle.board.specs.Held.{no_boundary}
use Rattle.board.proofs.Keyed.{bounds_rise}
use Rattle.rows.proofs.Asked.{finds_stands}
use Rattle.families.proofs.Refusing.{merge_bounds, split_bounds}
use Rattle.families.proofs.bounds_stand.Goals as goal

pub returns-in_default : goal.returns-in_default
returns-in_default c = λ b h ok.
    let l = finds_stands _ no_boundary b.bounds None (bounds_rise b ok) (c.in_default.ensures.found b h ok) ∙ ap (λ s. stands s b.bounds) c.left.ensures in
    merge_bounds _ b _ c.if-merging.true false _ l refl

pub returns-then-merging : goal.returns-then-merging
returns-then-merging c = λ b h ok.
    let f = c.in-Some.ensures.found b h ok in
    let g = c.find_bound_after.ensures.found b h ok f.0 (omega (arith, f.1, c.left.ensures, c.right.ensures)) in
    let l = finds_stands _ _ b.bounds (Some c.in-Some.left) (bounds_rise b ok) f ∙ ap (λ s. stands s b.bounds) c.left.ensures in
    let r = finds_stands _ _ b.bounds _ (bounds_rise b ok) g ∙ ap (λ s. stands s b.bounds) c.right.ensures in
    c.is_some.ensures ∙ merge_bounds _ b _ c.if-merging.true true _ l r

pub returns : goal.returns
returns c = λ b h ok. split_bounds _ b _ c.if-merging.false _ (c.has_bound.ensures b h ok)
