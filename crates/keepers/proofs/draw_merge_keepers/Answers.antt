use mathlib.Core.Path.{◌∙◌}
use native.Mathlib.Omega.{arith}
use Rattle.std.proofs.lemmas.Result.{err_from_is_err_and}
use Rattle.keepers.proofs.Drawing.{both_are, both_fail, size_within}
use borrow.Author.Rules.{rules}
use Rattle.keepers.proofs.draw_merge_keepers.Goals as goal

pub draw_right-requires : goal.draw_right-requires
draw_right-requires c =
    let p = c.requires in
    let w = c.in_ok-lefts.ensures.within in
    (p.0, p.1, omega (arith, w.0, c.rows_within-size.ensures.0), w.1, search rules, c.in_ok-lefts.ensures.len ∙ p.2)

pub returns-in_err-lefts-clause-tells : goal.returns-in_err-lefts-clause-tells
returns-in_err-lefts-clause-tells c =
    let p = err_from_is_err_and c.from_residual.result c.from_residual.ensures.1 in
    rw (p.1, p.2) (λ b h ok.
    let s = c.shard_size.ensures b h in
    let n = c.rows_within-size.ensures.1 (rw s (size_within b ok)) ∙ s in
    both_fail _ b c.args.draws.now _ c.left.ensures _ n _ (rw c.start.ensures at (c.in_err-lefts.ensures.tells b h ok)))

pub returns-clause-tells : goal.returns-clause-tells
returns-clause-tells c = λ b h ok.
    let s = c.shard_size.ensures b h in
    let n = c.rows_within-size.ensures.1 (rw s (size_within b ok)) ∙ s in
    let d = rw c.start.ensures at (c.in_ok-lefts.ensures.tells b h ok) in
    rw (both_are _ b _ _ c.left.ensures _ n _ _ d) (c.draw_right.ensures.tells b h ok)
