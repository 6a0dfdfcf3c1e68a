use mathlib.Core.Path.{ap, sym, ◌∙◌}
use mathlib.Core.Bool.{not}
use borrow.Author.Tests.{not-true, not-false}
use lib.ListN.{get_or}
use Rattle.rules.specs.Lists.{every, any}
use Rattle.rules.specs.Moves.{is_on}
use Rattle.rules.specs.SeatCheck.{is_in_one_half}
use Rattle.board.specs.Held.{no_reshape}
use Rattle.carved.proofs.Carved.{merge_fits, unscheduled_fits, scheduled_fits}
use Rattle.carved.proofs.split_fits.Goals as goal

pub returns-then-is_merge : goal.returns-then-is_merge
returns-then-is_merge c = λ b h ok l. merge_fits b _ (sym (c.is_merge.ensures b h l) ∙ c.if-is_merge.true)

pub returns-then-not-is_scheduled : goal.returns-then-not-is_scheduled
returns-then-not-is_scheduled c = λ b h ok l. unscheduled_fits b _ (sym (c.is_merge.ensures b h l) ∙ c.if-is_merge.false) (sym (c.is_scheduled.ensures b h l) ∙ not-true _ c.if-not-is_scheduled.true-raw)

pub returns : goal.returns
returns c = λ b h ok l.
    let e = get_or b.reshapes c.args.i no_reshape in
    let s = c.target_at-target.ensures b h l in
    scheduled_fits b e (sym (c.is_merge.ensures b h l) ∙ c.if-is_merge.false) (sym (c.is_scheduled.ensures b h l) ∙ not-false _ c.if-not-is_scheduled.false-raw) _ _
    (c.is_at_rest.ensures b h ∙ ap (λ s. not (any (is_on s) b.rotations)) s)
    (c.halves_fit.ensures b h l ∙ ap (λ s. every (is_in_one_half s e.val) b.machines) s)
