use mathlib.Core.Path.{refl, ap}
use native.Mathlib.Omega.{arith}
use borrow.Author.Rules.{rules}
use borrow.Author.Tests.{not-true, not-false}
use Rattle.rules.specs.Places.{rotate}
use Rattle.wellformed.proofs.Told.{not_held}
use Rattle.steps.proofs.Public.{held_wide, step_refuses}
use Rattle.rotating.specs.Rotated.{draws_used_by}
use Rattle.rotating.proofs.Unread.{on_unread, moves_on}
use Rattle.rotating.proofs.rotate_from.Goals as goal

pub returns-then-not-well_formed : goal.returns-then-not-well_formed
returns-then-not-well_formed c = (step_refuses (rotate _ _ _) _ _ (not_held _ _ c.well_formed-2.ensures (not-true _ c.if-not-well_formed.true-raw)) c.refusal.ensures, omega (arith, ap draws_used_by c.refusal.ensures))

pub run_shuffle_step_held-outcome-requires : goal.run_shuffle_step_held-outcome-requires
run_shuffle_step_held-outcome-requires c = held_wide _ (c.well_formed-2.ensures.yes (not-false _ c.if-not-well_formed.false-raw))

pub overflow_add-result : goal.overflow_add-result
overflow_add-result c =
    let a = c.args in
    record {
      fits = moves_on a.shard.0 a.machine.0 a.at a.draws.now _ _ _ (search rules) (search rules)
          (on_unread a.shard.0 a.machine.0 _ a.at a.draws.now _ _ _ c.unread_from-from.ensures.1 (c.well_formed-2.ensures.yes (not-false _ c.if-not-well_formed.false-raw)) c.run_shuffle_step_held-outcome.ensures);
    }

pub returns : goal.returns
returns c =
    let a = c.args in
    (on_unread a.shard.0 a.machine.0 _ a.at a.draws.now _ _ _ c.unread_from-from.ensures.1 (c.well_formed-2.ensures.yes (not-false _ c.if-not-well_formed.false-raw)) c.run_shuffle_step_held-outcome.ensures, refl)
