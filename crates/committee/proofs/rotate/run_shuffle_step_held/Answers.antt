use mathlib.Core.Path.{sym, ◌∙◌}
use borrow.Author.Tests.{not-true, not-false}
use Rattle.committee.proofs.Rotates.{no_shard, not_now, turned}
use Rattle.committee.proofs.rotate.run_shuffle_step_held.Goals as goal

pub returns-then-not-is_shard : goal.returns-then-not-is_shard
returns-then-not-is_shard c = λ b h ok. no_shard b ok _ _ _ _ _ (sym c.is_shard.ensures ∙ not-true _ c.if-not-is_shard.true-raw) h c.refusal.ensures

pub returns-then-not-may_rotate : goal.returns-then-not-may_rotate
returns-then-not-may_rotate c = λ b h ok. not_now b ok _ _ _ _ _ (sym c.is_shard.ensures ∙ not-false _ c.if-not-is_shard.false-raw) (sym (c.may_rotate.ensures b h ok) ∙ not-true _ c.if-not-may_rotate.true-raw) h c.done.ensures

pub returns : goal.returns
returns c = λ b h ok.
    turned b ok _ _ _ _ _ (sym c.is_shard.ensures ∙ not-false _ c.if-not-is_shard.false-raw) (sym (c.may_rotate.ensures b h ok) ∙ not-false _ c.if-not-may_rotate.false-raw) c.rotate_turn-turn.result (rw c.start.ensures at (c.rotate_turn-turn.ensures b h ok)) c.told.ensures
