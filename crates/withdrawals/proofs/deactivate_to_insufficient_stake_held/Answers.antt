use Rattle.withdrawals.proofs.Leaves.{no_record, turned}
use Rattle.withdrawals.proofs.deactivate_to_insufficient_stake_held.Goals as goal

pub returns-in_default : goal.returns-in_default
returns-in_default c = λ b h ok. no_record b ok _ _ _ _ (c.in_default.ensures.found b h ok) h c.refusal.ensures

pub returns : goal.returns
returns c = λ b h ok.
    let f = c.in-Some.ensures.found b h ok in
    turned b ok _ _ _ _ _ f.0 f.1 c.exit_placement-turn.result (rw c.start.ensures at (c.exit_placement-turn.ensures b h ok f.0)) c.told.ensures
