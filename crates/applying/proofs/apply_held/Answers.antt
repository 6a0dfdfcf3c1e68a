use Rattle.steps.proofs.Public.{held_wide}
use Rattle.applying.specs.Asked.{asked}
use Rattle.applying.proofs.Applies.{kept_held, step_told, fits_most}
use Rattle.applying.proofs.apply_held.Goals as goal

pub answer_held-told-requires : goal.answer_held-told-requires
answer_held-told-requires c = held_wide _ c.requires.0

pub put_board-long-requires : goal.put_board-long-requires
put_board-long-requires c =
    let w = kept_held (asked c.args.call) _ _ _ c.answer_held-told.ensures c.requires.0 in
    (held_wide _ w, fits_most _ _ w c.requires.1)

pub returns : goal.returns
returns c = λ b h g. step_told (asked c.args.call) _ _ _ c.answer_held-told.ensures b h g _ _ _ _ c.put_board-long.ensures c.from.ensures
