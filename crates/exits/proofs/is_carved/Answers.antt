use mathlib.Core.Path.{sym, ◌∙◌}
use Rattle.exits.proofs.Leaves.{no_reshape_lem, merge_there, split_there}
use Rattle.exits.proofs.is_carved.Goals as goal

pub returns-in_default : goal.returns-in_default
returns-in_default c = λ b h ok. no_reshape_lem _ b (c.in_default.ensures.found b h ok)

pub returns-then-is_merge : goal.returns-then-is_merge
returns-then-is_merge c = λ b h ok.
    let f = c.in-Some.ensures.found b h ok in
    merge_there _ b ok _ f.0 f.1 (sym (c.is_merge.ensures b h f.0) ∙ c.if-is_merge.true)

pub returns : goal.returns
returns c = λ b h ok.
    let f = c.in-Some.ensures.found b h ok in
    c.is_scheduled.ensures b h f.0 ∙ split_there _ b ok _ f.0 f.1 (sym (c.is_merge.ensures b h f.0) ∙ c.if-is_merge.false)
