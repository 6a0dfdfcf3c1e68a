use mathlib.Core.Path.{ap, sym, ◌∙◌}
use mathlib.Core.Bool.{not}
use Rattle.rows.proofs.Asked.{holds_none}
use Rattle.committee.proofs.Asked.{splits_at}
use Rattle.committee.proofs.reads.is_splitting.Goals as goal

pub returns-in-None : goal.returns-in-None
returns-in-None c = λ b h ok. sym (holds_none _ _ b.reshapes (c.in-None.ensures.found b h ok))

pub returns-in-Some : goal.returns-in-Some
returns-in-Some c = λ b h ok.
    let w = c.in-Some.ensures.found b h ok in
    ap not (c.is_merge.ensures b h w.0) ∙ splits_at b ok _ _ w.0 w.1
