use mathlib.Core.Path.{ap, sym, ◌∙◌}
use Rattle.types.specs.declared.Machine.{Machine}
use Rattle.rows.proofs.Asked.{holds_none, says_at}
use Rattle.rows.proofs.place_of.Goals as goal

pub returns-in-None : goal.returns-in-None
returns-in-None c = λ b h ok f e. e ∙ sym (holds_none _ f b.machines (c.in-None.ensures.found b h ok))

pub returns-in-Some : goal.returns-in-Some
returns-in-Some c = λ b h ok f e.
    let w = c.in-Some.ensures.found b h ok in
    ap (λ (m : Machine). f m.place) (c.at-m.ensures b h w.0) ∙ says_at b ok _ _ w.0 w.1 f
