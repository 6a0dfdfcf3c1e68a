use mathlib.Core.Path.{ap, ◌∙◌}
use Rattle.types.specs.declared.Machine.{Machine}
use Rattle.moves.specs.Exits.{exit_of}
use Rattle.moves.proofs.Exiting.{no_record, record_placed}
use Rattle.moves.proofs.place.Goals as goal

pub returns-in_default : goal.returns-in_default
returns-in_default c = λ b h ok. no_record b ok _ _ _ (c.in_default.ensures.found b h ok) h

pub returns : goal.returns
returns c = λ b h ok.
    let f = c.in-Some.ensures.found b h ok in
    let e = c.place_after-place.ensures ∙ ap (λ (m : Machine). exit_of c.args.how m.place) (c.at-machine.ensures b h f.0) in
    record_placed b ok _ _ _ _ f.0 f.1 _ e (c.put.ensures b h f.0)
