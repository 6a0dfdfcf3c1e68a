use Rattle.board.proofs.Keyed.{machines_rise}
use Rattle.cohorts.proofs.Watches.{set_watching, no_record}
use Rattle.cohorts.proofs.watch.set_to_watch.Goals as goal

pub returns-in_default : goal.returns-in_default
returns-in_default c = λ b h ok. no_record _ b _ _ (c.in_default.ensures.found b h ok) h

pub returns : goal.returns
returns c = λ b h ok.
    let f = c.in-Some.ensures.found b h ok in
    set_watching _ b _ _ _ _ _ f.1 (c.epoch-epoch.ensures b h) c.set_to_watch.ensures (c.put_place.ensures b h (machines_rise b ok) f.0)
