use Rattle.drains.proofs.Schedules.{marked_at, marked_none}
use Rattle.drains.proofs.mark_found.Goals as goal

pub returns-in-Some : goal.returns-in-Some
returns-in-Some c = λ b h ok s f.
    let g = rw c.in-Some.is at f in
    marked_at b _ _ _ ok _ g.0 g.1 (c.mark.ensures b h g.0)

pub returns-in_default : goal.returns-in_default
returns-in_default c = λ b h ok s f. marked_none b _ _ _ (rw c.in_default.is at f) h
