use mathlib.Core.Path.{ap, sym, ◌∙◌}
use Rattle.types.specs.declared.Machine.{Machine}
use Rattle.board.proofs.Keyed.{machines_rise}
use Rattle.exits.proofs.Leaves.{seat_not_pooled, from_seat, from_watch, from_elsewhere}
use Rattle.exits.proofs.exit_placement.Goals as goal

pub returns-in-Seated : goal.returns-in-Seated
returns-in-Seated c = λ b h g l.
    let m = c.at-m.ensures b h l in
    let k = ap (λ (x : Machine). x.id.0) m in
    let e = sym (ap (λ (x : Machine). x.place) m) ∙ c.in-Seated.is in
    rw (from_seat b _ _ k _ _ _ _ e) (c.exit_seat.ensures b h g (seat_not_pooled b _ _ k g l _ _ _ e))

pub returns-in-Observing : goal.returns-in-Observing
returns-in-Observing c = λ b h g l.
    let m = c.at-m.ensures b h l in
    let k = ap (λ (x : Machine). x.id.0) m in
    let e = sym (ap (λ (x : Machine). x.place) m) ∙ c.in-Observing.is in
    record { board = _; read = c.requires.2; turn = from_watch b _ _ k _ _ _ e; holds = c.leave_watch.ensures b h g }

pub returns-in_default : goal.returns-in_default
returns-in_default c = λ b h g l.
    let m = c.at-m.ensures b h l in
    let k = ap (λ (x : Machine). x.id.0) m in
    let e = ap (λ (x : Machine). x.place) m in
    record { board = _; read = c.requires.2; turn = from_elsewhere b _ _ k _ (λ s r w q. c.in_default.not-Seated s r w (e ∙ q)) (λ s w q. c.in_default.not-Observing s w (e ∙ q)); holds = rw c.short.ensures at (c.put_place.ensures b h (machines_rise b g) l) }
