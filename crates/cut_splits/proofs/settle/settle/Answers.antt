use mathlib.Core.Path.{ap, sym, ◌∙◌}
use Rattle.types.specs.declared.Machine.{Machine}
use Rattle.rules.specs.Table.{Entry}
use Rattle.rules.specs.Board.{Seat}
use Rattle.board.proofs.Keyed.{seats_rise}
use Rattle.cut_splits.proofs.Settles.{may_move, may_sit, unknown, moved, no_seat_lem, not_watching, sits}
use Rattle.cut_splits.proofs.settle.settle.Goals as goal

pub returns-in_default : goal.returns-in_default
returns-in_default c = λ b h ok l n m. unknown b ok _ _ _ _ _ (c.in_default.ensures.found b h ok) h

pub returns-then-is_seated_on : goal.returns-then-is_seated_on
returns-then-is_seated_on c = λ b h ok l n m.
    let f = c.in-Some.ensures.found b h ok in
    let p = ap (λ (x : Machine). x.place) (c.at-machine.ensures b h f.0) in
    let y = rw p at (sym c.is_seated_on.ensures ∙ c.if-is_seated_on.true) in
    moved b ok _ _ _ _ _ _ f.0 f.1 y _ (rw p at c.moved_to.ensures) (c.put_on.ensures b h ok f.0 (may_move b ok _ _ _ f.0 f.1 m _ n y))

pub returns-in_default-find_seat : goal.returns-in_default-find_seat
returns-in_default-find_seat c = λ b h ok l n m.
    let f = c.in-Some.ensures.found b h ok in
    let p = ap (λ (x : Machine). x.place) (c.at-machine.ensures b h f.0) in
    let y = rw p at (sym c.is_seated_on.ensures ∙ c.if-is_seated_on.false) in
    no_seat_lem b ok _ _ _ _ _ _ f.0 f.1 y (c.in_default-find_seat.ensures.found b h ok l) h

pub returns-then-not-is_observing : goal.returns-then-not-is_observing
returns-then-not-is_observing c = λ b h ok l n m.
    let f = c.in-Some.ensures.found b h ok in
    let g = c.in-Some-find_seat.ensures.found b h ok l in
    let p = ap (λ (x : Machine). x.place) (c.at-machine.ensures b h f.0) in
    let y = rw p at (sym c.is_seated_on.ensures ∙ c.if-is_seated_on.false) in
    let w = rw p at (sym c.if-not-is_observing.ensures) in
    not_watching b ok _ _ _ _ _ _ f.0 f.1 y _ g.0 g.1 (seats_rise b ok _ l) w h

pub returns : goal.returns
returns c = λ b h ok l n m.
    let f = c.in-Some.ensures.found b h ok in
    let g = c.in-Some-find_seat.ensures.found b h ok l in
    let p = ap (λ (x : Machine). x.place) (c.at-machine.ensures b h f.0) in
    let y = rw p at (sym c.is_seated_on.ensures ∙ c.if-is_seated_on.false) in
    let w = rw p at (sym c.if-not-is_observing.ensures) in
    let ready = ap (λ (e : Entry Seat). e.val.ready) (c.at-seat.ensures b h l g.0) in
    sits b ok _ _ _ _ _ _ f.0 f.1 y _ g.0 g.1 (seats_rise b ok _ l) w _ _ _ _ p ready (c.epoch-epoch.ensures b h) c.seated_from_watch-placed.ensures (c.put_on-2.ensures b h ok f.0 (may_sit b ok _ _ _ f.0 f.1 m w))
