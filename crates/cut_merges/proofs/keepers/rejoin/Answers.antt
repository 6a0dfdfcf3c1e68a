use mathlib.Core.Path.{refl, ap, sym, ◌∙◌}
use borrow.Author.Tests.{not-true, not-false}
use Rattle.types.specs.declared.Machine.{Machine}
use Rattle.rules.specs.Table.{Entry}
use Rattle.rules.specs.Board.{Seat}
use Rattle.rules.proofs.KeptBoard.{family}
use Rattle.board.proofs.Keyed.{seats_rise}
use Rattle.cut_merges.proofs.Rejoins.{on_child_lem, may_rejoin, unknown, elsewhere, rejoins}
use Rattle.cut_merges.proofs.keepers.rejoin.Goals as goal

pub returns-in_default : goal.returns-in_default
returns-in_default c = λ b h ok l tg m z.
    let i = ap (λ (e : Entry Seat). e.key) (c.at-seat.ensures b h l m) in
    unknown b ok _ _ _ _ (rw i at (c.in_default.ensures.found b h ok)) h

pub returns-then-not-on_left-on_right : goal.returns-then-not-on_left-on_right
returns-then-not-on_left-on_right c = λ b h ok l tg m z.
    let i = ap (λ (e : Entry Seat). e.key) (c.at-seat.ensures b h l m) in
    let f = c.in-Some.ensures.found b h ok in
    let p = ap (λ (x : Machine). x.place) (c.at-machine.ensures b h f.0) in
    let y = sym (on_child_lem c.args.target.0 c.at-machine.result.place _ _ (rw c.left.ensures at c.is_seated_on-on_left.ensures) (rw c.right.ensures at c.is_seated_on-on_right.ensures)) ∙ not-true _ c.if-not-on_left-on_right.true-raw in
    elsewhere b ok _ _ _ _ _ f.0 (f.1 ∙ i) _ m (seats_rise b ok _ l) refl (rw p at y) h

pub returns : goal.returns
returns c = λ b h ok l tg m z.
    let s = c.at-seat.ensures b h l m in
    let i = ap (λ (e : Entry Seat). e.key) s in
    let f = c.in-Some.ensures.found b h ok in
    let p = ap (λ (x : Machine). x.place) (c.at-machine.ensures b h f.0) in
    let y = rw p at (sym (on_child_lem c.args.target.0 c.at-machine.result.place _ _ (rw c.left.ensures at c.is_seated_on-on_left.ensures) (rw c.right.ensures at c.is_seated_on-on_right.ensures)) ∙ not-false _ c.if-not-on_left-on_right.false-raw) in
    rejoins b ok _ _ _ _ _ f.0 (f.1 ∙ i) _ m (seats_rise b ok _ l) refl y _ _ _ p (ap (λ (e : Entry Seat). e.val.ready) s) c.kept_on.ensures (c.put_on.ensures b h ok f.0 (may_rejoin b ok _ _ _ f.0 (f.1 ∙ i) (family _ tg).least z y))
