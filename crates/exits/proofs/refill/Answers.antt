use mathlib.Core.Path.{refl, ap, sym, ◌∙◌}
use mathlib.Core.Bool.{false}
use borrow.Author.Tests.{not-true, not-false}
use Rattle.std.proofs.lemmas.Result.{err_from_is_err_and}
use Rattle.types.specs.declared.Machine.{Machine}
use Rattle.board.proofs.Keyed.{committees_rise}
use Rattle.pool.proofs.Draws.{turn_failed, turn_nobody, turn_no_room, turn_seats}
use Rattle.joining.proofs.Struck.{left_rows, left_key, left_well}
use Rattle.exits.proofs.Leaves.{drawn_left}
use Rattle.exits.proofs.refill.Goals as goal

pub returns-in_err-k : goal.returns-in_err-k
returns-in_err-k c =
    let p = err_from_is_err_and c.from_residual.result c.from_residual.ensures.1 in
    rw (p.1, p.2) (λ b h g u. (turn_failed _ false _ _ _ _ (drawn_left _ _ b g u _ _ (c.in_err-k.ensures.tells b h)), h))

pub returns-in_default : goal.returns-in_default
returns-in_default c = λ b h g u.
    let e = rw c.in_default.is at (c.in_ok-k.ensures.tells b h) in
    record { board = _; read = c.requires.1; turn = turn_nobody _ false _ _ _ _ (drawn_left _ _ b g u _ _ e); holds = c.leave_seat.ensures b h g }

pub returns-then-not-may_replace : goal.returns-then-not-may_replace
returns-then-not-may_replace c = λ b h g u.
    let f = rw c.in-Some.is at (c.in_ok-k.ensures.tells b h) in
    let i = ap (λ (x : Machine). x.id.0) (c.at-m.ensures b h f.within) in
    (turn_no_room _ false _ _ _ _ _ (drawn_left _ _ b g u _ _ f.drawn) (rw i at (sym (c.may_replace.ensures b h (committees_rise b g)) ∙ not-true _ c.if-not-may_replace.true-raw)), h)

pub returns : goal.returns
returns c = λ b h g u.
    let a = c.args in
    let f = rw c.in-Some.is at (c.in_ok-k.ensures.tells b h) in
    let i = ap (λ (x : Machine). x.id.0) (c.at-m.ensures b h f.within) in
    let k = left_key a.shard.0 a.id.0 b c.in-Some.k in
    let m = rw (i, ← k) at (sym (c.may_replace.ensures b h (committees_rise b g)) ∙ not-false _ c.if-not-may_replace.false-raw) in
    record {
      board = _;
      read = f.read;
      turn = turn_seats _ false _ _ _ _ _ (rw k (drawn_left _ _ b g u _ _ f.drawn)) m refl;
      holds = c.seat_drawn.ensures _ (c.leave_seat-2.ensures b h g) (left_well _ _ b g) (rw left_rows f.within) m;
    }
