use mathlib.Core.Path.{ap, sym, ◌∙◌}
use borrow.Author.Tests.{not-true, not-false, lt-leb}
use Rattle.std.proofs.lemmas.Result.{err_from_is_err_and}
use Rattle.types.specs.declared.Machine.{Machine}
use Rattle.rules.proofs.Tests.{of_le}
use Rattle.board.proofs.Keyed.{committees_rise}
use Rattle.pool.proofs.Draws.{turn_failed, turn_nobody, turn_no_room, turn_full, turn_seats}
use Rattle.committee.proofs.Rotates.{turn_unfit, turn_fit}
use Rattle.committee.proofs.rotate.rotate_turn.Goals as goal

pub returns-then-not-victim_fit : goal.returns-then-not-victim_fit
returns-then-not-victim_fit c = λ b h ok. (turn_unfit _ _ _ b (sym (c.victim_fit.ensures b h ok) ∙ not-true _ c.if-not-victim_fit.true-raw), h)

pub returns-in_err-i : goal.returns-in_err-i
returns-in_err-i c =
    let p = err_from_is_err_and c.from_residual.result c.from_residual.ensures.1 in
    rw (p.1, p.2) (λ b h ok. (turn_fit _ _ _ b (sym (c.victim_fit.ensures b h ok) ∙ not-false _ c.if-not-victim_fit.false-raw) ∙ turn_failed _ _ _ _ b _ (c.in_err-i.ensures.tells b h), h))

pub returns-in_default : goal.returns-in_default
returns-in_default c = λ b h ok.
    record {
      board = b;
      read = c.requires.1;
      turn = turn_fit _ _ _ b (sym (c.victim_fit.ensures b h ok) ∙ not-false _ c.if-not-victim_fit.false-raw) ∙ turn_nobody _ _ _ _ b _ (rw c.in_default.is at (c.in_ok-i.ensures.tells b h));
      holds = h;
    }

pub returns-then-not-may_join : goal.returns-then-not-may_join
returns-then-not-may_join c = λ b h ok.
    let f = rw c.in-Some.is at (c.in_ok-i.ensures.tells b h) in
    let i = ap (λ (x : Machine). x.id.0) (c.at-m.ensures b h f.within) in
    let m = rw i at (sym (c.may_join.ensures b h (committees_rise b ok)) ∙ not-true _ c.if-not-may_join.true-raw) in
    (turn_fit _ _ _ b (sym (c.victim_fit.ensures b h ok) ∙ not-false _ c.if-not-victim_fit.false-raw) ∙ turn_no_room _ _ _ _ b _ _ f.drawn m, h)

pub returns-in_default-row_for : goal.returns-in_default-row_for
returns-in_default-row_for c = λ b h ok.
    let f = rw c.in-Some.is at (c.in_ok-i.ensures.tells b h) in
    let i = ap (λ (x : Machine). x.id.0) (c.at-m.ensures b h f.within) in
    let m = rw i at (sym (c.may_join.ensures b h (committees_rise b ok)) ∙ not-false _ c.if-not-may_join.false-raw) in
    let n = of_le _ _ (c.in_default-row_for.ensures.goes b h) in
    (turn_fit _ _ _ b (sym (c.victim_fit.ensures b h ok) ∙ not-false _ c.if-not-victim_fit.false-raw) ∙ turn_full _ _ _ _ b _ _ f.drawn m n, h)

pub returns : goal.returns
returns c = λ b h ok.
    let f = rw c.in-Some.is at (c.in_ok-i.ensures.tells b h) in
    let i = ap (λ (x : Machine). x.id.0) (c.at-m.ensures b h f.within) in
    let m = rw i at (sym (c.may_join.ensures b h (committees_rise b ok)) ∙ not-false _ c.if-not-may_join.false-raw) in
    let k = c.in-Some-row_for.ensures.goes b h in
    let n = lt-leb _ _ k.free in
    record {
      board = _;
      read = f.read;
      turn = turn_fit _ _ _ b (sym (c.victim_fit.ensures b h ok) ∙ not-false _ c.if-not-victim_fit.false-raw) ∙ turn_seats _ _ _ _ b _ _ f.drawn m n;
      holds = c.open_at.ensures b h ok f.within m k;
    }
