use native.Mathlib.Omega.{arith}
use Rattle.std.proofs.lemmas.Result.{err_from_is_err_and}
use Rattle.schedule_splits.proofs.Turns.{split_drew, split_stays, split_lacks, tells_same, within_more}
use Rattle.schedule_splits.proofs.split_among.Goals as goal

pub schedule_halves-requires : goal.schedule_halves-requires
schedule_halves-requires c = (c.requires.0, omega (arith, c.sort_and_shuffle.ensures.len, c.requires.1))

pub returns-in_err-left : goal.returns-in_err-left
returns-in_err-left c =
    let p = err_from_is_err_and c.from_residual.result c.from_residual.ensures.1 in
    rw (p.1, p.2) (tt, λ b h ok e. (split_lacks _ b _ _ e _ c.in_err-left.ensures.tells, h))

pub returns : goal.returns
returns c = let d = c.in_ok-left.ensures.tells in
    let s = c.schedule_halves in
    let draws = c.args.draws.now in (
      within_more _ _ s.result d.within s.ensures.0,
      λ b h ok e. tells_same draws _ b _ _ s.result (split_drew _ b _ _ e _ _ d.drew) (s.ensures.1 b h ok (split_stays _ b _ _ e _ _ d.drew) draws d.within),
    )
