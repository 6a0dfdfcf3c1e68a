use native.Mathlib.Omega.{arith}
use Rattle.shifts.proofs.Words.{moved_part}
use Rattle.shifts.proofs.move_eight.Goals as goal

pub returns : goal.returns
returns c =
    moved_part c.args.t.now _ _ c.args.from c.args.to (omega (arith, c.requires.0)) c.eight-words.ensures c.put_eight.ensures
