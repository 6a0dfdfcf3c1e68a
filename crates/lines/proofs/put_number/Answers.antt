use native.Mathlib.Omega.{arith}
use Rattle.lines.specs.Numeral.{numeral}
use Rattle.lines.proofs.Lays.{puts_both}
use Rattle.lines.proofs.Numerals.{places_is}
use Rattle.lines.proofs.put_number.Goals as goal

pub returns : goal.returns
unfolding numeral
returns c =
    let b = rw c.saturating_sub.ensures at c.put_blanks-a.ensures in
    let t = rw c.decimal-k.ensures.digits at c.put_text.ensures in
    rw (places_is _ _ c.decimal-k.ensures.len (omega arith)) (puts_both b t)
