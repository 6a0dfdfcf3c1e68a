use mathlib.Core.Path.{◌∙◌}
use native.Mathlib.Omega.{arith}
use Rattle.unpacking.proofs.Bytes.{total, word_is}
use Rattle.reading.proofs.Seats.{first_seat_is}
use Rattle.reading.proofs.reshape_rows.first_seat_ok.Goals as goal

pub returns : goal.returns
returns c = λ ws h.
    let a = c.args in
    let p = c.requires in
    first_seat_is a.target a.n a.at ws p.0 (omega (arith, p.1, total h)) _ _ _ _ _
    (c.word_at.ensures ∙ word_is h a.at (omega (arith, p.0, p.1, total h)))
    (c.word_at-2.ensures ∙ word_is h _ (omega (arith, p.0, p.1, total h)))
    (c.word_at-3.ensures ∙ word_is h _ (omega (arith, p.0, p.1, total h)))
    c.seat_ok.ensures (c.first_rises_to.ensures ws h)
