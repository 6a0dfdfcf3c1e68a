use mathlib.Core.Path.{sym, ◌∙◌}
use Rattle.resolving.proofs.Closes.{victim_stays, victim_goes}
use Rattle.resolving.proofs.retire.Goals as goal

pub returns-then-has_seats_free : goal.returns-then-has_seats_free
returns-then-has_seats_free c = λ b h ok. victim_stays _ _ b _ (sym (c.has_seats_free.ensures b h ok) ∙ c.if-has_seats_free.true) h

pub returns : goal.returns
returns c = λ b h ok. victim_goes _ _ b _ (sym (c.has_seats_free.ensures b h ok) ∙ c.if-has_seats_free.false) (c.take_off.ensures b h ok)
