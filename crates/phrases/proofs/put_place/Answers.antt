use Rattle.lines.proofs.Lays.{puts_both}
use Rattle.phrases.specs.Texts.{bytes}
use Rattle.phrases.specs.Places.{place_text}
use Rattle.phrases.proofs.put_place.Goals as goal

pub returns-in-Pooled : goal.returns-in-Pooled
unfolding bytes place_text
returns-in-Pooled c = rw c.in-Pooled.is c.put_text.ensures

pub returns-in-Seated : goal.returns-in-Seated
unfolding bytes place_text
returns-in-Seated c = rw c.in-Seated.is (puts_both (puts_both c.put_named-a.ensures c.put_either-b.ensures) c.put_named.ensures)

pub returns-in-Observing : goal.returns-in-Observing
unfolding bytes place_text
returns-in-Observing c = rw c.in-Observing.is (puts_both c.put_named-a-in-Observing.ensures c.put_named-in-Observing.ensures)

pub returns-in-Short : goal.returns-in-Short
unfolding bytes place_text
returns-in-Short c = rw c.in-Short.is c.put_text-in-Short.ensures

pub returns-in-Other : goal.returns-in-Other
unfolding bytes place_text
returns-in-Other c = rw c.in-Other.is c.put_named-in-Other.ensures
