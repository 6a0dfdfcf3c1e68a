use Rattle.std.proofs.Common.{inl, inr}
use Rattle.lines.proofs.Lays.{puts_none}
use Rattle.phrases.specs.Texts.{bytes}
use Rattle.phrases.specs.Places.{member_text}
use Rattle.phrases.proofs.put_member.Goals as goal

pub returns-in-Pooled : goal.returns-in-Pooled
unfolding bytes member_text
returns-in-Pooled c =
    elim c.in-Pooled.is [
      | inl e ↦ rw e (puts_none _ _)
      | inr rest ↦ elim rest [ inl e ↦ rw e (puts_none _ _) | inr (x, e) ↦ rw e (puts_none _ _) ]
    ]

pub returns-in-Seated : goal.returns-in-Seated
unfolding bytes member_text
returns-in-Seated c = rw c.in-Seated.is c.put_seated.ensures

pub returns-in-Observing : goal.returns-in-Observing
unfolding bytes member_text
returns-in-Observing c = rw c.in-Observing.is c.put_column.ensures
