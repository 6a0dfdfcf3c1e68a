use mathlib.Core.Path.{◌∙◌}
use Rattle.std.proofs.Common.{inl, inr}
use Rattle.tables.proofs.Bools.{and_is}
use Rattle.occupancy.proofs.Occupied.{pooled_listed, seat_listed, watch_listed, short_listed, other_listed}
use Rattle.occupancy.proofs.is_listed.Goals as goal

pub returns-in-Pooled : goal.returns-in-Pooled
returns-in-Pooled c = λ b h ok.
    elim c.in-Pooled.is [
      | inl e ↦ pooled_listed b _ _ e
      | inr rest ↦ elim rest [ inl e ↦ short_listed b _ _ e | inr (m, e) ↦ other_listed b _ _ m e ]
    ]

pub returns-in-Seated : goal.returns-in-Seated
returns-in-Seated c = λ b h ok. c.is_member.ensures b h ok ∙ seat_listed b _ _ _ _ _ c.in-Seated.is

pub returns-in-Observing : goal.returns-in-Observing
returns-in-Observing c = λ b h ok. rw (c.is_member-in-Observing.ensures b h ok, c.has_cohort_seat.ensures b h ok) (and_is _ _ ∙ watch_listed b _ _ _ _ c.in-Observing.is)
