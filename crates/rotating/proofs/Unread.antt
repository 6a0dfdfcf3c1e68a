-- The draws that are not yet read: how many of them a rotate uses, and that a rotate through a reader is the plain step on them.
use Prim.Native.Nat.{ℕ, ◌+◌, ◌-◌, ◌≤◌, ◌<◌, ◌^◌}
use mathlib.Core.Path.{◌≡◌, ap, ◌∙◌, subst}
use mathlib.Core.List.{List}
use native.Mathlib.Omega.{arith}
use lib.ListN.{length, take, drop, length-drop}
use lib.Seq.{take_all}
use Rattle.types.specs.declared.Outcome.{Outcome}
use Rattle.rules.specs.Calls as calls
use Rattle.rules.specs.Places.{rotate}
use Rattle.rules.proofs.Draws.{draws_of, used_at_most_lent}
use Rattle.board.specs.Permitted.{WellHeld, PermittedStep, refused, answered}
use Rattle.board.proofs.Permits.{step_determined}
use Rattle.steps.specs.Inner.{Steps}
use Rattle.steps.proofs.Public.{step_answers}
use Rattle.draw_readers.specs.declared.DrawReader.{DrawReader}
use Rattle.rotating.specs.Rotated.{unread, draws_used_by}

-- a rotate on the part of the list that is lent on is one on the draws not yet read
pub on_unread : (s m from at : ℕ) (draws before after : List ℕ) (o : Outcome) → drop from draws ≡ drop at draws → WellHeld before
    → Steps (rotate s m (take (length draws - from) (drop from draws))) before after o → PermittedStep (rotate s m (drop at draws)) before after o
on_unread s m from at draws before after o e w f =
    subst (λ (ds : List ℕ). PermittedStep (rotate s m ds) before after o) (take_all (length draws - from) (drop from draws) (omega (arith, length-drop from draws)) ∙ e) (step_answers _ before after o w f)

pub used_most : (s m : ℕ) (draws before after : List ℕ) (o : Outcome) → PermittedStep (rotate s m draws) before after o → draws_used_by o ≤ length draws
unfolding calls.answer_to draws_of
used_most s m draws before after o (refused n p w) = omega (arith, ap draws_used_by p)
used_most s m draws before after o (answered b h g q k) = omega (arith, ap draws_used_by q, used_at_most_lent (calls.rotate s m draws) b)

-- a reader's position moves on within 64 bits
pub moves_on : (s m at : ℕ) (draws before after : List ℕ) (o : Outcome) → at < 2 ^ 64 → length draws < 2 ^ 64 → PermittedStep (rotate s m (drop at draws)) before after o → at + draws_used_by o < 2 ^ 64
moves_on s m at draws before after o h k p = omega (arith, length-drop at draws, used_most s m (drop at draws) before after o p)

-- what `rotate_reading` permits and what a plain rotate permits on the draws not yet read are one outcome, in the same words
pub same_as_plain : (s m : ℕ) (r : DrawReader) (before u w : List ℕ) (o p : Outcome) → PermittedStep (rotate s m (unread r)) before u o → PermittedStep (rotate s m (unread r)) before w p → (o ≡ p) × (u ≡ w)
same_as_plain s m r = step_determined (rotate s m (unread r))

-- a reader that has read nothing has the whole list
pub fresh_has_all : (r : DrawReader) → r.at ≡ 0 → unread r ≡ r.draws.now
fresh_has_all r e = ap (λ (n : ℕ). drop n r.draws.now) e
