use mathlib.Core.Path.{refl, sym, ◌∙◌}
use mathlib.Core.Bool.{true≢false}
use native.Mathlib.Omega.{arith}
use Rattle.resolving.proofs.turn_at.Goals as goal

pub returns-then-marked : goal.returns-then-marked
returns-then-marked c = (omega arith, λ b h ok l. record { closed = λ _. (refl, c.close_at.ensures b h ok l); passed = λ e. absurd (true≢false (sym c.if-marked.true ∙ e)) })

pub returns : goal.returns
returns c = (omega arith, λ b h ok l. record { closed = λ e. absurd (true≢false (sym e ∙ c.if-marked.false)); passed = λ _. (refl, h) })
