-- Two permitted results are equal, lent words included; and what a caller who knows the board is given.
use mathlib.Core.Path.{◌≡◌, ap, sym, subst, ◌∙◌}
use mathlib.Core.List.{List}
use mathlib.Core.Bool.{true}
use Prim.Native.Nat.{ℕ}
use Rattle.types.specs.declared.Outcome.{Outcome}
use Rattle.rules.specs.Board.{Board}
use Rattle.rules.specs.WellFormed.{well_formed}
use Rattle.rules.specs.Turns.{Result}
use Rattle.board.specs.Held.{Holds}
use Rattle.board.specs.Permitted.{Permitted, refused, answered, PermittedStep}
use Rattle.board.proofs.One.{one_board}

module _ {R : Type 0} (refusal : R) (answer : Board → R) (next : Board → Board) (before : List ℕ) where
  -- the words of one board: held by any words, they are the same
  same_held : (a b : Board) (u v : List ℕ) → a ≡ b → Holds u (next a) → Holds v (next b) → u ≡ v
  same_held a b u v e p q = p.words ∙ rw e (sym q.words)

  -- THE RESULT IS DETERMINED, at every input
  pub determined : (u v : List ℕ) (r s : R) → Permitted refusal answer next before u r → Permitted refusal answer next before v s → (r ≡ s) × (u ≡ v)
  determined u v r s (refused n p w) (refused m q x) = (p ∙ sym q, w ∙ sym x)
  determined u v r s (refused n p w) (answered b h g q k) = absurd (n (record { board = b; holds = h; good = g }))
  determined u v r s (answered b h g q k) (refused m p w) = absurd (m (record { board = b; holds = h; good = g }))
  determined u v r s (answered a h g p k) (answered b i j q l) =
      let e = one_board before a b h i in
      (p ∙ ap answer e ∙ sym q, same_held a b u v e k l)

  -- a caller who knows the board knows the answer and the next board
  pub given_board : (after : List ℕ) (r : R) (b : Board) → Permitted refusal answer next before after r → Holds before b → well_formed b ≡ true → (r ≡ answer b) × Holds after (next b)
  given_board after r b (refused n p w) h g = absurd (n (record { board = b; holds = h; good = g }))
  given_board after r b (answered a i j q k) h g = let e = one_board before a b i h in (q ∙ ap answer e, subst (λ c. Holds after (next c)) e k)

-- of steps: answer, handled, draws used and every lent word
pub step_determined : (step : Board → Result) (before u v : List ℕ) (o p : Outcome) → PermittedStep step before u o → PermittedStep step before v p → (o ≡ p) × (u ≡ v)
step_determined step before u v o p h k = determined _ _ _ before u v o p h k
