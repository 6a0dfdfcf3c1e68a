-- What a caller of `well_formed` makes of its answer.
use Prim.Native.Nat.{ℕ}
use mathlib.Core.Path.{◌≡◌, refl, sym, ◌∙◌}
use mathlib.Core.List.{List}
use mathlib.Core.Bool.{Bool, false, false≢true}
use Rattle.rules.specs.Board.{Board}
use Rattle.board.specs.Permitted.{WellHeld, Permitted, refused}
use Rattle.wellformed.specs.Tells.{Tells}

pub not_held : (ws : List ℕ) (r : Bool) → Tells ws r → r ≡ false → WellHeld ws → ⊥
not_held ws r t e h = false≢true (sym e ∙ t.held h)

-- a no lets a public function refuse, with every word as before
pub refuses : {R : Type 0} (refusal : R) (answer : Board → R) (next : Board → Board) (ws : List ℕ) (r : Bool) → Tells ws r → r ≡ false
    → Permitted refusal answer next ws ws refusal
refuses refusal answer next ws r t e = refused (not_held ws r t e) refl refl
