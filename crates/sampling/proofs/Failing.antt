-- What comes of a draw: that it gave nothing goes on to what is done with it, and so does what it gave.
use Prim.Native.Nat.{ℕ}
use mathlib.Core.Path.{◌≡◌}
use mathlib.Core.List.{List}
use lib.ListN.{drop}
use Rattle.rules.specs.Draws.{Drawn, and_then}
use Rattle.rules.specs.Turns.{Turn, refused, drawn}
use Rattle.sampling.specs.Reads.{Read, no_draw, answer_to}
use Rattle.sampling.specs.declared.Reader.{Reader}
use Rattle.sampling.specs.declared.DrawError.{DrawError}
use Rattle.sampling.specs.declared.DrawError.TheVariants.{Missing, TooLarge}

module _ {A : Type 0} (d : Drawn A) where
  module _ {B : Type 0} (f : A → List ℕ → Drawn B) where
    pub then_fails : (e : DrawError) → d ≡ no_draw e → and_then d f ≡ no_draw e
    unfolding and_then
    then_fails Missing q = rw q
    then_fails TooLarge q = rw q

    pub then_reads : (draws : List ℕ) (x : A) (left : Reader) → Read draws d x left → and_then d f ≡ f x (drop left.at draws)
    unfolding and_then
    then_reads draws x left r = rw r.drew

  module _ (f : A → List ℕ → Turn) where
    pub drawn_fails : (e : DrawError) → d ≡ no_draw e → drawn d f ≡ refused (answer_to e)
    unfolding drawn
    drawn_fails Missing q = rw q
    drawn_fails TooLarge q = rw q

    pub drawn_reads_on : (draws : List ℕ) (x : A) (left : Reader) → Read draws d x left → drawn d f ≡ f x (drop left.at draws)
    unfolding drawn
    drawn_reads_on draws x left r = rw r.drew
