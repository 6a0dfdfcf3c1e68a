-- What the answer of a check says.
use Rattle.std.specs.Prelude.{ℕ, ◌≡◌, List, Bool, true}
use Rattle.board.specs.Permitted.{WellHeld}

-- r is true exactly if something is so
pub record Exactly (Good : Type 0) (r : Bool) : Type 0 where
  pub yes : r ≡ true → Good
  pub held : Good → r ≡ true

-- ... if the words hold a well-formed board
abbrev pub Tells : List ℕ → Bool → Type 0
Tells ws r = Exactly (WellHeld ws) r
