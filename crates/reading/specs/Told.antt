-- What the answer of the first pass says.
use Rattle.std.specs.Prelude.{ℕ, ◌≡◌, List, Bool, true}
use Rattle.rules.specs.Board.{Board}
use Rattle.rules.specs.WellFormed.{well_formed}
use Rattle.rules.specs.Snapshot.{snapshot_of}

-- the bytes are a well-formed board's snapshot
pub record Snapshot (bs : List ℕ) : Type 0 where
  pub board : Board
  pub good : well_formed board ≡ true
  pub bytes : bs ≡ snapshot_of board

-- r is true exactly if they are
pub record TellsSnapshot (bytes : List ℕ) (r : Bool) : Type 0 where
  pub yes : r ≡ true → Snapshot bytes
  pub held : Snapshot bytes → r ≡ true
