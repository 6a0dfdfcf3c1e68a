-- A list of ids in a snapshot's words: what stands at a place, and where the next begins.
use Rattle.std.specs.Prelude.{ℕ, ◌+◌, ◌≡◌, List, ◌++◌, true, Option, Some, length, drop}
use Rattle.types.specs.Numbers.{Id}
use Rattle.rules.specs.WellFormed.{good_ids}
use Rattle.rules.specs.Snapshot.{section, id_words}

-- a count and that many good ids from `at` up to e
pub record IdsAt (cap : ℕ) (ws : List ℕ) (at e : ℕ) : Type 0 where
  pub ids : List Id
  pub good : good_ids cap ids ≡ true
  pub words : drop at ws ≡ section id_words ids ++ drop e ws
  pub next : e ≡ at + length (section id_words ids)

-- r is where they end, and none where there are none
pub record TellsIdList (cap : ℕ) (ws : List ℕ) (at : ℕ) (r : Option ℕ) : Type 0 where
  pub yes : (e : ℕ) → r ≡ Some e → IdsAt cap ws at e
  pub held : (e : ℕ) → IdsAt cap ws at e → r ≡ Some e
