-- What a board is asked by key, as the code has it at a row.
use Prim.Native.Nat.{ℕ, ◌<◌}
use mathlib.Core.Path.{◌≡◌, refl, sym}
use mathlib.Core.Option.{none}
use Rattle.std.specs.Prelude.{Option, Some, None}
use Rattle.std.specs.Option as option
use mathlib.Core.Bool.{Bool, true, false}
use borrow.Author.Tests.{ltb-true, ltb-false}
use lib.Dec.{ltb}
use lib.ListN.{length, get_or}
use Rattle.types.specs.Numbers.{Id}
use Rattle.types.specs.declared.Place.{Place}
use Rattle.rules.specs.Table.{Entry, Table, is_some, at, stands, holds_at}
use Rattle.rules.specs.Board.{Board}
use Rattle.rules.specs.WellFormed.{well_formed}
use Rattle.rules.specs.Moves.{says}
use Rattle.rules.proofs.KeptTables.{holds_at_lem}
use Rattle.tables.specs.Rows.{Rising, key_of}
use Rattle.tables.proofs.Keys.{at_is}
use Rattle.board.specs.Held.{no_machine}
use Rattle.board.proofs.Keyed.{machines_rise}
use Rattle.rows.specs.Finds.{FoundAt}

-- what stands nowhere passes no test
pub holds_none : {A : Type 0} (k : ℕ) (f : A → Bool) (t : Table A) → at k t ≡ none → holds_at k f t ≡ false
unfolding holds_at
holds_none k f t n = rw (n, holds_at)

pub says_at : (b : Board) → well_formed b ≡ true → (x : Id) (i : ℕ) → i < length b.machines → (get_or b.machines i no_machine).key ≡ x → (f : Place → Bool)
    → f (get_or b.machines i no_machine).val ≡ says f b x
says_at b ok x i l e f = sym (holds_at_lem x f b.machines _ (at_is b.machines (machines_rise b ok) x i no_machine l e))

-- a key that has a row, and one that has none
module _ {A : Type 0} (k : ℕ) (t : Table A) where
  pub stands_there : Rising key_of t → (d : Entry A) (i : ℕ) → i < length t → (get_or t i d).key ≡ k → stands k t ≡ true
  unfolding stands is_some
  stands_there rise d i l e = rw (at_is t rise k i d l e)

  pub stands_nowhere : at k t ≡ none → stands k t ≡ false
  unfolding stands is_some
  stands_nowhere n = rw n

-- a key stands where a row is found for it
pub finds_stands : {A : Type 0} (k : ℕ) (d : Entry A) (t : Table A) (r : Option ℕ) → Rising key_of t → FoundAt k d t r → option.is_some r ≡ stands k t
unfolding stands is_some
finds_stands k d t None rise f = rw f
finds_stands k d t (Some i) rise f = rw (at_is t rise k i d f.0 f.1)
