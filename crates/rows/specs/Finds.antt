-- A row that is looked for by its key.
use Rattle.std.specs.Prelude.{ℕ, ◌<◌, ◌≡◌, length, get_or, Option, MatchOption}
use Rattle.std.proofs.Math.Option.{none}
use Rattle.rules.specs.Table.{Entry, Table, at}

-- r is the row of key k; or nothing stands at k
abbrev pub FoundAt : {A : Type 0} (k : ℕ) (d : Entry A) (t : Table A) (r : Option ℕ) → Type 0
FoundAt k d t r = MatchOption r (at k t ≡ none) (λ i. (i < length t) × ((get_or t i d).key ≡ k))
