-- Texts as bytes, and a number after its name.
use Rattle.std.specs.Prelude.{ℕ, Bool, cond, List, [], ◌∷◌, ◌++◌}
use Prim.Native.Char.{code}
use Prim.Native.String.{String, [] as end, ◌∷◌ as ◌then◌}
use Rattle.std.specs.Prelude.{Option, Some, None}
use Rattle.types.specs.declared.Epoch.{Epoch}
use Rattle.lines.specs.Numeral.{numeral}

-- the bytes of a text of ASCII
unfoldable pub bytes : String → List ℕ
bytes end = []
bytes (c then s) = code c ∷ bytes s

-- a number after its name
abbrev pub named : String → ℕ → List ℕ
named name n = bytes name ++ numeral 0 n

-- the same, right-aligned in a column
abbrev pub column : String → ℕ → ℕ → List ℕ
column name width n = bytes name ++ numeral width n

-- one of two texts
abbrev pub either : Bool → String → String → List ℕ
either c a b = cond c (bytes a) (bytes b)

-- an epoch after its name, right-aligned in a column, or what is said of a missing one
unfoldable pub epoch_or : List ℕ → ℕ → Option Epoch → List ℕ → List ℕ
epoch_or name width (Some e) missing = name ++ numeral width e.0
epoch_or name width None missing = missing
