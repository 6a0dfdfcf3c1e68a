-- Which number is meant: the code keeps the four apart by structs, the definitions by these names.
use Rattle.std.specs.Prelude.{ℕ}

abbrev pub Shard : Type 0
Shard = ℕ

abbrev pub Id : Type 0
Id = ℕ

abbrev pub Epoch : Type 0
Epoch = ℕ

abbrev pub Height : Type 0
Height = ℕ
