-- The number of a side.
use Rattle.std.specs.Prelude.{ℕ}
use Rattle.reshapes.specs.declared.Side.{Side}
use Rattle.reshapes.specs.declared.Side.TheVariants.{Left, Right}

abbrev pub side_number : Side → ℕ
side_number Left = 0
side_number Right = 1
