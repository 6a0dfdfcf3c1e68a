-- A merge that nothing is against: its draws, its keepers.
use Rattle.std.specs.Prelude.{ℕ, List, length, drop}
use Rattle.types.specs.Numbers.{Shard, Id}
use Rattle.rules.specs.Board.{merge, Board}
use Rattle.rules.specs.Turns.{Result, drawn, alone}
use Rattle.rules.specs.Reshapes.{admit, draw_keepers}
use Rattle.keepers.specs.Kept.{seats_of}

-- its keepers are drawn, n and m of `ids`, and the draws from `at` on are left
abbrev pub admits_kept : Shard → List Id → ℕ → ℕ → ℕ → List ℕ → Board → Result
admits_kept t ids n m at draws b = alone draws b (admit merge t (length (seats_of t ids n m)) (seats_of t ids n m) (drop at draws) b)

abbrev pub merge_granted : Shard → List ℕ → Board → Result
merge_granted t draws b = alone draws b (drawn (draw_keepers t b draws) (λ keepers left. admit merge t (length keepers) keepers left b))
