-- The check as a computed test over any words. Nothing here is to be believed: proofs/Decided.antt has it say yes exactly of a well-formed board's words.
use Rattle.std.specs.Prelude.{ℕ, List, [], ◌∷◌, Bool, leb, eqb, length}
use Rattle.rules.specs.Board.{most_machines, most_committees, most_bounds, most_rotations, most_reshapes, last_epoch}
use Rattle.rules.specs.WellFormed.{within}
use Rattle.board.specs.Layout.{machines_at, committees_at, bounds_at, rotations_at, reshapes_at, board_size}
use Rattle.word_tests.specs.Tests.{all_pass, at, between, all_zero}
use Rattle.row_tests.specs.declared.RowKind.TheVariants.{Machines, Committees, Boundaries, Rotations, Reshapes}
use Rattle.row_tests.specs.Rows.{kind_ok}

unfoldable pub numbers_ok : List ℕ → Bool
numbers_ok t =
    all_pass
    (leb (at t 1) last_epoch
    ∷ within 4 32 (at t 2)
    ∷ leb (at t 3) 1000000
    ∷ leb (at t 4) 1000000
    ∷ within 1 1000000 (at t 5)
    ∷ leb (at t 6) 48
    ∷ [])

-- six numbers are set, and the room for more is zeros
unfoldable pub settings_ok : List ℕ → Bool
settings_ok t = all_pass (eqb (at t 0) 6 ∷ numbers_ok t ∷ all_zero (between 7 machines_at t) ∷ [])

-- what a shard has
unfoldable pub shards_ok : List ℕ → Bool
shards_ok t = all_pass (kind_ok Committees most_committees (between committees_at bounds_at t) ∷ kind_ok Boundaries most_bounds (between bounds_at rotations_at t) ∷ [])

-- what is under way
unfoldable pub underway_ok : List ℕ → Bool
underway_ok t = all_pass (kind_ok Rotations most_rotations (between rotations_at reshapes_at t) ∷ kind_ok Reshapes most_reshapes (between reshapes_at board_size t) ∷ [])

unfoldable pub well_formed_words : List ℕ → Bool
well_formed_words t =
    all_pass
    (eqb (length t) board_size
    ∷ settings_ok (between 0 machines_at t)
    ∷ kind_ok Machines most_machines (between machines_at committees_at t)
    ∷ shards_ok t
    ∷ underway_ok t
    ∷ [])
