-- The words hold a board: they are its words, and it has room for what it holds.
use Rattle.std.specs.Prelude.{ℕ, ◌≤◌, ◌≡◌, List, [], ◌∷◌, Bool, true, false, leb, length}
use Rattle.std.proofs.Math.Option.{none}
use Rattle.types.specs.Numbers.{Id}
use Rattle.types.specs.declared.Place.{Place}
use Rattle.types.specs.declared.Place.TheVariants.{Pooled}
use Rattle.rules.specs.Lists.{all_of, every}
use Rattle.rules.specs.Table.{Entry, entry}
use Rattle.rules.specs.Board.{Boundary, Rotation, split, Seat, Reshape, Board, most_machines, most_committees, most_members, most_bounds, most_rotations, most_reshapes, most_seats, most_half}
use Rattle.board.specs.Layout.{encode}

unfoldable pub roomy_committee : Entry (List Id) → Bool
roomy_committee e = leb (length e.val) most_members

unfoldable pub roomy_reshape : Entry Reshape → Bool
roomy_reshape e = all_of (leb (length e.val.seats) most_seats ∷ leb (length e.val.left) most_half ∷ leb (length e.val.right) most_half ∷ [])

-- lengths within their room, and nothing more
pub record Fits (b : Board) : Type 0 where
  pub machines : length b.machines ≤ most_machines
  pub committees : length b.committees ≤ most_committees
  pub members : every roomy_committee b.committees ≡ true
  pub bounds : length b.bounds ≤ most_bounds
  pub rotations : length b.rotations ≤ most_rotations
  pub reshapes : length b.reshapes ≤ most_reshapes
  pub lists : every roomy_reshape b.reshapes ≡ true

pub record Holds (ws : List ℕ) (b : Board) : Type 0 where
  pub words : ws ≡ encode b
  pub fits : Fits b

-- ---- what stands past the end of a table: its words are zeros

abbrev pub no_machine : Entry Place
no_machine = entry 0 Pooled

abbrev pub no_committee : Entry (List Id)
no_committee = entry 0 []

abbrev pub no_boundary : Entry Boundary
no_boundary = entry 0 (record { height = 0; formed = 0; last_live = 0; terminal = none; admitted = none })

abbrev pub no_rotation : Rotation
no_rotation = record { shard = 0; victim = 0; entrant = 0; opened = 0 }

abbrev pub no_seat : Entry Seat
no_seat = entry 0 (record { child = 0; ready = false })

abbrev pub no_reshape : Entry Reshape
no_reshape =
    entry 0 (record { kind = split; admitted = 0; drain_by = none; terminal = none; quiet_left = false; quiet_right = false; seats = []; left = []; right = [] })
