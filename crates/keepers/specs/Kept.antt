-- What the code tells of keepers that are drawn.
use Rattle.std.specs.Prelude.{ℕ, ◌+◌, ◌≤◌, ◌≡◌, List, [], ◌++◌, length, take, drop, Result, Ok, Err}
use Rattle.types.specs.Numbers.{Shard, Id}
use Rattle.types.specs.Shards.{left_of, right_of}
use Rattle.rules.specs.Table.{Table}
use Rattle.rules.specs.Lists.{sort}
use Rattle.rules.specs.Board.{Seat, Board, most_members, most_seats}
use Rattle.rules.specs.Draws.{Drawn, drew, and_then, shuffle}
use Rattle.rules.specs.Reshapes.{keepers_of, seat_all}
use Rattle.sampling.specs.Reads.{Read, no_draw}
use Rattle.sampling.specs.declared.DrawError.{DrawError}
use Rattle.keepers.specs.declared.Listed.{Listed}
use Rattle.keepers.specs.declared.Keepers.{Keepers}

-- room for the left child's keepers, and behind them for every member of the right one
abbrev pub keepers_room : ℕ
keepers_room = most_seats + most_members

-- ---- a child's list

-- whatever the words hold, the list is short and the reader within the draws
abbrev pub ListedWithin : List ℕ → ℕ → Result Listed DrawError → Type 0
ListedWithin draws most (Ok l) = (l.count ≤ most) × (l.left.at ≤ length draws)
ListedWithin draws most (Err e) = Unit {0}

-- of a draw of the first of `ids`
abbrev pub TellsListed : List ℕ → Drawn (List Id) → List Id → Result Listed DrawError → Type 0
TellsListed draws d ids (Ok l) = Read draws d (take l.count ids) l.left
TellsListed draws d ids (Err e) = d ≡ no_draw e

-- the waiting ones fill the share, behind ready ones that are drawn
abbrev pub filled : ℕ → List Id → List Id → List ℕ → Drawn (List Id)
filled share drawn waiting draws = and_then (shuffle (sort waiting) draws) (λ mixed rest. drew (take share (drawn ++ mixed)) rest)

abbrev pub shared : ℕ → List Id → List Id → List ℕ → Drawn (List Id)
shared share ready waiting draws = and_then (shuffle (sort ready) draws) (λ drawn rest. filled share drawn waiting rest)

-- ---- the keepers of both

abbrev pub KeptWithin : List ℕ → Result Keepers DrawError → Type 0
KeptWithin draws (Ok k) = (k.from_left + k.from_right ≤ most_seats) × (k.left.at ≤ length draws)
KeptWithin draws (Err e) = Unit {0}

-- the seats of n ids for the left child, then of m for the right one
abbrev pub seats_of : Shard → List Id → ℕ → ℕ → Table Seat
seats_of t ids n m = seat_all (right_of t) (take m (drop n ids)) (seat_all (left_of t) (take n ids) [])

abbrev pub TellsKept : Shard → List ℕ → Drawn (Table Seat) → List Id → Result Keepers DrawError → Type 0
TellsKept t draws d ids (Ok k) = Read draws d (seats_of t ids k.from_left k.from_right) k.left
TellsKept t draws d ids (Err e) = d ≡ no_draw e

-- those of the left child are drawn
abbrev pub right_drawn : Shard → ℕ → Board → List Id → List ℕ → Drawn (Table Seat)
right_drawn t share b lefts draws = and_then (keepers_of (right_of t) share b draws) (λ rights rest. drew (seat_all (right_of t) rights (seat_all (left_of t) lefts [])) rest)
