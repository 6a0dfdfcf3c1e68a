-- The seat check clause by clause: the rows that each walks, and which of them breaks it next.
use Rattle.std.specs.Prelude.{ℕ, ◌+◌, ◌<◌, ◌≡◌, length, get_or}
use Rattle.rules.specs.Board.{Board}
use Rattle.board.specs.Held.{no_committee, no_reshape}
use Rattle.faults.specs.Firsts.{stray_member, unlisted_machine, absent_seat, unseated_rotation, sharing_rotation, rotation_there, unhalved_machine, overlapping_reshape, unfounded_reshape}
use Rattle.fault_rows.specs.declared.Clause.{Clause}
use Rattle.fault_rows.specs.declared.Clause.TheVariants.{StrayMember, Unlisted, AbsentSeat, Unseated, SharedParty, SplitThere, Unhalved, Overlapping, Unfounded}

-- a clause is asked once, or once for each of these
unfoldable pub rows_outside : Clause → Board → ℕ
rows_outside StrayMember b = length b.committees
rows_outside Unlisted b = 1
rows_outside AbsentSeat b = length b.reshapes
rows_outside Unseated b = 1
rows_outside SharedParty b = length b.rotations
rows_outside SplitThere b = length b.reshapes
rows_outside Unhalved b = length b.reshapes
rows_outside Overlapping b = length b.reshapes
rows_outside Unfounded b = 1

-- the rows that it is asked of, for row i outside
unfoldable pub rows_inside : Clause → Board → ℕ → ℕ
rows_inside StrayMember b i = length (get_or b.committees i no_committee).val
rows_inside Unlisted b i = length b.machines
rows_inside AbsentSeat b i = length (get_or b.reshapes i no_reshape).val.seats
rows_inside Unseated b i = length b.rotations
rows_inside SharedParty b i = length b.rotations
rows_inside SplitThere b i = length b.rotations
rows_inside Unhalved b i = length b.machines
rows_inside Overlapping b i = length b.reshapes
rows_inside Unfounded b i = length b.reshapes

-- where the walk inside begins: a row is held against those after it
unfoldable pub first_of : Clause → ℕ → ℕ
first_of StrayMember i = 0
first_of Unlisted i = 0
first_of AbsentSeat i = 0
first_of Unseated i = 0
first_of SharedParty i = i + 1
first_of SplitThere i = 0
first_of Unhalved i = 0
first_of Overlapping i = i + 1
first_of Unfounded i = 0

-- the next row inside, from `at` on, that breaks the clause
unfoldable pub next_fault : Clause → Board → ℕ → ℕ → ℕ
next_fault StrayMember b i at = stray_member b i at
next_fault Unlisted b i at = unlisted_machine b at
next_fault AbsentSeat b i at = absent_seat b i at
next_fault Unseated b i at = unseated_rotation b at
next_fault SharedParty b i at = sharing_rotation b i at
next_fault SplitThere b i at = rotation_there b i at
next_fault Unhalved b i at = unhalved_machine b i at
next_fault Overlapping b i at = overlapping_reshape b i at
next_fault Unfounded b i at = unfounded_reshape b at

-- a walk over every clause finds nothing
abbrev pub NothingTold : Board → Type 0
NothingTold b = (c : Clause) (i : ℕ) → i < rows_outside c b → next_fault c b i (first_of c i) ≡ rows_inside c b i
