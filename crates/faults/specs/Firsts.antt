-- Where a clause of the seat check fails: the first row from a place on that fails its test.
use Rattle.std.specs.Prelude.{ℕ, ◌+◌, List, Bool, not, eqb, get_or, drop}
use Rattle.types.specs.Places.{is_seated_on, observes}
use Rattle.types.specs.declared.Place.{Place}
use Rattle.rules.specs.Lists.{◌and◌, ◌or◌}
use Rattle.rules.specs.Table.{Entry}
use Rattle.rules.specs.Board.{Rotation, split, Seat, Reshape, Board}
use Rattle.rules.specs.Moves.{says, is_on, is_kind, overlaps}
use Rattle.rules.specs.Places.{is_scheduled_split}
use Rattle.rules.specs.SeatCheck.{is_listed, is_in_one_half}
use Rattle.tables.specs.Rows.{first_where}
use Rattle.board.specs.Held.{no_committee, no_rotation, no_reshape}
use Rattle.occupancy.specs.Rows.{is_here}
use Rattle.parties.specs.Pairs.{share_party}
use Rattle.seats.specs.Rows.{reshape_stands}

-- from row i on; the end of the rows where none fails
abbrev pub fails_from : {A : Type 0} → (A → Bool) → List A → ℕ → ℕ
fails_from f l i = i + first_where (λ x. not (f x)) (drop i l)

-- ---- the tests of a row

abbrev pub is_listed_row : Board → Entry Place → Bool
is_listed_row b e = is_listed b e.key e.val

-- a seat in a split is of a machine that observes its target; a merge's seats are its keepers'
abbrev pub seat_watches : Board → Entry Reshape → Entry Seat → Bool
seat_watches b e q = not (is_kind split e.val) or says (observes e.key) b q.key

-- two parties, both seated on the rotation's shard
abbrev pub parties_sit : Board → Rotation → Bool
parties_sit b r = not (eqb r.entrant r.victim) and says (is_seated_on r.shard) b r.victim and says (is_seated_on r.shard) b r.entrant

-- a rotation is not on the target of a scheduled split
abbrev pub leaves_alone : Entry Reshape → Rotation → Bool
leaves_alone e r = not (is_scheduled_split e.val) or not (is_on e.key r)

-- a machine seated on the target of a scheduled split is in one half
abbrev pub is_halved : Entry Reshape → Entry Place → Bool
is_halved e m = not (is_scheduled_split e.val) or is_in_one_half e.key e.val m

-- ---- the finders: what fails, from a row on

module _ (b : Board) where
  -- a member of the committee at j
  abbrev pub stray_member : ℕ → ℕ → ℕ
  stray_member j = fails_from (says (is_here (get_or b.committees j no_committee).key) b) (get_or b.committees j no_committee).val

  -- a machine
  abbrev pub unlisted_machine : ℕ → ℕ
  unlisted_machine = fails_from (is_listed_row b) b.machines

  -- a seat in the reshape at i
  abbrev pub absent_seat : ℕ → ℕ → ℕ
  absent_seat i = fails_from (seat_watches b (get_or b.reshapes i no_reshape)) (get_or b.reshapes i no_reshape).val.seats

  -- a rotation, by itself
  abbrev pub unseated_rotation : ℕ → ℕ
  unseated_rotation = fails_from (parties_sit b) b.rotations

  -- a rotation that shares a party with the one at i
  abbrev pub sharing_rotation : ℕ → ℕ → ℕ
  sharing_rotation i = fails_from (λ q. not (share_party (get_or b.rotations i no_rotation) q)) b.rotations

  -- a rotation on the target of the reshape at i, a scheduled split
  abbrev pub rotation_there : ℕ → ℕ → ℕ
  rotation_there i = fails_from (leaves_alone (get_or b.reshapes i no_reshape)) b.rotations

  -- a machine seated on the target of the reshape at i, a scheduled split
  abbrev pub unhalved_machine : ℕ → ℕ → ℕ
  unhalved_machine i = fails_from (is_halved (get_or b.reshapes i no_reshape)) b.machines

  -- a reshape whose family overlaps that of the one at i
  abbrev pub overlapping_reshape : ℕ → ℕ → ℕ
  overlapping_reshape i = fails_from (λ e. not (overlaps (get_or b.reshapes i no_reshape).key e.key)) b.reshapes

  -- a reshape, by itself
  abbrev pub unfounded_reshape : ℕ → ℕ
  unfounded_reshape = fails_from (reshape_stands b) b.reshapes
