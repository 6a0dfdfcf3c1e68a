-- What the leaves make of a reshape: a seat's record, and one part changed.
use Rattle.std.specs.Prelude.{ℕ, List, [], Bool, true, false, cond}
use Rattle.std.proofs.Math.Option.{none, some}
use Rattle.types.specs.Numbers.{Id, Epoch}
use Rattle.rules.specs.Table.{Entry, entry}
use Rattle.rules.specs.Board as rules
use Rattle.rules.specs.Board.{Kind, split, merge, Reshape}
use Rattle.rules.specs.Moves.{with_quiet}
use Rattle.board.specs.Layout.{left_at, right_at}
use Rattle.reshapes.specs.declared.Side.{Side}
use Rattle.reshapes.specs.declared.Side.TheVariants.{Left, Right}
use Rattle.reshapes.specs.declared.seats.Seat.{Seat}

-- a seat's record as an entry of the table
abbrev pub seat_entry : Seat → Entry rules.Seat
seat_entry q = entry q.id.0 (record { child = q.child.0; ready = q.ready })

abbrev pub kind_of : Bool → Kind
kind_of isMerge = cond isMerge merge split

abbrev pub with_left : (List Id → List Id) → Reshape → Reshape
with_left f r =
    record { kind = r.kind; admitted = r.admitted; drain_by = r.drain_by; terminal = r.terminal; quiet_left = r.quiet_left; quiet_right = r.quiet_right; seats = r.seats; left = f r.left; right = r.right }

abbrev pub with_right : (List Id → List Id) → Reshape → Reshape
with_right f r =
    record { kind = r.kind; admitted = r.admitted; drain_by = r.drain_by; terminal = r.terminal; quiet_left = r.quiet_left; quiet_right = r.quiet_right; seats = r.seats; left = r.left; right = f r.right }

-- ---- a side

abbrev pub half_of : Side → Reshape → List Id
half_of Left r = r.left
half_of Right r = r.right

abbrev pub with_half : Side → (List Id → List Id) → Reshape → Reshape
with_half Left f r = with_left f r
with_half Right f r = with_right f r

abbrev pub quiet_of : Side → Reshape → Bool
quiet_of Left r = r.quiet_left
quiet_of Right r = r.quiet_right

-- the side made quiet
abbrev pub with_quiet_on : Side → Reshape → Reshape
with_quiet_on Left = with_quiet (λ q. true) (λ q. q)
with_quiet_on Right = with_quiet (λ q. q) (λ q. true)

-- where a row says whether the side is quiet, and where its half begins
abbrev pub quiet_at : Side → ℕ
quiet_at Left = 7
quiet_at Right = 8

abbrev pub half_at : Side → ℕ
half_at Left = left_at
half_at Right = right_at

-- ---- a reshape scheduled, and one admitted

-- the terminal alone; the halves are stored one id after another
abbrev pub at_terminal : Epoch → Reshape → Reshape
at_terminal e r =
    record { kind = r.kind; admitted = r.admitted; drain_by = r.drain_by; terminal = some e; quiet_left = r.quiet_left; quiet_right = r.quiet_right; seats = r.seats; left = r.left; right = r.right }

-- 'admitted now, not quiet', its seats yet to be taken
abbrev pub newly_admitted : Kind → Epoch → Reshape
newly_admitted k e = record { kind = k; admitted = e; drain_by = none; terminal = none; quiet_left = false; quiet_right = false; seats = []; left = []; right = [] }
