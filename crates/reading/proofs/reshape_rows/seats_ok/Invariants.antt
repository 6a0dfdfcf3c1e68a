use Prim.Native.Nat.{ℕ, ◌+◌, ◌*◌}
use mathlib.Core.Path.{◌≡◌}
use mathlib.Core.List.{List}
use lib.ListN.{get_or}
use Rattle.board.specs.Layout.{seat_width}
use Rattle.unpacking.specs.AsWords.{AsWords}
use Rattle.reading.proofs.Seats.{SeatsLeft}
use Rattle.reading.proofs.reshape_rows.seats_ok.Given as goal

pub record Held (target n : ℕ) (bytes : List ℕ) (at left a : ℕ) : Type 0 where
  pub place : a + left * seat_width ≡ 1 + n * seat_width
  pub rest : (ws : List ℕ) → AsWords bytes ws → n ≡ get_or ws at 0 → SeatsLeft target n at ws left a

abbrev pub invariant-loop-after : goal.invariant-loop-after
invariant-loop-after l = Held l.target l.n l.bytes l.at l.after l.seat
