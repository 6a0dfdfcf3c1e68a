-- How many words are packed.
use Prim.Native.Nat.{ℕ, ◌+◌, ◌*◌, ◌≤◌}
use mathlib.Core.Path.{◌≡◌, sym}
use mathlib.Core.List.{List}
use native.Mathlib.Omega.{arith}
use native.Mathlib.Nat.{mul-le-mul_right, min-le_right, min-eq_left}
use lib.ListN.{length, get_or, take, length-append}
use lib.Seq.{length-take-le}
use Rattle.rules.specs.Board.{most_members, most_seats, most_half}
use Rattle.board.specs.Layout.{members_at, committee_width, seat_width, seats_at, left_at, right_at, reshape_width}
use Rattle.packing.specs.Packed.{between, count_of, flat, committee, reshape}

pub count_few : (cap : ℕ) (t : List ℕ) → get_or t 0 0 ≤ cap → get_or t 0 0 ≡ count_of cap t
unfolding count_of
count_few cap t h = sym (min-eq_left h)

pub count_most : (cap : ℕ) (t : List ℕ) → count_of cap t ≤ cap
unfolding count_of
count_most cap t = min-le_right (get_or t 0 0) cap

module _ (w cap : ℕ) (t : List ℕ) (l : length t ≡ 1 + cap * w) where
  pub flat_within : 1 + count_of cap t * w ≤ length t
  flat_within = omega (arith, mul-le-mul_right w (count_most cap t))

  pub flat_length : length (flat w cap t) ≡ 1 + count_of cap t * w
  unfolding flat
  flat_length = length-take-le (1 + count_of cap t * w) t flat_within

  pub flat_most : length (flat w cap t) ≤ 1 + cap * w
  flat_most = omega (arith, flat_length, flat_within)

pub committee_length : (t : List ℕ) → length t ≡ committee_width → length (committee t) ≡ members_at + length (flat 1 most_members (between members_at committee_width t))
unfolding committee
committee_length t l = omega (arith, length-append (take members_at t) (flat 1 most_members (between members_at committee_width t)), length-take-le members_at t (omega arith))

pub reshape_length : (t : List ℕ) → length t ≡ reshape_width
    → length (reshape t) ≡ seats_at + length (flat seat_width most_seats (between seats_at left_at t)) + length (flat 1 most_half (between left_at right_at t)) + length (flat 1 most_half (between right_at reshape_width t))
unfolding reshape
reshape_length t l = simp length-append (omega (arith, length-take-le seats_at t (omega arith)))
