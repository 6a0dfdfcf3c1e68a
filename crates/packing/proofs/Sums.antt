-- The whole board: its size and its sections, one behind the other.
use Prim.Native.Nat.{ℕ, ◌+◌, ◌-◌, ◌*◌, ◌≤◌}
use mathlib.Core.Path.{◌≡◌, refl}
use mathlib.Core.List.{List, ◌++◌}
use native.Mathlib.Omega.{arith}
use lib.ListN.{length, take, length-append}
use lib.Seq.{length-take-le}
use mir.Syntax.{w64}
use mir.Val.{Fits}
use mir.Facts.{Fits-le, Fits-lit}
use Rattle.rules.specs.Board.{most_machines, most_committees, most_bounds, most_rotations, most_reshapes}
use Rattle.shifts.proofs.Parts.{between_length}
use Rattle.board.specs.Layout.{machine_width, committee_width, boundary_width, rotation_width, reshape_width, machines_at, committees_at, bounds_at, rotations_at, reshapes_at, board_size}
use Rattle.row_tests.specs.declared.RowKind.TheVariants.{Committees, Reshapes}
use Rattle.packing.specs.Packed.{between, flat, nested, from_bounds, packed}
use Rattle.packing.proofs.Sizes.{flat_most}
use Rattle.packing.proofs.Lefts.{Left, start}

pub packed_start : (t out : List ℕ) → length (packed t) * 8 ≤ length out
    → Left (packed t) 0 out
    (take 7 t
    ++ (flat machine_width most_machines (between machines_at committees_at t) ++ (nested Committees most_committees (between committees_at bounds_at t) ++ from_bounds t)))
    0 out
unfolding packed
packed_start t out h = start _ _ 0 out refl (omega arith)

pub bounds_start : (t out : List ℕ) (at : ℕ) → at + length (from_bounds t) * 8 ≤ length out
    → Left (from_bounds t) at out
    (flat boundary_width most_bounds (between bounds_at rotations_at t)
    ++ (flat rotation_width most_rotations (between rotations_at reshapes_at t) ++ nested Reshapes most_reshapes (between reshapes_at board_size t)))
    at out
unfolding from_bounds
bounds_start t out at h = start _ _ at out refl h

pub within : {e n : ℕ} → n ≡ board_size → e ≤ board_size → e ≤ n
within l h = rw l h

-- each section's words in a board's
module _ (t : List ℕ) (l : length t ≡ board_size) where
  pub machines_long : length (between machines_at committees_at t) ≡ 1 + most_machines * machine_width
  machines_long = between_length machines_at committees_at t (omega arith)

  pub committees_long : length (between committees_at bounds_at t) ≡ 1 + most_committees * committee_width
  committees_long = between_length committees_at bounds_at t (omega arith)

  pub bounds_long : length (between bounds_at rotations_at t) ≡ 1 + most_bounds * boundary_width
  bounds_long = between_length bounds_at rotations_at t (omega arith)

  pub rotations_long : length (between rotations_at reshapes_at t) ≡ 1 + most_rotations * rotation_width
  rotations_long = between_length rotations_at reshapes_at t (omega arith)

  pub reshapes_long : length (between reshapes_at board_size t) ≡ 1 + most_reshapes * reshape_width
  reshapes_long = between_length reshapes_at board_size t (omega arith)

  -- the sizes of the sections, summed

  pub bounds_summed : (b o r : ℕ) → b ≡ length (flat boundary_width most_bounds (between bounds_at rotations_at t))
      → o ≡ length (flat rotation_width most_rotations (between rotations_at reshapes_at t))
      → (r ≡ length (nested Reshapes most_reshapes (between reshapes_at board_size t))) × (r ≤ length (between reshapes_at board_size t))
      → (b + o + r ≡ length (from_bounds t)) × (b + o + r ≤ board_size - bounds_at)
  unfolding from_bounds
  bounds_summed b o r eb eo er = (
    simp length-append (omega arith),
    omega (
      arith,
      flat_most boundary_width most_bounds (between bounds_at rotations_at t) bounds_long,
      flat_most rotation_width most_rotations (between rotations_at reshapes_at t) rotations_long,
      reshapes_long,
    ),
  )

  pub summed : (m c s : ℕ) → m ≡ length (flat machine_width most_machines (between machines_at committees_at t))
      → (c ≡ length (nested Committees most_committees (between committees_at bounds_at t))) × (c ≤ length (between committees_at bounds_at t))
      → (s ≡ length (from_bounds t)) × (s ≤ board_size - bounds_at)
      → (7 + m + c + s ≡ length (packed t)) × (7 + m + c + s ≤ board_size)
  unfolding packed
  summed m c s em ec es = (
    simp length-append (omega (arith, length-take-le 7 t (omega arith))),
    omega (arith, flat_most machine_width most_machines (between machines_at committees_at t) machines_long, committees_long),
  )

-- each sum is a word, where the last is small
module _ (a b c : ℕ) (h : a + b + c ≤ board_size) where
  pub fits_first : Fits w64 a
  fits_first = Fits-le {n = board_size} (omega arith) (Fits-lit tt)

  pub fits_second : Fits w64 (a + b)
  fits_second = Fits-le {n = board_size} (omega arith) (Fits-lit tt)

  pub fits_third : Fits w64 (a + b + c)
  fits_third = Fits-le h (Fits-lit tt)
