-- By key: what a step does at a key, as a leaf does it at a row; and that a well-formed board's keys rise.
use Prim.Native.Nat.{ℕ, ◌<◌}
use mathlib.Core.Path.{◌≡◌, ◌∙◌}
use mathlib.Core.Bool.{true}
use lib.ListN.{length, get_or}
use Rattle.rules.specs.Table.{Entry, Table, put, update}
use Rattle.rules.specs.Board.{Board, most_machines, most_committees, most_bounds, most_rotations, most_reshapes, most_seats}
use Rattle.rules.specs.WellFormed.{rising, key_before, rotation_before, good_machine, good_committee, good_boundary, good_rotation, good_seat, good_reshape, well_formed}
use Rattle.rules.proofs.Tests.{all_parts}
use Rattle.tables.specs.Rows.{Rising, key_of}
use Rattle.tables.proofs.Keys.{update_is_set, put_is_set}
use Rattle.board.specs.Held.{no_reshape}
use Rattle.board.specs.Leaves.{change_at}
use Rattle.board.proofs.One.{list_good, list_rising}
use Rattle.board.proofs.Fitting.{every_at}

-- ---- an entry at row i, with key k

module _ {A : Type 0} (t : Table A) (r : Rising key_of t) (k i : ℕ) (d : Entry A) (h : i < length t) (e : (get_or t i d).key ≡ k) where
  pub update_is_change : (f : A → A) → update k f t ≡ change_at d i f t
  update_is_change f = update_is_set t r k i d h e f ∙ rw e

  pub put_is_change : (v : A) → put k v t ≡ change_at d i (λ _. v) t
  put_is_change v = put_is_set t r k i d h e v ∙ rw e

-- ---- well-formed boards

module _ (b : Board) (g : well_formed b ≡ true) where
  pub machines_rise : Rising key_of b.machines
  unfolding well_formed
  machines_rise = list_rising most_machines good_machine key_before b.machines (all_parts _ g).1.0

  pub committees_rise : Rising key_of b.committees
  unfolding well_formed
  committees_rise = list_rising most_committees good_committee key_before b.committees (all_parts _ g).1.1.0

  pub bounds_rise : Rising key_of b.bounds
  unfolding well_formed
  bounds_rise = list_rising most_bounds good_boundary key_before b.bounds (all_parts _ g).1.1.1.0

  pub rotations_rise : rising rotation_before b.rotations ≡ true
  unfolding well_formed
  rotations_rise = list_rising most_rotations good_rotation rotation_before b.rotations (all_parts _ g).1.1.1.1.0

  pub reshapes_rise : Rising key_of b.reshapes
  unfolding well_formed
  reshapes_rise = list_rising most_reshapes good_reshape key_before b.reshapes (all_parts _ g).1.1.1.1.1.0

  pub seats_rise : (i : ℕ) → i < length b.reshapes → Rising key_of (get_or b.reshapes i no_reshape).val.seats
  unfolding well_formed good_reshape
  seats_rise i l =
      let e = get_or b.reshapes i no_reshape in
      let p = all_parts _ (every_at good_reshape b.reshapes i no_reshape (list_good most_reshapes good_reshape key_before b.reshapes (all_parts _ g).1.1.1.1.1.0) l) in
      list_rising most_seats (good_seat e.key) key_before e.val.seats p.1.1.1.1.1.0
