-- One rotation: whether it is resolved, and how it is closed, as the code has it.
use Prim.Native.Nat.{ℕ, ◌+◌, ◌-◌, ◌<◌}
use mathlib.Core.Path.{◌≡◌, refl, sym, ◌∙◌}
use mathlib.Core.List.{List}
use mathlib.Core.Option.{none}
use mathlib.Core.Bool.{Bool, true, false, ◌&&◌}
use native.Mathlib.Omega.{arith}
use borrow.Author.Tests.{lt-leb}
use lib.Dec.{leb}
use lib.ListN.{length, get_or}
use Rattle.types.specs.Numbers.{Shard, Id}
use Rattle.types.specs.Places.{is_seated_on, is_ready}
use Rattle.rules.specs.Lists.{count}
use Rattle.rules.specs.Table.{at}
use Rattle.rules.specs.Board.{Rotation, Board, on_rotations, size_of}
use Rattle.rules.specs.WellFormed.{well_formed}
use Rattle.rules.specs.Moves.{says, take_off, pooled_from, is_on, drop_first}
use Rattle.rules.specs.Places.{is_resolved, has_seats_free, is_rotation, retire, close}
use Rattle.rules.proofs.Tests.{le_of, of_le, lt_of_no}
use Rattle.rules.proofs.KeptTables.{holds_at_lem}
use Rattle.rules.proofs.KeptRotations.{Rota-drop_first}
use Rattle.rules.proofs.KeptBoard.{good_of_lem, of_good, on_rotations_lem}
use Rattle.tables.specs.Rows.{remove_at}
use Rattle.tables.proofs.Bools.{and_is}
use Rattle.tables.proofs.Keys.{at_is}
use Rattle.board.specs.Held.{Holds, no_committee, no_rotation}
use Rattle.board.proofs.Keyed.{committees_rise, rotations_rise}
use Rattle.shards.proofs.Order.{rotation_goes}
use Rattle.rows.proofs.Asked.{holds_none}

pub resolved_is : (b : Board) (q : Rotation) (seated ready : Bool) → seated ≡ says (is_seated_on q.shard) b q.entrant → ready ≡ says is_ready b q.entrant → (seated && ready) ≡ is_resolved b q
unfolding is_resolved
resolved_is b q seated ready s r = rw (s, r) (and_is _ _)

-- ---- the seats of the committee

sum_or_rest : (m o z : ℕ) → leb (m - o) z ≡ leb m (z + o)
sum_or_rest m o z = go (leb m (z + o)) refl
  where
    go : (c : Bool) → leb m (z + o) ≡ c → leb (m - o) z ≡ c
    go true u = of_le (m - o) z (omega (arith, le_of m (z + o) u))
    go false u = lt-leb (m - o) z (omega (arith, lt_of_no m (z + o) u))

module _ (s : Shard) (b : Board) where
  pub seats_nowhere : at s b.committees ≡ none → false ≡ has_seats_free s b
  unfolding has_seats_free
  seats_nowhere n = sym (holds_none s _ b.committees n)

  module _ (ok : well_formed b ≡ true) (j : ℕ) (l : j < length b.committees) (e : (get_or b.committees j no_committee).key ≡ s) (m o : ℕ) (me : m ≡ length (get_or b.committees j no_committee).val)
      (oe : o ≡ count (is_on s) b.rotations) where
    seats_at_lem : leb m (size_of b + o) ≡ has_seats_free s b
    unfolding has_seats_free
    seats_at_lem = rw (me, oe) (sym (holds_at_lem s _ b.committees _ (at_is b.committees (committees_rise b ok) s j no_committee l e)))

    pub seats_many : (z : ℕ) → z ≡ size_of b → leb (m - o) z ≡ has_seats_free s b
    seats_many z ze = sum_or_rest m o z ∙ rw ze seats_at_lem

-- ---- its victim

module _ (s : Shard) (v : Id) (b : Board) (after : List ℕ) where
  pub victim_stays : has_seats_free s b ≡ true → Holds after b → Holds after (retire s v b)
  unfolding retire
  victim_stays y h = rw y h

  pub victim_goes : has_seats_free s b ≡ false → Holds after (take_off s (pooled_from (is_seated_on s)) v b) → Holds after (retire s v b)
  unfolding retire
  victim_goes n h = rw n h

-- ---- the rotation at row i

module _ (b : Board) (ok : well_formed b ≡ true) (i : ℕ) (l : i < length b.rotations) where
  abbrev here : Rotation
  here = get_or b.rotations i no_rotation

  goes : drop_first (is_rotation here.shard here.victim) b.rotations ≡ remove_at b.rotations i
  goes = rotation_goes b.rotations i no_rotation (rotations_rise b ok) l

  pub removed_well : well_formed (on_rotations (λ t. remove_at t i) b) ≡ true
  removed_well =
      let g = good_of_lem b ok in
      of_good (rw goes at (on_rotations_lem g (drop_first (is_rotation here.shard here.victim)) (Rota-drop_first _ g.rotations)))

  pub closed_at : (after : List ℕ) (q : Rotation) → q ≡ here → Holds after (retire q.shard q.victim (on_rotations (λ t. remove_at t i) b)) → Holds after (close here b)
  unfolding close
  closed_at after q e h = rw goes (rw e at h)
