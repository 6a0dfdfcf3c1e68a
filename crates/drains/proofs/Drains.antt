-- Ready seats and the plan of a drain, as the code has them at a row.
use Rattle.std.proofs.Common.{◌≡◌, ℕ, ◌≤◌, Bool, true, false, cond, not, ◌&&◌, eqb, List, [], ◌∷◌, get_or, sym, refl, ◌∙◌}
use mathlib.Core.Option.{Option, none, some}
use Rattle.types.specs.Numbers.{Shard, Id, Epoch}
use Rattle.types.specs.declared.ShardId.{ShardId}
use Rattle.types.specs.declared.Answer.TheVariants.{NoBoundary}
use Rattle.rules.specs.Table.{Entry, is_some, at, update}
use Rattle.rules.specs.Board as rules
use Rattle.rules.specs.Board.{split, merge, Reshape, Board, on_reshapes, size_of}
use Rattle.rules.specs.WellFormed.{good_settings, well_formed}
use Rattle.rules.specs.Moves.{with_drain_by, is_kind, bounds_stand}
use Rattle.rules.specs.Turns.{Turn, finished, refused, ◌gives◌, checked}
use Rattle.rules.specs.Schedule.{is_quiet, scheduled, drain_end, drain_or_schedule}
use Rattle.rules.proofs.Tests.{and_parts, all_parts, le_of}
use Rattle.rules.proofs.KeptBoard.{good_of_lem}
use Rattle.rules.proofs.SeatsMoves.{kind_is}
use Rattle.tables.proofs.Bools.{and_is}
use Rattle.tables.proofs.Keys.{at_is}
use Rattle.board.specs.Held.{no_reshape}
use Rattle.board.proofs.Keyed.{reshapes_rise}
use Rattle.reshapes.specs.Changes.{seat_entry, kind_of}
use Rattle.reshapes.specs.declared.seats.Seat.{Seat}
use Rattle.moves.proofs.Exiting.{split_unless, kind_told}
use Rattle.drains.specs.declared.Whose.{Whose}
use Rattle.drains.specs.declared.Whose.TheVariants.{All, Of}
use Rattle.drains.specs.declared.Plan.{Plan}
use Rattle.drains.specs.declared.Plan.TheVariants.{Stamp, Wait, Schedule, Unbounded}
use Rattle.drains.specs.Plans.{RowOf, counts_seat, plan_of}

-- ---- ready seats

module _ (w : Whose) (q : Seat) (e : Entry rules.Seat) (s : seat_entry q ≡ e) where
  pub counts_all : w ≡ All → q.ready ≡ counts_seat w e.val
  counts_all a = rw (a, ← s)

  pub counts_of : (c : ShardId) → w ≡ Of c → (eqb q.child.0 c.0 && q.ready) ≡ counts_seat w e.val
  counts_of c a = and_is (eqb q.child.0 c.0) q.ready ∙ rw (a, ← s)

pub size_some : (b : Board) → well_formed b ≡ true → 4 ≤ size_of b
unfolding good_settings
size_some b ok = let p = all_parts _ (good_of_lem b ok).settings in le_of _ _ (and_parts _ _ p.1.0).0

-- ---- kinds

module _ (r : Reshape) (m : Bool) (e : m ≡ is_kind merge r) where
  pub reads_merge : m ≡ true → r.kind ≡ merge
  reads_merge t = kind_is merge r (sym e ∙ t)

  pub reads_split : m ≡ false → r.kind ≡ split
  reads_split t = kind_is split r (split_unless r false (sym e ∙ t))

-- ---- quiet

module _ (r : Reshape) (l : Bool) (e : l ≡ r.quiet_left) where
  pub quiet_both : r.kind ≡ merge → (q : Bool) → q ≡ r.quiet_right → (l && q) ≡ is_quiet r
  unfolding is_quiet
  quiet_both k q f = and_is l q ∙ rw (k, is_quiet, e, f)

  pub quiet_one : r.kind ≡ split → l ≡ is_quiet r
  unfolding is_quiet
  quiet_one k = rw (k, is_quiet) e

-- ---- the plan

module _ (t : Shard) (r : Reshape) (b : Board) where
  pub bounds_of : (m : Bool) → m ≡ is_kind merge r → (c : Bool) → c ≡ bounds_stand (kind_of m) t b → c ≡ bounds_stand r.kind t b
  bounds_of m e c s = rw (← kind_told r m e) s

  pub plan_stamp : is_some r.drain_by ≡ false → Stamp ≡ plan_of t r b
  plan_stamp n = rw n

  module _ (d : is_some r.drain_by ≡ true) where
    pub plan_wait : is_quiet r ≡ false → Wait ≡ plan_of t r b
    plan_wait n = rw (d, n)

    pub plan_schedule : is_quiet r ≡ true → bounds_stand r.kind t b ≡ true → Schedule ≡ plan_of t r b
    plan_schedule y s = rw (d, y, s)

    pub plan_unbounded : is_quiet r ≡ true → bounds_stand r.kind t b ≡ false → Unbounded ≡ plan_of t r b
    plan_unbounded y s = rw (d, y, s)

-- what a plan comes to
module _ (t : Shard) (r : Reshape) (left right : List Id) (draws : List ℕ) (b : Board) where
  abbrev pub planned : Plan → Turn
  planned Stamp = finished 0 draws (on_reshapes (update t (with_drain_by (drain_end b))) b)
  planned Wait = finished 0 draws b
  planned Schedule = finished 1 draws (scheduled t r left right b)
  planned Unbounded = refused NoBoundary

  pub drain_planned : drain_or_schedule t r left right draws b ≡ planned (plan_of t r b)
  unfolding drain_or_schedule checked is_some
  drain_planned = go r.drain_by (is_quiet r) (bounds_stand r.kind t b)
    where
      go : (o : Option Epoch) (q s : Bool) → elim o [
        | none ↦ finished 0 draws (on_reshapes (update t (with_drain_by (drain_end b))) b)
        | some e ↦ cond q (checked (not s gives NoBoundary ∷ []) (finished 1 draws (scheduled t r left right b))) (finished 0 draws b)
      ] ≡ planned (cond (is_some o) (cond q (cond s Schedule Unbounded) Wait) Stamp)
      go none q s = refl
      go (some e) true true = refl
      go (some e) true false = refl
      go (some e) false s = refl

-- ---- a reshape's row

module _ (b : Board) (ok : well_formed b ≡ true) (t : Shard) where
  pub row_at : (i : ℕ) → RowOf t i b → at t b.reshapes ≡ some (get_or b.reshapes i no_reshape).val
  row_at i r = at_is b.reshapes (reshapes_rise b ok) t i no_reshape r.inside r.named
