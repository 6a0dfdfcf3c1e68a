-- A plan applied: the words hold what the definitions make of the board.
use Rattle.std.proofs.Common.{◌≡◌, ℕ, ◌+◌, ◌<◌, ◌≤◌, true, cond, eqb, List, [], ◌∷◌, length, get_or, refl, ap, ◌∙◌, arith, get_or-set_same, set-set}
use mathlib.Core.Option.{none}
use Rattle.std.specs.Prelude.{Option, Some, None}
use Rattle.types.specs.Numbers.{Shard, Id, Epoch}
use Rattle.types.specs.Shards.{left_of, right_of}
use Rattle.rules.specs.Table.{Entry, Table, each, at, update}
use Rattle.rules.specs.Board.{Boundary, Kind, split, merge, Reshape, Board, last_epoch, on_bounds, on_reshapes, epoch_of}
use Rattle.rules.specs.WellFormed.{is_stamp, well_formed}
use Rattle.rules.specs.Moves.{for_all, with_drain_by, with_terminal, old_shards, marked_boundary}
use Rattle.rules.specs.Schedule.{scheduled, drain_end}
use Rattle.rules.proofs.Tables.{at_each}
use Rattle.rules.proofs.KeptTables.{length_each}
use Rattle.rules.proofs.KeptBoard.{limits, good_of_lem, of_good, fit_at, stamp}
use Rattle.rules.proofs.KeptMoves.{good_marked}
use Rattle.tables.proofs.Keys.{at_is, update_none}
use Rattle.board.specs.Held.{Holds, no_boundary, no_reshape}
use Rattle.board.specs.Leaves.{change_at}
use Rattle.board.proofs.Keyed.{update_is_change, bounds_rise, reshapes_rise}
use Rattle.rows.specs.Finds.{FoundAt}
use Rattle.joining.proofs.Struck.{key_each}
use Rattle.reshapes.specs.Changes.{with_half, at_terminal}
use Rattle.reshapes.specs.declared.Side.TheVariants.{Left, Right}
use Rattle.drains.specs.Plans.{RowOf}

-- one row changed twice
pub change_twice : {A : Type 0} (d : Entry A) (i : ℕ) (f g : A → A) (t : Table A) → i < length t → change_at d i g (change_at d i f t) ≡ change_at d i (λ v. g (f v)) t
change_twice d i f g t l = rw (get_or-set_same t i _ d l) (set-set t i _ _)

-- a sum that no wrap spoils
pub sum_is : (b : Board) → well_formed b ≡ true → (e n by m : ℕ) → e ≡ epoch_of b → n ≡ m → m ≤ 1000000 → (e ≤ last_epoch → n ≤ 1000000 → by ≡ e + n) → by ≡ epoch_of b + m
sum_is b ok e n by m p q l f = f (rw p (limits _ (good_of_lem b ok).settings).epoch) (rw q l) ∙ rw (p, q)

pub drain_short : (b : Board) → well_formed b ≡ true → b.settings.drain ≤ 1000000
drain_short b ok = (limits _ (good_of_lem b ok).settings).drain

-- ---- a time to drain by

pub drain_stamped : (b : Board) → well_formed b ≡ true → (t : Shard) (i : ℕ) → RowOf t i b → (by : Epoch) → by ≡ drain_end b → (after : List ℕ)
    → Holds after (on_reshapes (change_at no_reshape i (with_drain_by by)) b) → Holds after (on_reshapes (update t (with_drain_by (drain_end b))) b)
drain_stamped b ok t i r by e after h = rw (update_is_change b.reshapes (reshapes_rise b ok) t i no_reshape r.inside r.named (with_drain_by (drain_end b)), ← e) h

-- ---- boundaries marked

module _ (b : Board) (s : Shard) (f : Boundary → Boundary) (after : List ℕ) where
  pub marked_at : well_formed b ≡ true → (k : ℕ) → k < length b.bounds → (get_or b.bounds k no_boundary).key ≡ s → Holds after (on_bounds (change_at no_boundary k f) b)
      → Holds after (on_bounds (update s f) b)
  marked_at ok k l e h = rw (update_is_change b.bounds (bounds_rise b ok) s k no_boundary l e f) h

  pub marked_none : at s b.bounds ≡ none → Holds after b → Holds after (on_bounds (update s f) b)
  marked_none n h = rw (update_none s f b.bounds n) h

-- a row that was found is found where values have changed
pub found_updated : {A : Type 0} (k s : ℕ) (f : A → A) (d : Entry A) (t : Table A) (r : Option ℕ) → FoundAt k d t r → FoundAt k d (update s f t) r
unfolding update
found_updated {A} k s f d t r g = go r g
  where
    u : ℕ → A → A
    u j v = cond (eqb j s) (f v) v

    go : (o : Option ℕ) → FoundAt k d t o → FoundAt k d (each u t) o
    go None m = at_each u k t ∙ rw m
    go (Some i) m = (rw (length_each u t) m.0, key_each u t i d ∙ m.1)

module _ (b : Board) (t : Shard) (k : Kind) (f : Boundary → Boundary) (after : List ℕ) where
  pub marked_both : k ≡ merge → Holds after (on_bounds (update (right_of t) f) (on_bounds (update (left_of t) f) b)) → Holds after (for_all (λ s. on_bounds (update s f)) (old_shards k t) b)
  unfolding for_all
  marked_both m h = rw m h

  pub marked_one : k ≡ split → Holds after (on_bounds (update t f) b) → Holds after (for_all (λ s. on_bounds (update s f)) (old_shards k t) b)
  unfolding for_all
  marked_one m h = rw m h

pub well_marked : (b : Board) → well_formed b ≡ true → (s : Shard) (terminal admitted : Epoch) → is_stamp terminal ≡ true → is_stamp admitted ≡ true
    → well_formed (on_bounds (update s (marked_boundary terminal admitted)) b) ≡ true
well_marked b ok s terminal admitted p q = of_good (good_marked s terminal admitted p q (good_of_lem b ok))

-- ---- a terminal

pub marks : (Boundary → Boundary) → List Shard → Table Boundary → Table Boundary
marks f [] t = t
marks f (s ∷ l) t = marks f l (update s f t)

all_marked : (f : Boundary → Boundary) (l : List Shard) (b : Board) → for_all (λ s. on_bounds (update s f)) l b ≡ on_bounds (marks f l) b
unfolding for_all marks
all_marked f [] b = refl
all_marked f (s ∷ l) b = all_marked f l (on_bounds (update s f) b)

module _ (b : Board) (ok : well_formed b ≡ true) (t : Shard) (i : ℕ) (at_i : RowOf t i b) where
  abbrev row : Reshape
  row = (get_or b.reshapes i no_reshape).val

  -- a scheduled reshape, by its row
  pub scheduled_at : (left right : List Id)
      → scheduled t row left right b
      ≡ on_reshapes (change_at no_reshape i (with_terminal (epoch_of b + 1) left right)) (on_bounds (marks (marked_boundary (epoch_of b + 1) row.admitted) (old_shards row.kind t)) b)
  unfolding scheduled
  scheduled_at left right =
      all_marked (marked_boundary (epoch_of b + 1) row.admitted) (old_shards row.kind t) _
      ∙ rw (update_is_change b.reshapes (reshapes_rise b ok) t i no_reshape at_i.inside at_i.named (with_terminal (epoch_of b + 1) left right))

  ended : (terminal : Epoch) → change_at no_reshape i (with_half Right (λ l. [])) (change_at no_reshape i (with_half Left (λ l. [])) (change_at no_reshape i (at_terminal terminal) b.reshapes))
      ≡ change_at no_reshape i (with_terminal terminal [] []) b.reshapes
  ended terminal =
      ap (change_at no_reshape i (with_half Right (λ l. []))) (change_twice no_reshape i (at_terminal terminal) (with_half Left (λ l. [])) b.reshapes at_i.inside)
      ∙ change_twice no_reshape i (λ v. with_half Left (λ l. []) (at_terminal terminal v)) (with_half Right (λ l. [])) b.reshapes at_i.inside

  module _ (terminal admitted : Epoch) (te : terminal ≡ epoch_of b + 1) (ad : admitted ≡ row.admitted) where
    -- the board with its boundaries marked
    abbrev pub Marked : Board
    Marked = on_bounds (marks (marked_boundary terminal admitted) (old_shards row.kind t)) b

    pub terminal_good : is_stamp terminal ≡ true
    terminal_good = rw te (stamp (good_of_lem b ok) 1 (omega arith))

    pub admitted_good : is_stamp admitted ≡ true
    admitted_good = rw ad (fit_at (good_of_lem b ok) t row (at_is b.reshapes (reshapes_rise b ok) t i no_reshape at_i.inside at_i.named)).admitted

    pub marked_alone : (after : List ℕ) → Holds after (for_all (λ s. on_bounds (update s (marked_boundary terminal admitted))) (old_shards row.kind t) b) → Holds after Marked
    marked_alone after h = rw (all_marked (marked_boundary terminal admitted) (old_shards row.kind t) b) at h

    pub terminal_set : (after : List ℕ)
        → Holds after (on_reshapes (change_at no_reshape i (with_half Right (λ l. []))) (on_reshapes (change_at no_reshape i (with_half Left (λ l. []))) (on_reshapes (change_at no_reshape i (at_terminal terminal)) Marked)))
        → Holds after (scheduled t row [] [] b)
    terminal_set after h = rw (scheduled_at [] [], ← ended (epoch_of b + 1)) (rw (te, ad) at h)
