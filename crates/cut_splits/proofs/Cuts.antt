-- A shard's turn: its faults in order, and the board of the cut, one piece after another.
use Prim.Native.Nat.{ℕ, ◌<◌}
use mathlib.Core.Path.{◌≡◌, refl, ap, sym, subst, ◌∙◌}
use mathlib.Core.List.{List, [], ◌++◌}
use mathlib.Core.Option.{none, some}
use mathlib.Core.Bool.{Bool, true, false}
use native.Mathlib.Omega.{arith}
use lib.ListN.{length, get_or}
use Rattle.types.specs.Numbers.{Shard, Height}
use Rattle.types.specs.Shards.{left_of, right_of}
use Rattle.types.specs.declared.Answer.TheVariants.{NoRecord, NoBoundary, NoRoom}
use Rattle.types.specs.declared.Outcome.{Outcome}
use Rattle.rules.specs.Lists.{◌and◌, every}
use Rattle.rules.specs.Table.{Table, at, stands, remove, keys_of}
use Rattle.rules.specs.Board.{split, Reshape, Board, on_reshapes}
use Rattle.rules.specs.WellFormed.{is_word, well_formed}
use Rattle.rules.specs.Moves.{bounds_stand, height_of}
use Rattle.rules.specs.Turns.{finished, refused, checked, batch}
use Rattle.rules.specs.Cut.{recast, fits, cut_faults, settle_child, cut_split_of, cut_split, cut_splits, due}
use Rattle.rules.proofs.Turns.{Finishes, reshape_finishes}
use Rattle.rules.proofs.KeptBoard.{family, Fit, Good, good_of_lem, fit_at}
use Rattle.rules.proofs.KeptCut.{fresh_left, fresh_right, Settling, good_settle_child, cut_split_finishes}
use Rattle.tables.specs.Rows.{remove_at}
use Rattle.tables.proofs.Keys.{at_is, remove_is_remove_at}
use Rattle.board.specs.Held.{Holds, no_reshape}
use Rattle.board.proofs.Fitting.{held_as}
use Rattle.board.proofs.Keyed.{reshapes_rise}
use Rattle.sampling.specs.declared.Reader.{Reader}
use Rattle.pool.specs.Told.{Finished}
use Rattle.steps.specs.Inner.{Step}
use Rattle.batches.specs.Targets.{targets_of}
use Rattle.batches.specs.declared.Which.TheVariants.{SplitsDue}
use Rattle.recasting.specs.Recast.{recast_tables}
use Rattle.recasting.proofs.Families.{recast_is, tables_reshapes, tables_good}
use Rattle.arriving.specs.Coming.{reshape_in}
use Rattle.cut_splits.specs.Settled.{cut_board}
use Rattle.reshapes.specs.declared.Side.{Side}
use Rattle.reshapes.specs.Changes.{half_of}
use Rattle.cut_splits.proofs.Children.{child_elsewhere, child_reshapes}

-- ---- what a turn keeps

pub turn_finishes : (t : Shard) (draws : List ℕ) (b : Board) → Good b → Finishes Good (cut_split t draws b)
unfolding cut_split
turn_finishes t draws b g = reshape_finishes Good t _ draws b g (λ r e. cut_split_finishes t r draws b (fit_at g t r e) g)

pub as_step : (b : Board) (after : List ℕ) (r : Outcome) → Step (λ c. batch cut_split (due split b) [] b) b after r → Step cut_splits b after r
unfolding cut_splits
as_step b after r s = record { told = s.told; left = s.left }

pub due_are : (b : Board) → targets_of SplitsDue b ≡ due split b
unfolding due
due_are b = refl

-- ---- no split there

module _ (b : Board) (ok : well_formed b ≡ true) (t : Shard) where
  pub nothing_due : at t b.reshapes ≡ none → (after : List ℕ) → Holds after b → (left : Reader) → left.at ≡ 0 → Finished [] after (cut_split t [] b) 0 left
  unfolding cut_split
  nothing_due q after h left z = record { board = b; read = omega (arith, z); turn = rw (q, cut_split, z); holds = h }

  -- ---- the split at row i

  module _ (i : ℕ) (l : i < length b.reshapes) (e : (get_or b.reshapes i no_reshape).key ≡ t) where
    abbrev r : Reshape
    r = reshape_in i b

    here : at t b.reshapes ≡ some r
    here = at_is b.reshapes (reshapes_rise b ok) t i no_reshape l e

    pub fit : Fit t r
    fit = fit_at (good_of_lem b ok) t r here

    turn_is : cut_split t [] b ≡ cut_split_of t r [] b
    unfolding cut_split
    turn_is = rw (here, cut_split)

    pub no_boundary_lem : stands t b.bounds ≡ false → cut_split t [] b ≡ refused NoBoundary
    unfolding cut_split_of cut_faults checked bounds_stand every ◌and◌
    no_boundary_lem n = turn_is ∙ rw n

    module _ (s : stands t b.bounds ≡ true) where
      abbrev known : Bool
      known = every (λ x. stands x b.machines) (r.left ++ (r.right ++ keys_of r.seats))

      pub no_record : known ≡ false → cut_split t [] b ≡ refused NoRecord
      unfolding cut_split_of cut_faults checked bounds_stand every ◌and◌
      no_record n = turn_is ∙ rw (s, n)

      module _ (k : known ≡ true) where
        pub no_room_lem : fits (recast split t (height_of t b) b) ≡ false → cut_split t [] b ≡ refused NoRoom
        unfolding cut_split_of cut_faults checked bounds_stand every ◌and◌
        no_room_lem n = turn_is ∙ rw (s, k, n)

        pub cuts : fits (recast split t (height_of t b) b) ≡ true → cut_split t [] b ≡ finished 1 [] (cut_board t r (height_of t b) b)
        unfolding cut_split_of cut_faults checked bounds_stand every ◌and◌
        cuts y = turn_is ∙ rw (s, k, y)

    -- ---- the board of the cut

    module _ (height : Height) (w : is_word height ≡ true) (f : fits (recast split t height b) ≡ true) where
      abbrev founded : Board
      founded = recast_tables split t height b

      pub founded_good : Good founded
      founded_good = tables_good t height b split fit.target w f (good_of_lem b ok)

      pub founded_reshapes : founded.reshapes ≡ b.reshapes
      founded_reshapes = tables_reshapes t height b split

      cut_is : recast split t height b ≡ on_reshapes (remove t) founded
      cut_is = recast_is t height b split

      pub left_empty : at (left_of t) founded.committees ≡ some []
      left_empty = rw cut_is at (fresh_left t height b)

      abbrev one : Board
      one = settle_child t (left_of t) r.left r.seats founded

      left_filled : Settling founded (left_of t) [] one
      left_filled = let s = family t fit.target in good_settle_child t (left_of t) fit.left fit.seats (omega (arith, s.least)) s.left left_empty founded_good

      pub one_good : Good one
      one_good = left_filled.good

      pub right_empty : at (right_of t) one.committees ≡ some []
      right_empty = left_filled.others (right_of t) (omega arith) ∙ (rw cut_is at (fresh_right t height b))

      pub one_reshapes : one.reshapes ≡ b.reshapes
      one_reshapes = child_reshapes t (left_of t) r.seats r.left founded ∙ founded_reshapes

      abbrev two : Board
      two = settle_child t (right_of t) r.right r.seats one

      two_reshapes : two.reshapes ≡ b.reshapes
      two_reshapes = child_reshapes t (right_of t) r.seats r.right one ∙ one_reshapes

      -- a child filled by the lists of the reshape as it stood before
      pub filled_by : (after : List ℕ) (d : Board) (c : Shard) (side : Side) → d.reshapes ≡ b.reshapes
          → Holds after (settle_child t c (half_of side (reshape_in i d)) (reshape_in i d).seats d) → Holds after (settle_child t c (half_of side r) r.seats d)
      filled_by after d c side q h =
          subst (λ (u : Reshape). Holds after (settle_child t c (half_of side u) u.seats d)) (ap (λ (z : Table Reshape). (get_or z i no_reshape).val) q) h

      pub founded_row : i < length founded.reshapes
      founded_row = rw founded_reshapes l

      pub one_row : i < length one.reshapes
      one_row = rw one_reshapes l

      pub two_row : i < length two.reshapes
      two_row = rw two_reshapes l

      pub row_closed : (after : List ℕ) → Holds after (on_reshapes (λ z. remove_at z i) two) → Holds after (cut_board t r height b)
      row_closed after h =
          let closed : remove_at two.reshapes i ≡ remove t two.reshapes = rw two_reshapes (sym (remove_is_remove_at b.reshapes (reshapes_rise b ok) t i no_reshape l e)) in
          let left : settle_child t (left_of t) r.left r.seats (recast split t height b) ≡ on_reshapes (remove t) one =
          ap (settle_child t (left_of t) r.left r.seats) cut_is ∙ child_elsewhere t (left_of t) r.seats (remove t) r.left founded in
          held_as after _ _
          (ap (λ (z : Table Reshape). on_reshapes (λ _. z) two) closed
          ∙ sym (ap (settle_child t (right_of t) r.right r.seats) left ∙ child_elsewhere t (right_of t) r.seats (remove t) r.right one)) h
