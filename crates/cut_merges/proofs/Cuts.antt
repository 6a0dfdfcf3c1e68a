-- A shard's turn: its faults in order, and the board of the cut, one piece after another.
use Prim.Native.Nat.{ℕ, ◌≤◌, ◌<◌}
use mathlib.Core.Path.{◌≡◌, refl, ap, sym, subst, ◌∙◌}
use mathlib.Core.List.{List, [], ◌∷◌, ◌++◌}
use mathlib.Core.Option.{none, some}
use mathlib.Core.Bool.{Bool, true, false}
use native.Mathlib.Omega.{arith}
use borrow.Author.Tests.{le-leb, lt-leb}
use lib.ListN.{length, get_or}
use Rattle.types.specs.Numbers.{Shard, Id, Height}
use Rattle.types.specs.Shards.{left_of, right_of}
use Rattle.types.specs.Places.{pooled}
use Rattle.types.specs.declared.Answer.TheVariants.{NoRecord, NoBoundary, NoRoom}
use Rattle.types.specs.declared.Outcome.{Outcome}
use Rattle.rules.specs.Lists.{◌and◌, every}
use Rattle.rules.specs.Table.{Table, at, stands, remove, keys_of}
use Rattle.rules.specs.Board.{merge, Seat, Reshape, Board, on_reshapes}
use Rattle.rules.specs.WellFormed.{is_word, well_formed}
use Rattle.rules.specs.Moves.{members_of, place, for_all, bounds_stand, height_of}
use Rattle.rules.specs.Turns.{finished, refused, checked, batch}
use Rattle.rules.specs.Cut.{recast, fits, cut_faults, due, others, rejoin, larger, cut_merge_of, cut_merge, cut_merges}
use Rattle.rules.proofs.Turns.{for_all_keeps, Finishes, reshape_finishes}
use Rattle.rules.proofs.KeptBoard.{Fit, Good, good_of_lem, fit_at}
use Rattle.rules.proofs.KeptCut.{fresh_parent, cut_merge_finishes}
use Rattle.tables.specs.Rows.{remove_at}
use Rattle.tables.proofs.Keys.{at_is, remove_is_remove_at}
use Rattle.board.specs.Held.{Holds, no_reshape}
use Rattle.board.proofs.Fitting.{held_as}
use Rattle.board.proofs.Keyed.{reshapes_rise}
use Rattle.sampling.specs.declared.Reader.{Reader}
use Rattle.pool.specs.Told.{Finished}
use Rattle.steps.specs.Inner.{Step}
use Rattle.batches.specs.Targets.{targets_of}
use Rattle.batches.specs.declared.Which.TheVariants.{MergesDue}
use Rattle.recasting.specs.Recast.{recast_tables}
use Rattle.recasting.proofs.Families.{recast_is, tables_reshapes, tables_good}
use Rattle.arriving.specs.Coming.{reshape_in}
use Rattle.arriving.proofs.Lists.{for_all_append}
use Rattle.cut_merges.specs.Merged.{pooled_unless, cut_board}
use Rattle.cut_merges.proofs.Drains.{only_others, Beside, beside_start, beside_all}
use Rattle.cut_merges.proofs.Rejoins.{all_reshapes, all_elsewhere}

-- ---- what a turn keeps

pub turn_finishes : (t : Shard) (draws : List ℕ) (b : Board) → Good b → Finishes Good (cut_merge t draws b)
unfolding cut_merge
turn_finishes t draws b g = reshape_finishes Good t _ draws b g (λ r e. cut_merge_finishes t r draws b (fit_at g t r e) g)

pub as_step : (b : Board) (after : List ℕ) (r : Outcome) → Step (λ c. batch cut_merge (due merge b) [] b) b after r → Step cut_merges b after r
unfolding cut_merges
as_step b after r s = record { told = s.told; left = s.left }

pub due_are : (b : Board) → targets_of MergesDue b ≡ due merge b
unfolding due
due_are b = refl

-- ---- the larger height, as the code asks it

module _ (m n : Height) where
  pub second_larger : m ≤ n → n ≡ larger m n
  second_larger l = rw (le-leb m n l)

  pub first_larger : n < m → m ≡ larger m n
  first_larger l = rw (lt-leb m n l)

-- ---- pooling and the family's tables do not meet

recast_place : (t : Shard) (height : Height) (x : Id) (b : Board) → recast merge t height (place x pooled b) ≡ place x pooled (recast merge t height b)
unfolding recast place for_all
recast_place t height x b = refl

pool_then_recast : (t : Shard) (height : Height) (l : List Id) (b : Board)
    → recast merge t height (for_all (λ x. place x pooled) l b) ≡ for_all (λ x. place x pooled) l (recast merge t height b)
unfolding for_all
pool_then_recast t height [] b = refl
pool_then_recast t height (x ∷ l) b = pool_then_recast t height l (place x pooled b) ∙ ap (for_all (λ x. place x pooled) l) (recast_place t height x b)

pool_fits : (l : List Id) (b : Board) → fits (for_all (λ x. place x pooled) l b) ≡ fits b
unfolding fits place
pool_fits l b = for_all_keeps (λ (d : Board). fits d ≡ fits b) (λ x. place x pooled) (λ x d e. e) l b refl

-- ---- no merge there

module _ (b : Board) (ok : well_formed b ≡ true) (t : Shard) where
  pub nothing_due : at t b.reshapes ≡ none → (after : List ℕ) → Holds after b → (left : Reader) → left.at ≡ 0 → Finished [] after (cut_merge t [] b) 0 left
  unfolding cut_merge
  nothing_due q after h left z = record { board = b; read = omega (arith, z); turn = rw (q, cut_merge, z); holds = h }

  -- ---- the merge at row i

  module _ (i : ℕ) (l : i < length b.reshapes) (e : (get_or b.reshapes i no_reshape).key ≡ t) where
    abbrev r : Reshape
    r = reshape_in i b

    abbrev high : Height
    high = larger (height_of (left_of t) b) (height_of (right_of t) b)

    here : at t b.reshapes ≡ some r
    here = at_is b.reshapes (reshapes_rise b ok) t i no_reshape l e

    pub fit : Fit t r
    fit = fit_at (good_of_lem b ok) t r here

    turn_is : cut_merge t [] b ≡ cut_merge_of t r [] b
    unfolding cut_merge
    turn_is = rw (here, cut_merge)

    pub no_left : stands (left_of t) b.bounds ≡ false → cut_merge t [] b ≡ refused NoBoundary
    unfolding cut_merge_of cut_faults checked bounds_stand every ◌and◌
    no_left n = turn_is ∙ rw n

    module _ (s : stands (left_of t) b.bounds ≡ true) where
      pub no_right : stands (right_of t) b.bounds ≡ false → cut_merge t [] b ≡ refused NoBoundary
      unfolding cut_merge_of cut_faults checked bounds_stand every ◌and◌
      no_right n = turn_is ∙ rw (s, n)

      module _ (q : stands (right_of t) b.bounds ≡ true) where
        abbrev known : Bool
        known = every (λ x. stands x b.machines) (keys_of r.seats)

        pub no_record : known ≡ false → cut_merge t [] b ≡ refused NoRecord
        unfolding cut_merge_of cut_faults checked bounds_stand every ◌and◌
        no_record n = turn_is ∙ rw (s, q, n)

        module _ (k : known ≡ true) where
          pub no_room_lem : fits (recast merge t high b) ≡ false → cut_merge t [] b ≡ refused NoRoom
          unfolding cut_merge_of cut_faults checked bounds_stand every ◌and◌
          no_room_lem n = turn_is ∙ rw (s, q, k, n)

          pub cuts : fits (recast merge t high b) ≡ true → cut_merge t [] b ≡ finished 1 [] (cut_board t r high b)
          unfolding cut_merge_of cut_faults checked bounds_stand every ◌and◌
          cuts y = turn_is ∙ rw (s, q, k, y)

    -- ---- the members who are no keepers

    abbrev one : Board
    one = for_all (pooled_unless r.seats) (members_of (left_of t) b) b

    abbrev both : Board
    both = for_all (pooled_unless r.seats) (members_of (right_of t) b) one

    pub one_beside : Beside b one
    one_beside = beside_all r.seats (members_of (left_of t) b) b b (beside_start b (good_of_lem b ok))

    pub both_beside : Beside b both
    both_beside = beside_all r.seats (members_of (right_of t) b) b one one_beside

    both_is : both ≡ for_all (λ x. place x pooled) (others t r.seats b) b
    unfolding others
    both_is = sym (for_all_append (pooled_unless r.seats) (members_of (left_of t) b) (members_of (right_of t) b) b) ∙ only_others r.seats (members_of (left_of t) b ++ members_of (right_of t) b) b

    pub one_row : i < length one.reshapes
    one_row = rw one_beside.reshapes l

    -- as the code read them: the other child's members, after the first child's are pooled
    pub both_held : (child : Shard) → child ≡ right_of t → (after : List ℕ) → Holds after (for_all (pooled_unless (reshape_in i one).seats) (members_of child one) one) → Holds after both
    unfolding members_of
    both_held child is after h =
        let seats : (reshape_in i one).seats ≡ r.seats = ap (λ (z : Table Reshape). (get_or z i no_reshape).val.seats) one_beside.reshapes in
        let members : members_of (right_of t) one ≡ members_of (right_of t) b = rw (members_of, one_beside.committees) in
        held_as after _ _ (ap (λ (z : Shard). for_all (pooled_unless (reshape_in i one).seats) (members_of z one) one) is ∙ ap (λ (z : Table Seat). for_all (pooled_unless z) (members_of (right_of t) one) one) seats ∙ ap (λ (z : List Id). for_all (pooled_unless r.seats) z one) members) h

    -- ---- the board of the cut

    module _ (height : Height) (w : is_word height ≡ true) (f : fits (recast merge t height b) ≡ true) where
      abbrev founded : Board
      founded = recast_tables merge t height both

      pub both_fits : fits (recast merge t height both) ≡ true
      both_fits = ap (λ (d : Board). fits (recast merge t height d)) both_is ∙ ap fits (pool_then_recast t height (others t r.seats b) b) ∙ pool_fits (others t r.seats b) (recast merge t height b) ∙ f

      pub founded_good : Good founded
      founded_good = tables_good t height both merge fit.target w both_fits both_beside.good

      founded_reshapes : founded.reshapes ≡ b.reshapes
      founded_reshapes = tables_reshapes t height both merge ∙ both_beside.reshapes

      cut_is : recast merge t height both ≡ on_reshapes (remove t) founded
      cut_is = recast_is t height both merge

      pub parent_empty : at t founded.committees ≡ some []
      parent_empty = rw cut_is at (fresh_parent t height both)

      pub founded_row : i < length founded.reshapes
      founded_row = rw founded_reshapes l

      abbrev all : Board
      all = for_all (rejoin t r.seats) (keys_of r.seats) founded

      pub all_held : (after : List ℕ) → Holds after (for_all (rejoin t (reshape_in i founded).seats) (keys_of (reshape_in i founded).seats) founded) → Holds after all
      all_held after h =
          subst (λ (z : Table Seat). Holds after (for_all (rejoin t z) (keys_of z) founded)) (ap (λ (z : Table Reshape). (get_or z i no_reshape).val.seats) founded_reshapes) h

      same_rows : all.reshapes ≡ b.reshapes
      same_rows = all_reshapes t r.seats (keys_of r.seats) founded ∙ founded_reshapes

      pub all_row : i < length all.reshapes
      all_row = rw same_rows l

      pub row_closed : (after : List ℕ) → Holds after (on_reshapes (λ z. remove_at z i) all) → Holds after (cut_board t r height b)
      row_closed after h =
          let closed : remove_at all.reshapes i ≡ remove t all.reshapes = rw same_rows (sym (remove_is_remove_at b.reshapes (reshapes_rise b ok) t i no_reshape l e)) in
          let pooled-first : recast merge t height both ≡ for_all (λ x. place x pooled) (others t r.seats b) (recast merge t height b) =
          ap (recast merge t height) both_is ∙ pool_then_recast t height (others t r.seats b) b in
          held_as after _ _
          (ap (λ (z : Table Reshape). on_reshapes (λ _. z) all) closed
          ∙ sym (all_elsewhere t r.seats (remove t) (keys_of r.seats) founded)
          ∙ ap (for_all (rejoin t r.seats) (keys_of r.seats)) (sym cut_is ∙ pooled-first)) h
