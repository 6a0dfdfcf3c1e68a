-- The tables of a family, one shard after another: each board on the way is good, and the words hold it.
use Prim.Native.Nat.{ℕ, ◌≤◌, ◌<◌}
use mathlib.Core.Path.{◌≡◌, refl, ap, sym}
use mathlib.Core.List.{List, []}
use mathlib.Core.Option.{none}
use mathlib.Core.Bool.{true}
use native.Mathlib.Omega.{arith}
use lib.ListN.{length, get_or, set}
use Rattle.types.specs.Numbers.{Shard, Id, Height}
use Rattle.types.specs.Shards.{left_of, right_of}
use Rattle.rules.specs.Table.{Entry, entry, Table, at, put, remove}
use Rattle.rules.specs.Board.{Boundary, Kind, split, merge, Board, most_committees, most_bounds, on_committees, on_bounds, on_reshapes, epoch_of}
use Rattle.rules.specs.WellFormed.{is_shard, is_target, is_word, well_formed}
use Rattle.rules.specs.Moves.{for_all, new_boundary, drop_rotations}
use Rattle.rules.specs.Cut.{end_shard, begin_shard, recast, fits}
use Rattle.rules.proofs.Tests.{and_parts, and_joins, le_of, of_le}
use Rattle.rules.proofs.Tables.{From, From-put, From-remove}
use Rattle.rules.proofs.KeptTables.{Rows-within, Rows-put, Rows-remove}
use Rattle.rules.proofs.KeptRotations.{Rota-drop_rotations}
use Rattle.rules.proofs.KeptBoard.{Good, on_committees_lem, on_bounds_lem, on_rotations_lem}
use Rattle.rules.proofs.KeptCut.{new_committee, new_bound, good_recast}
use Rattle.tables.specs.Rows.{place_of, key_of, insert_at, remove_at}
use Rattle.tables.proofs.Keys.{first_most, remove_none, remove_is_remove_at, put_is_set, put_is_insert_at}
use Rattle.board.specs.Held.{Holds, no_committee, no_boundary}
use Rattle.board.specs.Leaves.{change_at}
use Rattle.board.proofs.Fitting.{held_as}
use Rattle.board.proofs.Keyed.{put_is_change, committees_rise, bounds_rise}
use Rattle.recasting.proofs.Sizes.{put_length, lack_none}
use Rattle.recasting.specs.Recast.{recast_tables}

-- a row more has room, at its place
pub more_room : {A : Type 0} {most : ℕ} (s : ℕ) (v : A) (t : Table A) → From 0 t → at s t ≡ none → length (put s v t) ≤ most → length t < most
more_room s v t r n m = omega (arith, m, put_length s t r v, lack_none s t n)

pub place_most : {A : Type 0} (s : ℕ) (t : Table A) → place_of key_of s t ≤ length t
place_most s t = first_most _ t

-- ---- one shard, at the row that was found

module _ (b : Board) (ok : well_formed b ≡ true) (after : List ℕ) (s : Shard) where
  abbrev cs : Table (List Id)
  cs = b.committees

  abbrev vs : Table Boundary
  vs = b.bounds

  pub none_closed : at s cs ≡ none → Holds after b → Holds after (on_committees (remove s) b)
  none_closed n h = held_as after _ _ (ap (λ (t : Table (List Id)). on_committees (λ _. t) b) (sym (remove_none s cs n))) h

  pub one_opened : at s cs ≡ none → (k : ℕ) → k ≡ place_of key_of s cs → Holds after (on_committees (λ t. insert_at t k (entry s [])) b) → Holds after (on_committees (put s []) b)
  one_opened n k e h = held_as after _ _ (ap (λ (t : Table (List Id)). on_committees (λ _. t) b) (rw e (sym (put_is_insert_at cs (committees_rise b ok) s [] n)))) h

  module _ (j : ℕ) (l : j < length cs) (k : (get_or cs j no_committee).key ≡ s) where
    pub one_closed : Holds after (on_committees (λ t. remove_at t j) b) → Holds after (on_committees (remove s) b)
    one_closed h = held_as after _ _ (ap (λ (t : Table (List Id)). on_committees (λ _. t) b) (sym (remove_is_remove_at cs (committees_rise b ok) s j no_committee l k))) h

    pub one_emptied : Holds after (on_committees (change_at no_committee j (λ l. [])) b) → Holds after (on_committees (put s []) b)
    one_emptied h = held_as after _ _ (ap (λ (t : Table (List Id)). on_committees (λ _. t) b) (sym (put_is_change cs (committees_rise b ok) s j no_committee l k []))) h

  module _ (v : Boundary) where
    pub one_renewed : (i : ℕ) → i < length vs → (get_or vs i no_boundary).key ≡ s → Holds after (on_bounds (λ t. set t i (entry s v)) b) → Holds after (on_bounds (put s v) b)
    one_renewed i l k h = held_as after _ _ (ap (λ (t : Table Boundary). on_bounds (λ _. t) b) (sym (put_is_set vs (bounds_rise b ok) s i no_boundary l k v))) h

    pub bound_opened : at s vs ≡ none → (k : ℕ) → k ≡ place_of key_of s vs → Holds after (on_bounds (λ t. insert_at t k (entry s v)) b) → Holds after (on_bounds (put s v) b)
    bound_opened n k e h = held_as after _ _ (ap (λ (t : Table Boundary). on_bounds (λ _. t) b) (rw e (sym (put_is_insert_at vs (bounds_rise b ok) s v n)))) h

-- ---- boards on the way

pub good_closed : {b : Board} (s : Shard) → Good b → Good (on_committees (remove s) b)
good_closed s h = on_committees_lem h (remove s) (Rows-remove s h.committees)

pub good_end : {b : Board} (s : Shard) → Good b → Good (end_shard s b)
good_end s h = let g = good_closed s h in on_rotations_lem g (drop_rotations s) (Rota-drop_rotations s g.rotations)

module _ {b : Board} (h : Good b) (s : Shard) where
  pub good_emptied : is_shard s ≡ true → length (put s [] b.committees) ≤ most_committees → Good (on_committees (put s []) b)
  good_emptied ok l = on_committees_lem h (put s []) (Rows-within l (Rows-put s [] (new_committee s ok) h.committees))

  module _ (height : Height) (f : fits (begin_shard height s b) ≡ true) where
    pub committees_fit_lem : length (put s [] b.committees) ≤ most_committees
    unfolding fits
    committees_fit_lem = le_of _ _ (and_parts _ _ f).0

    pub bounds_fit : length (put s (new_boundary height (epoch_of b)) b.bounds) ≤ most_bounds
    unfolding fits
    bounds_fit = le_of _ _ (and_parts _ _ f).1

    pub good_begin : is_shard s ≡ true → is_word height ≡ true → Good (begin_shard height s b)
    good_begin ok w =
        on_bounds_lem (good_emptied ok committees_fit_lem) (put s (new_boundary height (epoch_of b))) (Rows-within bounds_fit (Rows-put s _ (new_bound h s height ok w) h.bounds))

-- ---- a split's family: the last board has room, so the one before it has

module _ (t : Shard) (height : Height) (b : Board) (h : Good b) (f : fits (recast split t height b) ≡ true) where
  abbrev one_begun : Board
  one_begun = begin_shard height (left_of t) (end_shard t b)

  pub right_fits : fits (begin_shard height (right_of t) one_begun) ≡ true
  unfolding recast for_all fits
  right_fits = f

  pub left_fits : fits one_begun ≡ true
  unfolding fits
  left_fits =
      let p = and_parts _ _ right_fits in
      let v = new_boundary height (epoch_of b) in
      let c = From-put (left_of t) [] 0 (remove t b.committees) (omega arith) (From-remove t 0 b.committees h.committees.rising) in
      let d = From-put (left_of t) v 0 b.bounds (omega arith) h.bounds.rising in
      and_joins _ _ (of_le (length one_begun.committees) most_committees (omega (arith, le_of (length (put (right_of t) [] one_begun.committees)) most_committees p.0, put_length (right_of t) one_begun.committees c [])))
      (of_le (length one_begun.bounds) most_bounds (omega (arith, le_of (length (put (right_of t) v one_begun.bounds)) most_bounds p.1, put_length (right_of t) one_begun.bounds d v)))

  pub split_whole : (after : List ℕ) → Holds after (begin_shard height (right_of t) one_begun) → Holds after (recast_tables split t height b)
  unfolding recast_tables for_all
  split_whole after k = k

-- ---- a merge's family

module _ (t : Shard) (height : Height) (b : Board) (f : fits (recast merge t height b) ≡ true) where
  abbrev pub both_ended : Board
  both_ended = end_shard (right_of t) (end_shard (left_of t) b)

  pub parent_fits : fits (begin_shard height t both_ended) ≡ true
  unfolding recast for_all fits
  parent_fits = f

  pub merge_whole : (after : List ℕ) → Holds after (begin_shard height t both_ended) → Holds after (recast_tables merge t height b)
  unfolding recast_tables for_all
  merge_whole after k = k

-- ---- either: the reshape's row may go first or last

module _ (t : Shard) (height : Height) (b : Board) where
  pub recast_is : (k : Kind) → recast k t height b ≡ on_reshapes (remove t) (recast_tables k t height b)
  unfolding recast recast_tables for_all
  recast_is split = refl
  recast_is merge = refl

  pub tables_reshapes : (k : Kind) → (recast_tables k t height b).reshapes ≡ b.reshapes
  unfolding recast_tables for_all
  tables_reshapes split = refl
  tables_reshapes merge = refl

  -- and the tables alone are good
  pub tables_good : (k : Kind) → is_target t ≡ true → is_word height ≡ true → fits (recast k t height b) ≡ true → Good b → Good (recast_tables k t height b)
  tables_good k ok w f h =
      let g = rw (recast_is k) at (good_recast k t height b ok w f h) in
      record {
        settings = g.settings;
        machines = g.machines;
        committees = g.committees;
        bounds = g.bounds;
        rotations = g.rotations;
        reshapes = rw (tables_reshapes k) h.reshapes;
      }
