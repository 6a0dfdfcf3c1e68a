-- What the steps ask of a board, as the code has it at a row.
use Prim.Native.Nat.{ℕ, ◌+◌, ◌≤◌, ◌<◌}
use mathlib.Core.Path.{◌≡◌, refl, ap, sym, ◌∙◌}
use mathlib.Core.List.{List}
use mathlib.Core.Bool.{Bool, true, false, not}
use native.Mathlib.Numerals.{add-one}
use lib.Dec.{eqb}
use lib.ListN.{length, get_or, drop, drop_of_length-le}
use lib.Seq.{drop-cons}
use Rattle.types.specs.Numbers.{Shard}
use Rattle.types.specs.Places.{is_ready}
use Rattle.rules.specs.Lists.{◌and◌, bit_of, count}
use Rattle.rules.specs.Board.{Rotation, split, merge, Board}
use Rattle.rules.specs.WellFormed.{well_formed}
use Rattle.rules.specs.Moves.{says, is_kind, reshape_at}
use Rattle.rules.proofs.KeptTables.{holds_at_lem}
use Rattle.tables.proofs.Keys.{at_is}
use Rattle.board.specs.Held.{no_reshape}
use Rattle.board.proofs.Keyed.{reshapes_rise}
use Rattle.moves.proofs.Exiting.{kind_split}
use Rattle.committee.specs.Counted.{counts}
use Rattle.committee.specs.declared.reads.Counted.{Counted}
use Rattle.committee.specs.declared.reads.Counted.TheVariants.{Open, InFlight}

-- ---- a reshape

module _ (b : Board) (ok : well_formed b ≡ true) where
  pub splits_at : (s : Shard) (i : ℕ) → i < length b.reshapes → (get_or b.reshapes i no_reshape).key ≡ s → not (is_kind merge (get_or b.reshapes i no_reshape).val) ≡ reshape_at split s b
  splits_at s i l e = kind_split false _ refl ∙ sym (holds_at_lem s (is_kind split) b.reshapes _ (at_is b.reshapes (reshapes_rise b ok) s i no_reshape l e))

-- ---- rotations that are counted

module _ (s : Shard) (b : Board) (r : Rotation) where
  pub counts_elsewhere : (which : Counted) → eqb r.shard s ≡ false → false ≡ counts which s b r
  unfolding ◌and◌
  counts_elsewhere Open n = sym n
  counts_elsewhere InFlight n = rw n

  pub counts_open : (which : Counted) → which ≡ Open → eqb r.shard s ≡ true → true ≡ counts which s b r
  counts_open which w e = rw w (sym e)

  pub counts_in_flight : (which : Counted) → which ≡ InFlight → eqb r.shard s ≡ true → (c : Bool) → c ≡ says is_ready b r.entrant → not c ≡ counts which s b r
  unfolding ◌and◌
  counts_in_flight which w e c q = rw (w, e, q)

-- ---- how many of a list from row i on, as a loop goes

module _ {A : Type 0} (f : A → Bool) (l : List A) (i : ℕ) where
  pub count_next : (d : A) → i < length l → count f (drop i l) ≡ bit_of (f (get_or l i d)) + count f (drop (i + 1) l)
  unfolding count
  count_next d h = rw (add-one i) (ap (count f) (drop-cons l i d h))

  pub count_none : length l ≤ i → count f (drop i l) ≡ 0
  unfolding count
  count_none h = ap (count f) (drop_of_length-le l h)
