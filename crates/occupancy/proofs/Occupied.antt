-- What a committee, a machine and a cohort are asked, as the code has it at a row.
use Prim.Native.Nat.{ℕ, ◌<◌}
use mathlib.Core.Path.{◌≡◌, refl, sym, ◌∙◌}
use mathlib.Core.Bool.{Bool, true, false, ◌||◌}
use mathlib.Core.Option.{none}
use lib.ListN.{length, get_or}
use Rattle.types.specs.Numbers.{Shard, Id}
use Rattle.types.specs.Places.{is_seated_on, observes}
use Rattle.types.specs.declared.ShardId.{ShardId}
use Rattle.types.specs.declared.Epoch.{Epoch}
use Rattle.types.specs.declared.Place.{Place}
use Rattle.types.specs.declared.Place.TheVariants.{Pooled, Seated, Observing, Short, Other}
use Rattle.rules.specs.Lists.{◌and◌, ◌or◌, every, any, has}
use Rattle.rules.specs.Table.{Entry, at, stands, keys_of}
use Rattle.rules.specs.Board.{split, merge, Reshape, Board}
use Rattle.rules.specs.WellFormed.{well_formed}
use Rattle.rules.specs.Moves.{says, members_of, is_kind}
use Rattle.rules.specs.SeatCheck.{has_cohort_seat, is_listed}
use Rattle.rules.proofs.KeptTables.{holds_at_lem}
use Rattle.tables.proofs.Bools.{or_is}
use Rattle.tables.proofs.Keys.{at_is}
use Rattle.board.specs.Held.{no_committee, no_reshape}
use Rattle.board.proofs.Keyed.{committees_rise, reshapes_rise}
use Rattle.rows.proofs.Asked.{holds_none}
use Rattle.moves.proofs.Exiting.{split_unless}
use Rattle.occupancy.specs.Rows.{is_here, cohort_watches}

-- ---- a place that was looked up by id

module _ (b : Board) (x y : Id) (p : Place) (said : (f : Place → Bool) → f Short ≡ false → f p ≡ says f b x) (s t : Shard) (e : x ≡ y) (q : s ≡ t) where
  pub says_here : (c d : Bool) → c ≡ is_seated_on s p → d ≡ observes s p → (c || d) ≡ says (is_here t) b y
  unfolding ◌or◌
  says_here c d i j = rw (i, j, ← e, ← q) (or_is (is_seated_on s p) (observes s p) ∙ said (is_here s) refl)

  pub says_watches : (c : Bool) → c ≡ observes s p → c ≡ says (observes t) b y
  says_watches c i = rw (i, ← e, ← q) (said (observes s) refl)

-- ---- a member, asked at the committee's row

module _ (s : Shard) (b : Board) (ok : well_formed b ≡ true) where
  pub no_committee_lem : (x : Id) → at s b.committees ≡ none → false ≡ has x (members_of s b)
  unfolding members_of has any
  no_committee_lem x m = rw (members_of, m)

  pub members_there : (j : ℕ) → (j < length b.committees) × ((get_or b.committees j no_committee).key ≡ s) → (get_or b.committees j no_committee).val ≡ members_of s b
  unfolding members_of
  members_there j f = rw (members_of, at_is b.committees (committees_rise b ok) s j no_committee f.0 f.1)

-- ---- a seat, asked at the reshape's row

module _ (s : Shard) (x : Id) (b : Board) (ok : well_formed b ≡ true) where
  pub no_reshape_lem : at s b.reshapes ≡ none → false ≡ has_cohort_seat s x b
  unfolding has_cohort_seat
  no_reshape_lem m = sym (holds_none s _ b.reshapes m)

  module _ (i : ℕ) (f : (i < length b.reshapes) × ((get_or b.reshapes i no_reshape).key ≡ s)) where
    abbrev here : Reshape
    here = (get_or b.reshapes i no_reshape).val

    asked : has_cohort_seat s x b ≡ (is_kind split here and stands x here.seats)
    unfolding has_cohort_seat
    asked = holds_at_lem s _ b.reshapes _ (at_is b.reshapes (reshapes_rise b ok) s i no_reshape f.0 f.1)

    pub merge_there : is_kind merge here ≡ true → false ≡ has_cohort_seat s x b
    unfolding ◌and◌
    merge_there e = sym (asked ∙ rw (split_unless here true e))

    pub split_there : is_kind merge here ≡ false → stands x here.seats ≡ has_cohort_seat s x b
    unfolding ◌and◌
    split_there e = sym (asked ∙ rw (split_unless here false e))

-- ---- a cohort, by the kind of the reshape

module _ (b : Board) (e : Entry Reshape) where
  pub merge_watches : is_kind merge e.val ≡ true → true ≡ cohort_watches b e
  unfolding ◌or◌
  merge_watches m = rw (split_unless e.val true m)

  pub split_watches : is_kind merge e.val ≡ false → cohort_watches b e ≡ every (says (observes e.key) b) (keys_of e.val.seats)
  unfolding ◌or◌
  split_watches m = rw (split_unless e.val false m)

-- ---- a machine, by its place

module _ (b : Board) (x : Id) (p : Place) where
  pub pooled_listed : p ≡ Pooled → true ≡ is_listed b x p
  unfolding is_listed
  pooled_listed e = rw e

  pub seat_listed : (s : ShardId) (r : Bool) (w : Epoch) → p ≡ Seated s r w → has x (members_of s.0 b) ≡ is_listed b x p
  unfolding is_listed
  seat_listed s r w e = rw e

  pub watch_listed : (s : ShardId) (w : Epoch) → p ≡ Observing s w → (has x (members_of s.0 b) and has_cohort_seat s.0 x b) ≡ is_listed b x p
  unfolding is_listed
  watch_listed s w e = rw e

  pub short_listed : p ≡ Short → true ≡ is_listed b x p
  unfolding is_listed
  short_listed e = rw e

  pub other_listed : (m : ℕ) → p ≡ Other m → true ≡ is_listed b x p
  unfolding is_listed
  other_listed m e = rw e
