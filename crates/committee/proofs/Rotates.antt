-- Rotate, as the code has it: the gate, the row of a new rotation, the turn, and each way out.
use Prim.Native.Nat.{ℕ, suc, ◌-◌, ◌%◌, ◌≤◌}
use mathlib.Core.Path.{◌≡◌, refl, ap, sym, ◌∙◌}
use mathlib.Core.List.{List, [], ◌∷◌}
use mathlib.Core.Option.{none}
use mathlib.Core.Bool.{Bool, true, false, cond, not, true≢false}
use native.Mathlib.Omega.{arith}
use borrow.Author.Tests.{lt-leb, le-leb, ltb-true, ltb-false}
use Rattle.shards.specs.Rotations.{found_where}
use lib.Dec.{eqb, leb, ltb}
use lib.ListN.{length}
use Rattle.types.specs.Numbers.{Shard, Id}
use Rattle.types.specs.Places.{is_seated_on, drawn_to}
use Rattle.types.specs.declared.Place.{Place}
use Rattle.types.specs.declared.Answer.TheVariants.{Done, OutOfRange, VictimUnfit}
use Rattle.types.specs.declared.Outcome.{Outcome}
use Rattle.rules.specs.Lists.{◌and◌, ◌or◌, count, any}
use Rattle.rules.specs.Table.{is_some, at, stands}
use Rattle.rules.specs.Board.{Rotation, split, Board, most_rotations, on_rotations, epoch_of}
use Rattle.rules.specs.WellFormed.{is_shard, rotation_before, good_settings, well_formed}
use Rattle.rules.specs.Moves.{says, place, join, put_on, has_party, is_party, open_rotation, reshape_at}
use Rattle.rules.specs.Turns.{refused, checked, alone, pool_draw}
use Rattle.rules.specs.Places.{in_flight, may_rotate, victim_fit, new_rotation, rotate_turn, rotate}
use Rattle.rules.proofs.Tests.{and_parts, all_parts, le_of, of_le, lt_of_no}
use Rattle.rules.proofs.KeptBoard.{good_of_lem}
use Rattle.tables.specs.Rows.{first_where, insert_at}
use Rattle.tables.proofs.Keys.{first_most, open_is_insert_at}
use Rattle.rows.specs.Finds.{FoundAt}
use Rattle.rows.proofs.Asked.{finds_stands}
use Rattle.board.specs.Held.{Holds, no_committee}
use Rattle.board.proofs.Keyed.{committees_rise}
use Rattle.steps.specs.Inner.{outcome, Step}
use Rattle.std.specs.Prelude.{Result, Option, None, Some}
use Rattle.std.specs.Option as option
use Rattle.types.specs.declared.Answer.{Answer}
use Rattle.pool.specs.declared.Turn.{Turn}
use Rattle.pool.specs.Told.{TurnTells, turn_told}
use Rattle.pool.proofs.Alone.{turn_alone, turn_leaves}
use Rattle.committee.specs.Counted.{counts}
use Rattle.committee.specs.declared.reads.Counted.TheVariants.{InFlight}
use Rattle.committee.specs.Opened.{Goes, opened}

-- ---- the gate

pub interval_some : (b : Board) → well_formed b ≡ true → 1 ≤ b.settings.interval
unfolding good_settings
interval_some b ok = let p = all_parts _ (good_of_lem b ok).settings in le_of _ _ (and_parts _ _ p.1.1.1.1.0).0

module _ (s : Shard) (b : Board) where
  abbrev nonzero : Bool
  nonzero = not (eqb (epoch_of b) 0)

  abbrev multiple : Bool
  multiple = eqb (epoch_of b % b.settings.interval) 0

  pub gate_interval : (nonzero and multiple) ≡ false → false ≡ may_rotate s b
  unfolding may_rotate ◌and◌
  gate_interval n = go nonzero multiple _ n
    where
      go : (a c d : Bool) → (a and c) ≡ false → false ≡ (a and c and d)
      go true true d e = absurd (true≢false e)
      go true false d e = refl
      go false c d e = refl

  module _ (y : (nonzero and multiple) ≡ true) where
    pub gate_committee : at s b.committees ≡ none → false ≡ may_rotate s b
    unfolding may_rotate ◌and◌ stands is_some
    gate_committee n = let p = and_parts nonzero multiple y in rw (p.0, p.1, n)

    module _ (c : stands s b.committees ≡ true) where
      pub gate_split : reshape_at split s b ≡ true → false ≡ may_rotate s b
      unfolding may_rotate ◌and◌
      gate_split n = let p = and_parts nonzero multiple y in rw (p.0, p.1, c, n)

      pub gate_in_flight : reshape_at split s b ≡ false → (k m : ℕ) → k ≡ count (counts InFlight s b) b.rotations → m ≡ b.settings.most → ltb k m ≡ may_rotate s b
      unfolding may_rotate ◌and◌ in_flight
      gate_in_flight n k m ke me = let p = and_parts nonzero multiple y in rw (p.0, p.1, c, n, ke, me)

-- of the committee that was looked for
module _ (s : Shard) (b : Board) (o : Option ℕ) (f : FoundAt s no_committee b.committees o) where
  pub committee_stands : well_formed b ≡ true → option.is_some o ≡ true → stands s b.committees ≡ true
  committee_stands ok e = sym (finds_stands s no_committee b.committees o (committees_rise b ok) f) ∙ e

  pub committee_missing : option.is_some o ≡ false → at s b.committees ≡ none
  committee_missing e = go o f e
    where
      go : (o : Option ℕ) → FoundAt s no_committee b.committees o → option.is_some o ≡ false → at s b.committees ≡ none
      go None g e = g
      go (Some i) g e = absurd (true≢false e)

-- ---- the victim

leb_suc : (m n : ℕ) → leb (suc m) (suc n) ≡ leb m n
leb_suc m n = go (leb m n) refl
  where
    go : (c : Bool) → leb m n ≡ c → leb (suc m) (suc n) ≡ c
    go true u = of_le (suc m) (suc n) (omega (arith, le_of m n u))
    go false u = lt-leb (suc m) (suc n) (omega (arith, lt_of_no m n u))

-- a search goes past the end where none passes
past_all : {A : Type 0} (f : A → Bool) (l : List A) → leb (length l) (first_where f l) ≡ not (any f l)
unfolding first_where any ◌or◌
past_all f [] = refl
past_all f (x ∷ l) = go (f x) (past_all f l)
  where
    go : (c : Bool) → leb (length l) (first_where f l) ≡ not (any f l) → leb (suc (length l)) (cond c 0 (suc (first_where f l))) ≡ not (c or any f l)
    go true e = lt-leb (suc (length l)) 0 (omega arith)
    go false e = leb_suc (length l) (first_where f l) ∙ e

none_found_lem : (f : Rotation → Bool) (l : List Rotation) → option.is_none (found_where f l) ≡ not (any f l)
none_found_lem f l = go (ltb (first_where f l) (length l)) refl
  where
    go : (c : Bool) → ltb (first_where f l) (length l) ≡ c → option.is_none {T = ℕ} (cond c (Some (first_where f l)) None) ≡ not (any f l)
    go true e = sym (lt-leb (length l) (first_where f l) (ltb-true _ _ e)) ∙ past_all f l
    go false e = sym (le-leb (length l) (first_where f l) (ltb-false _ _ e)) ∙ past_all f l

module _ (s : Shard) (v : Id) (b : Board) where
  pub not_seated : says (is_seated_on s) b v ≡ false → false ≡ victim_fit s v b
  unfolding victim_fit ◌and◌
  not_seated n = rw n

  pub seated_fit : says (is_seated_on s) b v ≡ true → (o : Option ℕ) → o ≡ found_where (has_party s v) b.rotations → (c : Bool) → option.is_some o ≡ not c → c ≡ victim_fit s v b
  unfolding victim_fit ◌and◌ is_party
  seated_fit y o e c n = rw y (twice c (option.is_some o) n ∙ ap option.is_none e ∙ none_found_lem (has_party s v) b.rotations)
    where
      twice : (c d : Bool) → d ≡ not c → c ≡ not d
      twice true d n = rw n
      twice false d n = rw n

-- ---- the row of a new rotation, and the board after

module _ (s : Shard) (v : Id) (b : Board) where
  -- where the row is past the room for rows, every row is taken
  pub no_row : (k : ℕ) → ((p : Rotation) → p.shard ≡ s → p.victim ≡ v → k ≡ first_where (rotation_before p) b.rotations) → most_rotations ≤ k → most_rotations ≤ length b.rotations
  no_row k e l = let p : Rotation = new_rotation s v 0 b in omega (arith, e p refl refl, first_most (rotation_before p) b.rotations)

  module _ (k : ℕ) (f : Goes s v b k) (x : Id) where
    pub row_within : k ≤ length b.rotations
    row_within = let p : Rotation = new_rotation s v x b in omega (arith, f.place p refl refl, first_most (rotation_before p) b.rotations)

    pub opened_at : (after : List ℕ) (entrant epoch : ℕ) → entrant ≡ x → epoch ≡ epoch_of b
        → Holds after (on_rotations (λ t. insert_at t k (record { shard = s; victim = v; entrant = entrant; opened = epoch })) (put_on s (drawn_to s (epoch_of b)) x b)) → Holds after (opened s v x b)
    unfolding put_on join place
    opened_at after entrant epoch e o d =
        let p : Rotation = new_rotation s v x b in
        rw (open_is_insert_at p b.rotations, ← f.place p refl refl) (rw (e, o) at d)

pub seat_rotations : (s : Shard) (move : Place → Place) (x : Id) (b : Board) → (put_on s move x b).rotations ≡ b.rotations
unfolding put_on join place
seat_rotations s move x b = refl

-- ---- the turn

module _ (s : Shard) (v : Id) (ds : List ℕ) (b : Board) where
  pub turn_unfit : victim_fit s v b ≡ false → rotate_turn s v ds b ≡ refused VictimUnfit
  unfolding rotate_turn checked
  turn_unfit n = rw n

  pub turn_fit : victim_fit s v b ≡ true → rotate_turn s v ds b ≡ pool_draw s (leb most_rotations (length b.rotations)) (λ x. on_rotations (open_rotation (new_rotation s v x b))) ds b
  unfolding rotate_turn checked
  turn_fit y = rw y

-- ---- each way out

module _ (b : Board) (ok : well_formed b ≡ true) (after : List ℕ) (r : Outcome) (s : Shard) (v : Id) (draws : List ℕ) where
  pub no_shard : is_shard s ≡ false → Holds after b → r ≡ outcome OutOfRange 0 0 → Step (rotate s v draws) b after r
  unfolding rotate alone checked
  no_shard n h e = record { told = rw (ok, n) e; left = rw (ok, n) h }

  module _ (y : is_shard s ≡ true) where
    pub not_now : may_rotate s b ≡ false → Holds after b → r ≡ outcome Done 0 0 → Step (rotate s v draws) b after r
    unfolding rotate alone checked
    not_now n h e =
        let z : length draws - length draws ≡ 0 = omega arith in
        record { told = rw (ok, y, n, z) e; left = rw (ok, y, n) h }

    pub turned : may_rotate s b ≡ true → (t : Result Turn Answer) → TurnTells draws after b (rotate_turn s v draws b) t → r ≡ turn_told t → Step (rotate s v draws) b after r
    unfolding rotate checked
    turned m t f e = record { told = rw (ok, y, m) (e ∙ turn_alone draws after b _ t f); left = rw (ok, y, m) (turn_leaves draws after b _ t f) }
