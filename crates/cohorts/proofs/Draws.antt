-- A cohort drawn, as the code has it: what is asked, and each way out.
use Prim.Native.Nat.{ℕ, suc, ◌+◌, ◌-◌, ◌≤◌, ◌<◌}
use mathlib.Core.Path.{◌≡◌, refl, ap, sym, ◌∙◌}
use mathlib.Core.List.{List, [], ◌∷◌, ◌++◌, append_assoc}
use mathlib.Core.Option.{none}
use mathlib.Core.Bool.{Bool, true, false, cond, not}
use native.Mathlib.Omega.{arith}
use native.Mathlib.Numerals.{add-one}
use borrow.Author.Tests.{lt-ltb, le-ltb, le-leb, lt-leb, ne_eqb}
use lib.Dec.{eqb, leb, ltb}
use lib.ListN.{length, get_or, set, take, drop, drop_of_length-le, length-drop}
use lib.Seq.{drop-cons, length-take-le, take-suc-set, take-set-le}
use Rattle.types.specs.Numbers.{Shard, Id}
use Rattle.types.specs.Places.{is_pooled}
use Rattle.types.specs.declared.Answer.TheVariants.{Done, OutOfRange, NotThere, DrawMissing, DrawTooLarge, NoRoom, PoolTooSmall}
use Rattle.types.specs.declared.Outcome.{Outcome}
use Rattle.rules.specs.Lists.{◌and◌, ◌or◌, bit_of, every, any, has, is_empty}
use Rattle.rules.specs.Table.{Table, is_some, at, stands, holds_at, keys_where}
use Rattle.rules.specs.Board.{merge, Seat, Reshape, Board, most_committees, most_members, most_reshapes, most_seats, size_of}
use Rattle.rules.specs.WellFormed.{is_target, good_ids, well_formed}
use Rattle.rules.specs.Draws.{drew, missing, too_large, shuffle}
use Rattle.rules.specs.Moves.{pool_of, may_join, is_kind}
use Rattle.rules.specs.Turns.{checked, drawn, alone}
use Rattle.rules.specs.Reshapes.{awaits_cohort, watch_all, cohort_turn, draw_cohort}
use Rattle.rules.proofs.Counts.{shuffle_keeps}
use Rattle.rules.proofs.Tests.{and_parts, le_of, lt_of_no}
use Rattle.rules.proofs.KeptLists.{of_ids}
use Rattle.rules.proofs.KeptTables.{holds_at_lem}
use Rattle.rules.proofs.KeptBoard.{good_of_lem}
use Rattle.rules.proofs.KeptReshapes.{chosen}
use Rattle.sampling.specs.Reads.{no_draw, answer_to}
use Rattle.sampling.specs.declared.DrawError.{DrawError}
use Rattle.sampling.specs.declared.DrawError.TheVariants.{Missing, TooLarge}
use Rattle.tables.proofs.Keys.{at_is}
use Rattle.board.specs.Held.{Holds, no_machine, no_committee, no_reshape}
use Rattle.board.proofs.Keyed.{committees_rise, reshapes_rise}
use Rattle.board.proofs.Moves.{members_at_lem, members_none}
use Rattle.pool.proofs.Pools.{keys_here, keys_past}
use Rattle.steps.specs.Inner.{outcome, Step}
use Rattle.moves.proofs.Exiting.{split_unless}

-- ---- the pool, as a loop gathers it

pub gathered : (b : Board) (i k id n : ℕ) (out : List ℕ) (p : Bool) → i < length b.machines → k < length out → p ≡ is_pooled (get_or b.machines i no_machine).val → id ≡ (get_or b.machines i no_machine).key
    → n ≡ k + bit_of p → take k out ++ keys_where is_pooled (drop i b.machines) ≡ pool_of b → take n (set out k id) ++ keys_where is_pooled (drop (i + 1) b.machines) ≡ pool_of b
gathered b i k id n out true l m p e c q =
    let rest = keys_where is_pooled (drop (i + 1) b.machines) in
    let z : n ≡ suc k = omega arith in
    let here : keys_where is_pooled (drop i b.machines) ≡ id ∷ rest = keys_here is_pooled b.machines i no_machine l (sym p) ∙ rw e in
    rw (z, take-suc-set out k id m) (append_assoc (take k out) (id ∷ []) rest ∙ ap (λ (r : List ℕ). take k out ++ r) (sym here) ∙ q)
gathered b i k id n out false l m p e c q =
    let z : n ≡ k = omega arith in
    rw (z, take-set-le k out k id (omega arith)) (ap (λ (r : List ℕ). take k out ++ r) (sym (keys_past is_pooled b.machines i no_machine l (sym p))) ∙ q)

pub counted : (ids pool : List ℕ) (n : ℕ) → n ≤ length ids → take n ids ≡ pool → n ≡ length pool
counted ids pool n l e = sym (length-take-le n ids l) ∙ ap length e

-- ---- the pool, shuffled

-- the first S of them
module _ (b : Board) (draws ids left : List ℕ) (s : shuffle (pool_of b) draws ≡ drew ids left) where
  whole : length ids ≡ length (pool_of b)
  whole = (shuffle_keeps 0 (pool_of b) draws ids left s).0

  pub good_cohort : (size : ℕ) → size ≡ size_of b → well_formed b ≡ true → good_ids most_seats (take size ids) ≡ true
  good_cohort size n ok = rw n (of_ids (chosen (good_of_lem b ok) ids (record { size = whole; ids = λ x. (shuffle_keeps x (pool_of b) draws ids left s).1 })))

-- ---- a split that awaits its cohort

module _ (r : Reshape) where
  pub merge_awaits : is_kind merge r ≡ true → false ≡ awaits_cohort r
  unfolding awaits_cohort ◌and◌
  merge_awaits m = rw (split_unless r true m)

  pub scheduled_awaits : is_kind merge r ≡ false → is_some r.terminal ≡ true → false ≡ awaits_cohort r
  unfolding awaits_cohort ◌and◌
  scheduled_awaits m s = rw (split_unless r false m, s)

  pub empty_awaits : is_kind merge r ≡ false → is_some r.terminal ≡ false → (n : ℕ) → n ≡ length r.seats → eqb n 0 ≡ awaits_cohort r
  unfolding awaits_cohort is_empty ◌and◌
  empty_awaits m s n e = rw (split_unless r false m, s, e) (go r.seats)
    where
      go : (l : Table Seat) → eqb (length l) 0 ≡ is_empty l
      go [] = refl
      go (x ∷ l) = ne_eqb (suc (length l)) 0 (λ q. omega arith)

  pub awaits_none : awaits_cohort r ≡ true → is_empty r.seats ≡ true
  unfolding awaits_cohort
  awaits_none a = (and_parts _ _ (and_parts _ _ a).1).1

-- ---- room for all

module _ (f : ℕ → Bool) (l : List ℕ) (k : ℕ) where
  pub every_next : (c : Bool) → k < length l → f (get_or l k 0) ≡ c → every f (drop k l) ≡ (c and every f (drop (k + 1) l))
  unfolding every
  every_next c h e = rw (add-one k) (ap (every f) (drop-cons l k 0 h) ∙ rw e)

  pub every_end : length l ≤ k → every f (drop k l) ≡ true
  unfolding every
  every_end h = ap (every f) (drop_of_length-le l {i = k} h)

module _ (b : Board) (t : Shard) (ids : List Id) (few : length ids ≤ most_seats) where
  nobody : (l : List Id) → every (λ x. not (has x [])) l ≡ true
  unfolding every any has ◌and◌
  nobody [] = refl
  nobody (x ∷ l) = nobody l

  and_yes : (c : Bool) → c ≡ (c and true)
  unfolding ◌and◌
  and_yes true = refl
  and_yes false = refl

  pub all_open : at t b.committees ≡ none → ltb (length b.committees) most_committees ≡ may_join t ids b
  unfolding may_join stands is_some ◌and◌ ◌or◌
  all_open n =
      let m : leb (0 + length ids) most_members ≡ true = le-leb (0 + length ids) most_members (omega arith) in
      rw (n, members_none b t n, nobody ids, m) (and_yes (ltb (length b.committees) most_committees))

  module _ (ok : well_formed b ≡ true) (j : ℕ) (l : j < length b.committees) (e : (get_or b.committees j no_committee).key ≡ t) where
    abbrev members : List Id
    members = (get_or b.committees j no_committee).val

    asked : may_join t ids b ≡ (every (λ x. not (has x members)) ids and leb (length members + length ids) most_members)
    unfolding may_join stands is_some ◌and◌ ◌or◌
    asked = rw (at_is b.committees (committees_rise b ok) t j no_committee l e, members_at_lem b t j (committees_rise b ok) l e)

    pub one_there : every (λ x. not (has x members)) ids ≡ false → false ≡ may_join t ids b
    unfolding ◌and◌
    one_there n = sym (asked ∙ rw n)

    pub all_room : every (λ x. not (has x members)) ids ≡ true → (n : ℕ) → n ≡ length members → leb n (most_members - length ids) ≡ may_join t ids b
    unfolding ◌and◌
    all_room y n q = rw q (go (leb (length members + length ids) most_members) refl ∙ sym (asked ∙ rw y))
      where
        go : (c : Bool) → leb (length members + length ids) most_members ≡ c → leb (length members) (most_members - length ids) ≡ c
        go true u = le-leb (length members) (most_members - length ids) (omega (arith, le_of (length members + length ids) most_members u))
        go false u = lt-leb (length members) (most_members - length ids) (omega (arith, lt_of_no (length members + length ids) most_members u))

-- ---- the row of one that does

pub asks : (b : Board) → well_formed b ≡ true → (t : Shard) (i : ℕ) → i < length b.reshapes → (get_or b.reshapes i no_reshape).key ≡ t
    → holds_at t awaits_cohort b.reshapes ≡ awaits_cohort (get_or b.reshapes i no_reshape).val
asks b ok t i here named = holds_at_lem t awaits_cohort b.reshapes _ (at_is b.reshapes (reshapes_rise b ok) t i no_reshape here named)

-- ---- each way out

module _ (b : Board) (ok : well_formed b ≡ true) (after : List ℕ) (r : Outcome) (t : Shard) (draws : List ℕ) where
  pub no_target : is_target t ≡ false → Holds after b → r ≡ outcome OutOfRange 0 0 → Step (draw_cohort t draws) b after r
  unfolding draw_cohort alone checked
  no_target n h e = record { told = rw (ok, n) e; left = rw (ok, n) h }

  module _ (y : is_target t ≡ true) where
    pub not_there : holds_at t awaits_cohort b.reshapes ≡ false → Holds after b → r ≡ outcome NotThere 0 0 → Step (draw_cohort t draws) b after r
    unfolding draw_cohort alone checked
    not_there n h e = record { told = rw (ok, y, n) e; left = rw (ok, y, n) h }

    module _ (i : ℕ) (here : i < length b.reshapes) (named : (get_or b.reshapes i no_reshape).key ≡ t) where
      module _ (a : awaits_cohort (get_or b.reshapes i no_reshape).val ≡ true) where
        awaits : holds_at t awaits_cohort b.reshapes ≡ true
        awaits = asks b ok t i here named ∙ a

        pub pool_small : length (pool_of b) < size_of b → Holds after b → r ≡ outcome PoolTooSmall 0 0 → Step (draw_cohort t draws) b after r
        unfolding draw_cohort alone checked
        pool_small l h e = let s : ltb (length (pool_of b)) (size_of b) ≡ true = lt-ltb _ _ l in record { told = rw (ok, y, awaits, s) e; left = rw (ok, y, awaits, s) h }

        module _ (l : size_of b ≤ length (pool_of b)) where
          enough : ltb (length (pool_of b)) (size_of b) ≡ false
          enough = le-ltb _ _ l

          draw_missing : shuffle (pool_of b) draws ≡ missing → Holds after b → r ≡ outcome DrawMissing 0 0 → Step (draw_cohort t draws) b after r
          unfolding draw_cohort alone checked drawn
          draw_missing s h e = record { told = rw (ok, y, awaits, enough, s) e; left = rw (ok, y, awaits, enough, s) h }

          draw_large : shuffle (pool_of b) draws ≡ too_large → Holds after b → r ≡ outcome DrawTooLarge 0 0 → Step (draw_cohort t draws) b after r
          unfolding draw_cohort alone checked drawn
          draw_large s h e = record { told = rw (ok, y, awaits, enough, s) e; left = rw (ok, y, awaits, enough, s) h }

          pub draw_fails : (d : DrawError) → shuffle (pool_of b) draws ≡ no_draw d → Holds after b → r ≡ outcome (answer_to d) 0 0 → Step (draw_cohort t draws) b after r
          draw_fails Missing s h e = draw_missing s h e
          draw_fails TooLarge s h e = draw_large s h e

          module _ (ids : List Id) (left : ℕ) (within : left ≤ length draws) (s : shuffle (pool_of b) draws ≡ drew ids (drop left draws)) where
            no_room_lem : may_join t (take (size_of b) ids) b ≡ false → Holds after b → r ≡ outcome NoRoom 0 0 → Step (draw_cohort t draws) b after r
            unfolding draw_cohort cohort_turn alone checked drawn
            no_room_lem m h e = record { told = rw (ok, y, awaits, enough, s, m) e; left = rw (ok, y, awaits, enough, s, m) h }

            enlisted : may_join t (take (size_of b) ids) b ≡ true → Holds after (watch_all t (take (size_of b) ids) b) → r ≡ outcome Done (size_of b) left → Step (draw_cohort t draws) b after r
            unfolding draw_cohort cohort_turn alone checked drawn
            enlisted m h e =
                let used : length draws - length (drop left draws) ≡ left = omega (arith, length-drop left draws) in
                record { told = rw (ok, y, awaits, enough, s, m, used) e; left = rw (ok, y, awaits, enough, s, m) h }

            pub drawn_out : (size : ℕ) → size ≡ size_of b → r ≡ cond (may_join t (take size ids) b) (outcome Done (length (take size ids)) left) (outcome NoRoom 0 0)
                → Holds after (cond (may_join t (take size ids) b) (watch_all t (take size ids) b) b) → Step (draw_cohort t draws) b after r
            drawn_out size n e h = go (may_join t (take (size_of b) ids) b) refl (rw n at e) (rw n at h)
              where
                go : (c : Bool) → may_join t (take (size_of b) ids) b ≡ c → r ≡ cond c (outcome Done (length (take (size_of b) ids)) left) (outcome NoRoom 0 0)
                    → Holds after (cond c (watch_all t (take (size_of b) ids) b) b) → Step (draw_cohort t draws) b after r
                go true m e h = enlisted m h (e ∙ ap (λ (k : ℕ). outcome Done k left) (length-take-le (size_of b) ids (omega (arith, whole b draws ids (drop left draws) s))))
                go false m e h = no_room_lem m h e
