-- The steps that set a terminal keep a board good.
use mathlib.Core.Path.{◌≡◌, refl, sym, subst, ◌∙◌}
use mathlib.Core.Logic.{◌⊎◌, inl, inr}
use mathlib.Core.List.{List, []}
use mathlib.Core.Option.{some, some-injective}
use mathlib.Core.Bool.{Bool, true, false, not, false≢true}
use Prim.Native.Nat.{ℕ, ◌+◌, ◌≤◌, ◌<◌}
use native.Mathlib.Omega.{arith}
use lib.ListN.{length, take, drop, length-take, length-drop}
use Rattle.types.specs.Numbers.{Shard, Id, Epoch}
use Rattle.types.specs.Places.{is_seated_on}
use Rattle.rules.specs.Lists.{◌and◌, ◌or◌, is_empty, has, keep}
use Rattle.rules.specs.Table.{Entry, at, update}
use Rattle.rules.specs.Board.{Kind, split, merge, Reshape, Board, most_members, most_reshapes, most_half, on_reshapes, epoch_of}
use Rattle.rules.specs.WellFormed.{is_stamp, may_have_halves}
use Rattle.rules.specs.Moves.{says, members_of, place, quit, take_off, entrants_on, abort_rotations, with_drain_by, with_terminal, is_kind, old_shards}
use Rattle.rules.specs.Reshapes.{half_up}
use Rattle.rules.specs.Schedule.{unscheduled, scheduled, drain_end, seated_there, split_gate, pass_gate, halve, schedule_split, schedule_splits, merge_gate, schedule_merge, schedule_merges}
use Rattle.rules.proofs.Counts.{occ, occ_take}
use Rattle.rules.proofs.Tests.{by_cases, and_parts, or_cases, or_left, or_right, of_not, not_of, le_of, lt_of_no, has_occ}
use Rattle.rules.proofs.KeptLists.{part_keep, part_length, part_occ, occ_drop, occ_sort, length_sort, Ids, Ids-none, Ids-part}
use Rattle.rules.proofs.KeptTables.{Rows, Rows-update, at_keys_where}
use Rattle.rules.proofs.KeptBoard.{limits, Fit-drain_by, Fit-terminal, Good, fit_at, stamp}
use Rattle.rules.proofs.KeptMoves.{members_good, good_abort, good_reshape_lem, good_marked}
use Rattle.rules.proofs.Batches.{drain_finishes}
use Rattle.rules.proofs.Turns.{for_all_keeps, Mixed, shuffle_draws, Finishes, drawn_finishes, reshape_finishes, batch_keeps}

-- ---- a terminal, or a time to drain by

good_scheduled : (t : Shard) (r : Reshape) (left right : List Id) (b : Board) → is_stamp r.admitted ≡ true → Ids most_half left → Ids most_half right
    → ((q : Reshape) → at t b.reshapes ≡ some q → (may_have_halves q.kind (some (epoch_of b + 1)) or (is_empty left and is_empty right)) ≡ true)
    → Good b → Good (scheduled t r left right b)
unfolding scheduled
good_scheduled t r left right b a l m k h =
    let e = stamp h 1 (omega arith) in
    for_all_keeps Good _ (λ s c. good_marked s (epoch_of b + 1) r.admitted e a) (old_shards r.kind t) _
    (good_reshape_lem t (with_terminal (epoch_of b + 1) left right) (λ q u f. Fit-terminal (epoch_of b + 1) e l m (k q u) f) h)

good_drain_by : (t : Shard) (b : Board) → Good b → Good (on_reshapes (update t (with_drain_by (drain_end b))) b)
good_drain_by t b h = good_reshape_lem t (with_drain_by (drain_end b)) (λ q e f. Fit-drain_by _ (stamp h _ (limits _ h.settings).drain) f) h

-- ---- SCHEDULE MERGES

pub merge_finishes : (t : Shard) (draws : List ℕ) (b : Board) → Good b → Finishes Good (schedule_merge t draws b)
unfolding schedule_merge is_empty ◌and◌
merge_finishes t draws b h =
    reshape_finishes Good t _ draws b h (λ r e.
    by_cases (Finishes Good) (merge_gate r b) _ _ (λ g.
    drain_finishes Good t r [] [] draws b h (good_drain_by t b h) (good_scheduled t r [] [] b (fit_at h t r e).admitted (Ids-none _) (Ids-none _) (λ q u. or_right _ _ refl) h))
    (λ g. h))

pub good_schedule_merges : (b : Board) → Good b → Good (schedule_merges b).board
unfolding schedule_merges
good_schedule_merges b h = batch_keeps Good schedule_merge _ [] b (λ w t o. merge_finishes t) h

-- ---- SCHEDULE SPLITS

-- those of a list are splits, and stay so
split_among : List Shard → Entry Reshape → Bool
split_among shards e = is_kind split e.val or not (has e.key shards)

abbrev Kinds : List Shard → Board → Type 0
Kinds shards b = Rows most_reshapes (split_among shards) b.reshapes

pub record Splits (shards : List Shard) (b : Board) : Type 0 where
  pub good : Good b
  kinds : Kinds shards b

split_at : {shards : List Shard} {b : Board} → Splits shards b → (t : Shard) (r : Reshape) → 1 ≤ occ t shards → at t b.reshapes ≡ some r → is_kind split r ≡ true
unfolding split_among
split_at {shards} h t r o e = go (or_cases _ _ (h.kinds.each_good t r e))
  where
    go : (is_kind split r ≡ true) ⊎ (not (has t shards) ≡ true) → is_kind split r ≡ true
    go (inl u) = u
    go (inr u) = absurd (let z : occ t shards < 1 = lt_of_no 1 (occ t shards) (sym (has_occ t shards) ∙ of_not _ u) in omega arith)

pub all_splits : (b : Board) → Good b → Splits (unscheduled split b) b
unfolding unscheduled split_among
all_splits b h = record { good = h; kinds = record { room = h.reshapes.room; each_good = λ t r e. go t r e (has t (unscheduled split b)) refl; rising = h.reshapes.rising } }
  where
    go : (t : Shard) (r : Reshape) → at t b.reshapes ≡ some r → (c : Bool) → has t (unscheduled split b) ≡ c → (is_kind split r or not (has t (unscheduled split b))) ≡ true
    go t r e true u =
        let f = at_keys_where _ t b.reshapes h.reshapes.rising (le_of 1 _ (sym (has_occ t (unscheduled split b)) ∙ u)) in
        or_left _ _ (subst (λ q. is_kind split q ≡ true) (some-injective f.0 r (sym f.1 ∙ e)) (and_parts _ _ f.2).0)
    go t r e false u = or_right _ _ (not_of _ u)

-- a split may have halves
split_halves : (r : Reshape) (e : Epoch) → is_kind split r ≡ true → may_have_halves r.kind (some e) ≡ true
unfolding is_kind may_have_halves
split_halves r e u = go r.kind u
  where
    go : (k : Kind) → (elim k as (λ j. Bool) [ split ↦ true | merge ↦ false ]) ≡ true → may_have_halves k (some e) ≡ true
    go split v = refl
    go merge v = absurd (false≢true v)

abbrev left_half : List Id → List Id
left_half l = take (half_up (length l)) l

abbrev right_half : List Id → List Id
right_half l = drop (half_up (length l)) l

-- a half of a committee of 96 has at most 48
module _ {l : List Id} (i : Ids most_members l) where
  left_half_lem : Ids most_half (left_half l)
  left_half_lem = Ids-part i (rw length-take (omega (arith, i.room))) (λ x. occ_take x (half_up (length l)) l)

  right_half_lem : Ids most_half (right_half l)
  right_half_lem = Ids-part i (rw length-drop (omega (arith, i.room))) (λ x. occ_drop x (half_up (length l)) l)

-- those to be halved are members
halved_ids : {b : Board} {ids : List Id} (t : Shard) → Good b → Mixed (seated_there t b) ids → Ids most_members ids
unfolding seated_there
halved_ids {b} {ids} t h m =
    let i = members_good h t in
    let f = says (is_seated_on t) b in
    let p = part_keep f (members_of t b) in
    Ids-part i (omega (arith, m.size, length_sort (keep f (members_of t b)), part_length p, i.room)) (λ x. omega (arith, m.ids x, occ_sort x (keep f (members_of t b)), part_occ x p))

module _ (shards : List Shard) where
  -- a change of a reshape that keeps its kind
  kinds_update : (t : Shard) (f : Reshape → Reshape) (b : Board) → ((r : Reshape) → is_kind split (f r) ≡ is_kind split r) → Kinds shards b → Kinds shards (on_reshapes (update t f) b)
  unfolding split_among
  kinds_update t f b k = Rows-update t f (λ r e g. subst (λ c. (c or not (has t shards)) ≡ true) (sym (k r)) g)

  splits_abort : (t : Shard) (b : Board) → Splits shards b → Splits shards (abort_rotations t b)
  unfolding abort_rotations take_off quit place
  splits_abort t b h = record { good = good_abort t h.good; kinds = for_all_keeps (Kinds shards) _ (λ x c k. k) (entrants_on t b.rotations) b h.kinds }

  splits_drain_by : (t : Shard) (b : Board) → Splits shards b → Splits shards (on_reshapes (update t (with_drain_by (drain_end b))) b)
  unfolding is_kind
  splits_drain_by t b h = record { good = good_drain_by t b h.good; kinds = kinds_update t _ b (λ r. refl) h.kinds }

  splits_scheduled : (t : Shard) (r : Reshape) (l : List Id) (b : Board) → 1 ≤ occ t shards → is_stamp r.admitted ≡ true → Ids most_members l → Splits shards b → Splits shards (scheduled t r (left_half l) (right_half l) b)
  unfolding scheduled is_kind
  splits_scheduled t r l b o a i h = record {
    good = good_scheduled t r _ _ b a (left_half_lem i) (right_half_lem i) (λ q e. or_left _ _ (split_halves q _ (split_at h t q o e))) h.good;
    kinds = for_all_keeps (Kinds shards) _ (λ s c k. k) (old_shards r.kind t) _ (kinds_update t _ b (λ q. refl) h.kinds);
  }

  pass_finishes : (t : Shard) (l : List Id) (draws : List ℕ) (b : Board) → 1 ≤ occ t shards → Ids most_members l → Splits shards b → Finishes (Splits shards) (pass_gate t (left_half l) (right_half l) draws b)
  unfolding pass_gate
  pass_finishes t l draws b o i h =
      reshape_finishes (Splits shards) t _ draws b h (λ r e.
      by_cases (Finishes (Splits shards)) (split_gate t (left_half l) (right_half l) r b) _ _ (λ g.
      drain_finishes (Splits shards) t r _ _ draws b h (splits_drain_by t b h) (splits_scheduled t r l b o (fit_at h.good t r e).admitted i h))
      (λ g. h))

  pub split_finishes : (t : Shard) → 1 ≤ occ t shards → (draws : List ℕ) (b : Board) → Splits shards b → Finishes (Splits shards) (schedule_split t draws b)
  unfolding schedule_split halve
  split_finishes t o draws b h =
      let c = splits_abort t b h in
      drawn_finishes (Splits shards) (Mixed (seated_there t (abort_rotations t b))) _ _ (shuffle_draws _ draws) (λ ids left m. pass_finishes t ids left (abort_rotations t b) o (halved_ids t c.good m) c)

pub good_schedule_splits : (draws : List ℕ) (b : Board) → Good b → Good (schedule_splits draws b).board
unfolding schedule_splits
good_schedule_splits draws b h = (batch_keeps (Splits (unscheduled split b)) schedule_split _ draws b (λ w. split_finishes (unscheduled split b)) (all_splits b h)).good
