-- Moves that keep a board good.
use mathlib.Core.Path.{◌≡◌, refl, sym, ◌∙◌}
use mathlib.Core.Logic.{◌≢◌, ◌⊎◌, inl, inr}
use mathlib.Core.List.{List, [], ◌∷◌, ◌++◌, append-nil}
use mathlib.Core.Option.{Option, none, some}
use mathlib.Core.Bool.{Bool, true, false, not, false≢true}
use Prim.Native.Nat.{ℕ, ◌+◌, ◌≤◌, ◌<◌}
use native.Mathlib.Omega.{arith}
use lib.Dec.{leb, ltb}
use lib.ListN.{length, length-append}
use Rattle.types.specs.Numbers.{Shard, Id, Epoch}
use Rattle.types.specs.Places.{is_seated_on, pooled, short, drawn_to, set_to_watch, moved_to, kept_on, seated_from_watch, made_ready}
use Rattle.types.specs.declared.Place.{Place}
use Rattle.types.specs.declared.Place.TheVariants.{Pooled, Seated, Observing, Short, Other}
use Rattle.rules.specs.Lists.{◌or◌, every, has, strike}
use Rattle.rules.specs.Table.{Table, at, stands, put, remove, update, is_some}
use Rattle.rules.specs.Board.{Kind, Reshape, Board, most_committees, most_members, on_bounds, on_reshapes}
use Rattle.rules.specs.WellFormed.{is_shard, is_word, is_stamp, good_option, good_place, good_machine, good_committee, good_boundary}
use Rattle.rules.specs.Moves.{members_of, place, join, quit, put_on, take_off, for_all, pooled_from, may_join, entrants_on, drop_rotations, abort_rotations, with_seats, is_kind, give_up_seat, marked_boundary}
use Rattle.rules.proofs.Counts.{eqb_same, eqb_apart, hit_same, occ, occ_append, occ_single}
use Rattle.rules.proofs.Tables.{at_put}
use Rattle.rules.proofs.Tests.{by_cases, and_parts, and_joins, or_cases, all_parts, all_joins, of_not, le_of, lt_of_no, every_has, has_occ}
use Rattle.rules.proofs.Turns.{for_all_keeps}
use Rattle.rules.proofs.KeptLists.{Ids, ids_of, of_ids, Ids-none, Ids-strike, Ids-join}
use Rattle.rules.proofs.KeptRotations.{Rota-drop_rotations}
use Rattle.rules.proofs.KeptTables.{length_put, length_replace, Rows-within, Rows-put, Rows-remove, Rows-update}
use Rattle.rules.proofs.KeptBoard.{Fit, fit_of, of_fit, Fit-seats, Good, on_machines_lem, on_committees_lem, on_bounds_lem, on_rotations_lem, on_reshapes_lem}

-- ---- places: a move that gives a good place for a good one

abbrev pub Keeps : (Place → Place) → Type 0
Keeps move = (p : Place) → good_place p ≡ true → good_place (move p) ≡ true

pub keeps_pooled : Keeps pooled
unfolding good_place
keeps_pooled p h = refl

pub keeps_short : Keeps short
unfolding good_place
keeps_short p h = refl

pub keeps_pooled_from : (there : Place → Bool) → Keeps (pooled_from there)
keeps_pooled_from there p h = by_cases (λ q. good_place q ≡ true) (there p) (pooled p) p (λ e. keeps_pooled p h) (λ e. h)

pub keeps_made_ready : Keeps made_ready
unfolding good_place
keeps_made_ready Pooled h = h
keeps_made_ready (Seated s r w) h = h
keeps_made_ready (Observing s w) h = h
keeps_made_ready Short h = h
keeps_made_ready (Other m) h = h

module _ (s : Shard) (ok : is_shard s ≡ true) where
  pub keeps_drawn_to : (e : Epoch) → is_stamp e ≡ true → Keeps (drawn_to s e)
  unfolding good_place
  keeps_drawn_to e k p h = and_joins _ _ ok k

  pub keeps_set_to_watch : (e : Epoch) → is_stamp e ≡ true → Keeps (set_to_watch s e)
  unfolding good_place
  keeps_set_to_watch e k p h = and_joins _ _ ok k

  pub keeps_moved_to : Keeps (moved_to s)
  unfolding good_place
  keeps_moved_to Pooled h = h
  keeps_moved_to (Seated t r w) h = and_joins _ _ ok (and_parts _ _ h).1
  keeps_moved_to (Observing t w) h = h
  keeps_moved_to Short h = h
  keeps_moved_to (Other m) h = h

  pub keeps_kept_on : (ready : Bool) → Keeps (kept_on s ready)
  unfolding good_place
  keeps_kept_on ready Pooled h = h
  keeps_kept_on ready (Seated t r w) h = and_joins _ _ ok (and_parts _ _ h).1
  keeps_kept_on ready (Observing t w) h = h
  keeps_kept_on ready Short h = h
  keeps_kept_on ready (Other m) h = h

  pub keeps_seated_from_watch : (ready : Bool) (e : Epoch) → is_stamp e ≡ true → Keeps (seated_from_watch s ready e)
  unfolding good_place
  keeps_seated_from_watch ready e k Pooled h = h
  keeps_seated_from_watch ready e k (Seated t r w) h = h
  keeps_seated_from_watch ready e k (Observing t w) h = and_joins _ _ ok k
  keeps_seated_from_watch ready e k Short h = h
  keeps_seated_from_watch ready e k (Other m) h = h

pub good_place_lem : {b : Board} (x : Id) (move : Place → Place) → Keeps move → Good b → Good (place x move b)
unfolding place good_machine
good_place_lem x move k h = on_machines_lem h (update x move) (Rows-update x move (λ p e g. and_joins _ _ (and_parts _ _ g).0 (k p (and_parts _ _ g).1)) h.machines)

-- what is known of a machine that is looked up
pub machine_at : {b : Board} → Good b → (x : Id) (p : Place) → at x b.machines ≡ some p → (is_word x ≡ true) × (good_place p ≡ true)
unfolding good_machine
machine_at h x p e = let g = h.machines.each_good x p e in ((and_parts _ _ g).0, (and_parts _ _ g).1)

-- ---- committees

pub members_at_lem : (s : Shard) (b : Board) (l : List Id) → at s b.committees ≡ some l → members_of s b ≡ l
unfolding members_of
members_at_lem s b l e = rw (e, members_of)

pub members_good : {b : Board} → Good b → (s : Shard) → Ids most_members (members_of s b)
unfolding members_of good_committee
members_good {b} h s = go (at s b.committees) refl
  where
    go : (o : Option (List Id)) → at s b.committees ≡ o → Ids most_members (elim o [ none ↦ [] | some members ↦ members ])
    go none e = Ids-none most_members
    go (some l) e = ids_of _ _ (and_parts _ _ (h.committees.each_good s l e)).1

-- every id of a list is in its range
abbrev pub Words : List Id → Type 0
Words l = (x : ℕ) → 1 ≤ occ x l → is_word x ≡ true

-- there is room to set the committee of a shard
abbrev pub Opens : Shard → Board → Type 0
Opens s b = (members : List Id) → length (put s members b.committees) ≤ most_committees

-- the committee of a shard has room for ids that are distinct and not in it
pub record Joins (s : Shard) (l : List Id) (b : Board) : Type 0 where
  pub shard : is_shard s ≡ true
  pub words : Words l
  pub once : (x : ℕ) → occ x l + occ x (members_of s b) ≤ 1
  pub few : length (members_of s b) + length l ≤ most_members
  pub opens : Opens s b

-- a committee that stands is replaced, and else there is room for one more
pub opens_of : {b : Board} → Good b → (s : Shard) → (stands s b.committees or ltb (length b.committees) most_committees) ≡ true → Opens s b
unfolding stands is_some
opens_of {b} h s e v = go (at s b.committees) refl (or_cases _ _ e)
  where
    go : (o : Option (List Id)) → at s b.committees ≡ o → (is_some o ≡ true) ⊎ (ltb (length b.committees) most_committees ≡ true) → length (put s v b.committees) ≤ most_committees
    go none a (inl u) = absurd (false≢true u)
    go none a (inr u) = let l : length b.committees < most_committees = le_of _ _ u in omega (arith, length_put s v b.committees)
    go (some w) a u = rw (length_replace s 0 v w b.committees h.committees.rising a) h.committees.room

pub joins : {b : Board} {l : List Id} → Good b → (s : Shard) → is_shard s ≡ true → Ids most_members l → ((x : ℕ) → 1 ≤ occ x l → occ x (members_of s b) ≡ 0)
    → length (members_of s b) + length l ≤ most_members → Opens s b → Joins s l b
joins {b} {l} h s ok i absent few opens = record { shard = ok; words = i.words; once = λ x. go x (leb 1 (occ x l)) refl; few = few; opens = opens }
  where
    go : (x : ℕ) (c : Bool) → leb 1 (occ x l) ≡ c → occ x l + occ x (members_of s b) ≤ 1
    go x true u = omega (arith, absent x (le_of _ _ u), i.once x)
    go x false u = omega (arith, lt_of_no 1 (occ x l) u, (members_good h s).once x)

-- what 11 asks
pub joins_of : {b : Board} {l : List Id} → Good b → (s : Shard) → is_shard s ≡ true → Ids most_members l → may_join s l b ≡ true → Joins s l b
unfolding may_join
joins_of {b} {l} h s ok i e =
    let p = and_parts _ _ e in
    let q = and_parts _ _ p.1 in
    joins h s ok i (absent q.0) (le_of _ _ q.1) (opens_of h s p.0)
  where
    absent : every (λ y. not (has y (members_of s b))) l ≡ true → (x : ℕ) → 1 ≤ occ x l → occ x (members_of s b) ≡ 0
    absent k x o =
        let n : leb 1 (occ x (members_of s b)) ≡ false = sym (has_occ x (members_of s b)) ∙ of_not _ (every_has (λ y. not (has y (members_of s b))) l x k o) in
        omega (arith, lt_of_no 1 (occ x (members_of s b)) n)

pub good_join : {b : Board} {l : List Id} (s : Shard) (x : Id) → Joins s (x ∷ l) b → Good b → Good (join s x b)
unfolding join good_committee occ
good_join {b} {l} s x j h =
    on_committees_lem h (put s (members_of s b ++ (x ∷ []))) (Rows-within (j.opens _) (Rows-put s _ (and_joins _ _ j.shard (of_ids more)) h.committees))
  where
    more : Ids most_members (members_of s b ++ (x ∷ []))
    more =
        Ids-join x (members_good h s) (j.words x (omega (arith, hit_same x))) (omega (arith, hit_same x, j.once x)) (omega (arith, j.few))

at_join : (s : Shard) (x : Id) (b : Board) → at s (put s (members_of s b ++ (x ∷ [])) b.committees) ≡ some (members_of s b ++ (x ∷ []))
at_join s x b = rw (at_put s s (members_of s b ++ (x ∷ [])) b.committees, eqb_same)

pub members_join : (s : Shard) (x : Id) (b : Board) → members_of s (join s x b) ≡ members_of s b ++ (x ∷ [])
unfolding join
members_join s x b = members_at_lem s (join s x b) _ (at_join s x b)

-- then for one fewer
pub Joins-next : {b : Board} {l : List Id} (s : Shard) (x : Id) → Joins s (x ∷ l) b → Good b → Joins s l (join s x b)
unfolding join occ
Joins-next {b} {l} s x j h = record {
  shard = j.shard;
  words = λ y o. j.words y (omega arith);
  once = λ y. rw (members_join s x b) (omega (arith, occ_append y (members_of s b) (x ∷ []), occ_single y x, j.once y));
  few = rw (members_join s x b) (omega (arith, length-append (members_of s b) (x ∷ []), j.few));
  opens = λ v. rw (length_replace s 0 v _ _ (good_join s x j h).committees.rising (at_join s x b)) (j.opens _);
}

pub good_quit : {b : Board} (s : Shard) (x : Id) → Good b → Good (quit s x b)
unfolding quit good_committee
good_quit s x h = on_committees_lem h (update s (strike x)) (Rows-update s (strike x) (λ l e g. and_joins _ _ (and_parts _ _ g).0 (of_ids (Ids-strike x (ids_of _ _ (and_parts _ _ g).1)))) h.committees)

-- ---- on and off a shard

Joins-place : {b : Board} {l : List Id} (s : Shard) (x : Id) (move : Place → Place) → Joins s l b → Joins s l (place x move b)
unfolding place members_of
Joins-place s x move j = record { shard = j.shard; words = j.words; once = j.once; few = j.few; opens = j.opens }

pub Joins-reshapes : {b : Board} {l : List Id} (s : Shard) (f : Table Reshape → Table Reshape) → Joins s l b → Joins s l (on_reshapes f b)
unfolding members_of
Joins-reshapes s f j = record { shard = j.shard; words = j.words; once = j.once; few = j.few; opens = j.opens }

module _ {b : Board} {l : List Id} (s : Shard) (move : Place → Place) (k : Keeps move) (x : Id) (j : Joins s (x ∷ l) b) (h : Good b) where
  pub good_put_on : Good (put_on s move x b)
  unfolding put_on
  good_put_on = good_join s x (Joins-place s x move j) (good_place_lem x move k h)

  pub Joins-put_on : Joins s l (put_on s move x b)
  unfolding put_on
  Joins-put_on = Joins-next s x (Joins-place s x move j) (good_place_lem x move k h)

pub members_put_on : (s : Shard) (move : Place → Place) (x : Id) (b : Board) → members_of s (put_on s move x b) ≡ members_of s b ++ (x ∷ [])
unfolding put_on place members_of
members_put_on s move x b = members_join s x (place x move b)

-- the other committees are as they were
pub elsewhere_put_on : (d s : Shard) (move : Place → Place) (x : Id) (b : Board) → d ≢ s → at d (put_on s move x b).committees ≡ at d b.committees
unfolding put_on join place
elsewhere_put_on d s move x b n = at_put d s _ b.committees ∙ rw (eqb_apart d s n)

pub good_take_off : {b : Board} (s : Shard) (move : Place → Place) → Keeps move → (x : Id) → Good b → Good (take_off s move x b)
unfolding take_off
good_take_off s move k x h = good_quit s x (good_place_lem x move k h)

-- pooled from a place
pub good_release : {b : Board} (s : Shard) (there : Place → Bool) (x : Id) → Good b → Good (take_off s (pooled_from there) x b)
good_release s there = good_take_off s (pooled_from there) (keeps_pooled_from there)

-- ---- one move for each of a list

-- an invariant that tells of those that are still to come
pub for_all_counts : {A : Type 0} (P : List A → Board → Type 0) (move : A → Board → Board) → ((x : A) (l : List A) (b : Board) → P (x ∷ l) b → P l (move x b)) → (l m : List A) (b : Board) → P (l ++ m) b → P m (for_all move l b)
unfolding for_all
for_all_counts P move k [] m b h = h
for_all_counts P move k (x ∷ l) m b h = for_all_counts P move k l m (move x b) (k x (l ++ m) b h)

pub for_all_all : {A : Type 0} (P : List A → Board → Type 0) (move : A → Board → Board) → ((x : A) (l : List A) (b : Board) → P (x ∷ l) b → P l (move x b)) → (l : List A) (b : Board) → P l b → P [] (for_all move l b)
for_all_all P move k l b h = for_all_counts P move k l [] b (rw append-nil h)

-- ---- rotations and reshapes

pub good_abort : {b : Board} (s : Shard) → Good b → Good (abort_rotations s b)
unfolding abort_rotations
good_abort {b} s h =
    let g = for_all_keeps Good _ (λ x c. good_release s (is_seated_on s) x) (entrants_on s b.rotations) b h in
    on_rotations_lem g (drop_rotations s) (Rota-drop_rotations s g.rotations)

-- one reshape changed
pub good_reshape_lem : {b : Board} (t : Shard) (f : Reshape → Reshape) → ((r : Reshape) → at t b.reshapes ≡ some r → Fit t r → Fit t (f r)) → Good b → Good (on_reshapes (update t f) b)
good_reshape_lem t f k h = on_reshapes_lem h (update t f) (Rows-update t f (λ r e g. of_fit (k r e (fit_of t r g))) h.reshapes)

pub good_give_up_seat : {b : Board} (k : Kind) (t : Shard) (x : Id) → Good b → Good (give_up_seat k t x b)
unfolding give_up_seat
good_give_up_seat k t x h = good_reshape_lem t _ (λ r e f. by_cases (Fit t) (is_kind k r) (with_seats (remove x) r) r (λ u. Fit-seats (remove x) (Rows-remove x f.seats) f) (λ u. f)) h

-- a boundary marked
pub good_marked : {b : Board} (s : Shard) (terminal admitted : Epoch) → is_stamp terminal ≡ true → is_stamp admitted ≡ true → Good b → Good (on_bounds (update s (marked_boundary terminal admitted)) b)
unfolding good_boundary good_option
good_marked s terminal admitted p q h =
    on_bounds_lem h (update s (marked_boundary terminal admitted)) (Rows-update s (marked_boundary terminal admitted) (λ v e g.
    let u = all_parts _ g in
    all_joins _ (u.0, (u.1.0, (u.1.1.0, (u.1.1.1.0, (p, (q, tt))))))) h.bounds)
