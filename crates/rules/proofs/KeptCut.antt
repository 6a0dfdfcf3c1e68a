-- The steps that carry a reshape out keep a board good.
use mathlib.Core.Path.{◌≡◌, refl, sym, ◌∙◌}
use mathlib.Core.Logic.{◌≢◌, ◌⊎◌, inl, inr}
use mathlib.Core.List.{List, [], ◌∷◌, ◌++◌}
use mathlib.Core.Option.{Option, none, some}
use mathlib.Core.Bool.{Bool, true, false, cond, true≢false, false≢true}
use Prim.Native.Nat.{ℕ, ◌+◌, ◌≤◌}
use native.Mathlib.Omega.{arith}
use lib.Dec.{eqb, leb}
use lib.ListN.{length, length-append}
use Rattle.types.specs.Numbers.{Shard, Id, Epoch, Height}
use Rattle.types.specs.Shards.{left_of, right_of}
use Rattle.types.specs.Places.{is_seated_on, is_observing, pooled, moved_to, kept_on}
use Rattle.types.specs.declared.ShardId.{ShardId}
use Rattle.types.specs.declared.Epoch.{Epoch as Stamp}
use Rattle.types.specs.declared.Place.{Place}
use Rattle.types.specs.declared.Place.TheVariants.{Pooled, Seated, Observing, Short, Other}
use Rattle.rules.specs.Lists.{◌or◌}
use Rattle.rules.specs.Table.{entry, Table, at, update, keys_of}
use Rattle.rules.specs.Board.{Boundary, Kind, split, merge, Seat, Reshape, Board, most_members, most_seats, most_half, epoch_of}
use Rattle.rules.specs.WellFormed.{good_seat, is_shard, is_target, is_word, is_stamp, good_option, good_committee, good_boundary}
use Rattle.rules.specs.Moves.{says, members_of, place, join, put_on, for_all, new_boundary, height_of}
use Rattle.rules.specs.Cut.{recast, fits, cut_faults, settle, seated_by, cohort_for, settle_child, cut_split_of, cut_split, cut_splits, others, rejoin, larger, cut_merge_of, cut_merge, cut_merges}
use Rattle.rules.proofs.Counts.{Alike, same, apart, eqb_same, alike, eqb_apart, hit, hit_apart, occ, occ_nil, occ_append, occ_single}
use Rattle.rules.proofs.Tables.{at_put}
use Rattle.rules.proofs.Tests.{of_no, by_cases, and_parts, and_joins, or_cases, all_parts, all_joins, le_of, lt_of_no, eq_of}
use Rattle.rules.proofs.KeptLists.{Ids, of_ids, Ids-none, Ids-join}
use Rattle.rules.proofs.KeptRotations.{Rota-drop_rotations}
use Rattle.rules.proofs.KeptTables.{length_replace, length_keys_where, Rows, Rows-within, Rows-put, Rows-remove, holds_at_lem, at_update, at_other, holds_same}
use Rattle.rules.proofs.KeptBoard.{family, Fit, Good, fit_at, stamp, stamp_now}
use Rattle.rules.proofs.KeptMoves.{Keeps, keeps_pooled, keeps_moved_to, keeps_kept_on, keeps_seated_from_watch, good_place_lem, machine_at, members_at_lem, Opens, Joins, joins, good_put_on, Joins-put_on, members_put_on, elsewhere_put_on, for_all_all}
use Rattle.rules.proofs.Turns.{for_all_keeps, Finishes, checked_finishes, reshape_finishes, batch_keeps}

-- ---- the tables at a cut

pub new_committee : (s : Shard) → is_shard s ≡ true → good_committee (entry s []) ≡ true
unfolding good_committee
new_committee s ok = and_joins _ _ ok (of_ids (Ids-none most_members))

pub new_bound : {b : Board} → Good b → (s : Shard) (height : Height) → is_shard s ≡ true → is_word height ≡ true → good_boundary (entry s (new_boundary height (epoch_of b))) ≡ true
unfolding good_boundary good_option
new_bound h s height ok w = all_joins _ (ok, (w, (stamp h 1 (omega arith), (stamp_now h, (refl, (refl, tt))))))

pub good_recast : (k : Kind) (t : Shard) (height : Height) (b : Board) → is_target t ≡ true → is_word height ≡ true → fits (recast k t height b) ≡ true → Good b → Good (recast k t height b)
unfolding recast for_all fits
good_recast split t height b ok w f h =
    let s = family t ok in
    record {
      settings = h.settings;
      machines = h.machines;
      committees = Rows-within (le_of _ _ (and_parts _ _ f).0) (Rows-put (right_of t) [] (new_committee _ s.right) (Rows-put (left_of t) [] (new_committee _ s.left) (Rows-remove t h.committees)));
      bounds = Rows-within (le_of _ _ (and_parts _ _ f).1) (Rows-put (right_of t) _ (new_bound h _ height s.right w) (Rows-put (left_of t) _ (new_bound h _ height s.left w) h.bounds));
      rotations = Rota-drop_rotations t h.rotations;
      reshapes = Rows-remove t h.reshapes;
    }
good_recast merge t height b ok w f h =
    let s = family t ok in
    record {
      settings = h.settings;
      machines = h.machines;
      committees = Rows-within (le_of _ _ (and_parts _ _ f).0) (Rows-put t [] (new_committee _ s.target) (Rows-remove (right_of t) (Rows-remove (left_of t) h.committees)));
      bounds = Rows-within (le_of _ _ (and_parts _ _ f).1) (Rows-put t _ (new_bound h _ height s.target w) h.bounds);
      rotations = Rota-drop_rotations (right_of t) (Rota-drop_rotations (left_of t) h.rotations);
      reshapes = Rows-remove t h.reshapes;
    }

-- the new committees are empty
module _ (t : Shard) (height : Height) (b : Board) where
  pub fresh_left : at (left_of t) (recast split t height b).committees ≡ some []
  unfolding recast for_all
  fresh_left = rw (at_put (left_of t) (right_of t), eqb_apart (left_of t) (right_of t) (omega arith), at_put (left_of t) (left_of t), eqb_same)

  pub fresh_right : at (right_of t) (recast split t height b).committees ≡ some []
  unfolding recast for_all
  fresh_right = rw (at_put (right_of t) (right_of t), eqb_same)

  pub fresh_parent : at t (recast merge t height b).committees ≡ some []
  unfolding recast for_all
  fresh_parent = rw (at_put t t, eqb_same)

pub height_word : {b : Board} → Good b → (s : Shard) → is_word (height_of s b) ≡ true
unfolding height_of good_boundary
height_word {b} h s = go (at s b.bounds) refl
  where
    go : (o : Option Boundary) → at s b.bounds ≡ o → is_word (elim o [ none ↦ 0 | some v ↦ v.height ]) ≡ true
    go none e = refl
    go (some v) e = (all_parts _ (h.bounds.each_good s v e)).1.0

pub larger_word : (m n : Height) → is_word m ≡ true → is_word n ≡ true → is_word (larger m n) ≡ true
larger_word m n p q = by_cases (λ k. is_word k ≡ true) (leb m n) n m (λ e. q) (λ e. p)

-- ---- a new committee filled: whoever is in it is seated there, so nobody comes twice

pub record Settling (a : Board) (c : Shard) (l : List Id) (b : Board) : Type 0 where
  pub good : Good b
  pub shard : is_shard c ≡ true
  pub few : length (members_of c b) + length l ≤ most_members
  pub opens : Opens c b
  pub seated : (x : ℕ) → 1 ≤ occ x (members_of c b) → says (is_seated_on c) b x ≡ true
  -- the others are as they were
  pub others : (d : Shard) → d ≢ c → at d b.committees ≡ at d a.committees

pub settling : {b : Board} (c : Shard) (l : List Id) → Good b → is_shard c ≡ true → at c b.committees ≡ some [] → length l ≤ most_members → Settling b c l b
settling {b} c l h ok e n = record {
  good = h;
  shard = ok;
  few = rw (members_at_lem c b [] e) (omega arith);
  opens = λ v. rw (length_replace c 0 v [] b.committees h.committees.rising e) h.committees.room;
  seated = λ x o. absurd (omega (arith, occ_nil x, rw (members_at_lem c b [] e) at o));
  others = λ d n. refl;
}

pass : {a b : Board} {c : Shard} (x : Id) (l : List Id) → Settling a c (x ∷ l) b → Settling a c l b
pass x l s = record { good = s.good; shard = s.shard; few = omega (arith, s.few); opens = s.opens; seated = s.seated; others = s.others }

-- a move onto a shard, of one that was not seated there
record Arrives (c : Shard) (move : Place → Place) (p : Place) : Type 0 where
  keeps : Keeps move
  before : is_seated_on c p ≡ false
  after : is_seated_on c (move p) ≡ true

single : (x y : ℕ) → 1 ≤ occ y (x ∷ []) → y ≡ x
single x y o = go (alike y x)
  where
    go : Alike y x → y ≡ x
    go (same p q) = p
    go (apart p q) = absurd (omega (arith, o, occ_single y x, hit_apart y x p))

-- it is no member yet, since members are seated there
pub may_arrive : {a b : Board} {c : Shard} (x : Id) (l : List Id) (p : Place) → at x b.machines ≡ some p → is_seated_on c p ≡ false → Settling a c (x ∷ l) b → Joins c (x ∷ []) b
may_arrive {a} {b} {c} x l p e n s =
    joins s.good c s.shard (Ids-join x (Ids-none most_members) (machine_at s.good x p e).0 (occ_nil x) (omega arith)) (λ y o. rw (single x y o) (go (leb 1 (occ x (members_of c b))) refl)) (omega (arith, s.few)) s.opens
  where
    go : (q : Bool) → leb 1 (occ x (members_of c b)) ≡ q → occ x (members_of c b) ≡ 0
    go true u = absurd (true≢false (sym (s.seated x (le_of _ _ u)) ∙ (holds_at_lem x (is_seated_on c) b.machines p e ∙ n)))
    go false u = omega (arith, lt_of_no 1 (occ x (members_of c b)) u)

arrive : {a b : Board} {c : Shard} (x : Id) (l : List Id) (p : Place) (move : Place → Place) → at x b.machines ≡ some p → Arrives c move p → Settling a c (x ∷ l) b → Settling a c l (put_on c move x b)
unfolding put_on join place
arrive {a} {b} {c} x l p move e v s = record {
  good = good_put_on c move v.keeps x may s.good;
  shard = s.shard;
  few = rw (members_put_on c move x b) (omega (arith, length-append (members_of c b) (x ∷ []), s.few));
  opens = (Joins-put_on c move v.keeps x may s.good).opens;
  seated = λ y o. sits y (alike y x) (omega (arith, rw (members_put_on c move x b) at o, occ_append y (members_of c b) (x ∷ []), occ_single y x));
  others = λ d n. elsewhere_put_on d c move x b n ∙ s.others d n;
}
  where
    may : Joins c (x ∷ []) b
    may = may_arrive x l p e v.before s

    sits : (y : ℕ) → Alike y x → 1 ≤ occ y (members_of c b) + hit y x → says (is_seated_on c) (put_on c move x b) y ≡ true
    sits y (same k q) o = rw k (holds_at_lem x (is_seated_on c) (update x move b.machines) (move p) (at_update x move b.machines ∙ rw e) ∙ v.after)
    sits y (apart k q) o = holds_same y (is_seated_on c) (update x move b.machines) b.machines (at_other y x move b.machines k) ∙ s.seated y (omega (arith, o, hit_apart y x k))

-- ---- CUT SPLITS

-- one seated elsewhere
from_seat : (c t : Shard) (move : Place → Place) (p : Place) → c ≢ t → Keeps move → ((s : ShardId) (r : Bool) (w : Stamp) → is_seated_on c (move (Seated s r w)) ≡ true) → is_seated_on t p ≡ true → Arrives c move p
from_seat c t move Pooled n k m h = absurd (false≢true h)
from_seat c t move (Seated s r w) n k m h = record { keeps = k; before = eqb_apart s.0 c (λ e. n (sym e ∙ eq_of s.0 t h)); after = m s r w }
from_seat c t move (Observing s w) n k m h = absurd (false≢true h)
from_seat c t move Short n k m h = absurd (false≢true h)
from_seat c t move (Other m) n k l h = absurd (false≢true h)

watched : (c : Shard) (q : Seat) (e : Epoch) (p : Place) → is_shard c ≡ true → is_stamp e ≡ true → is_observing p ≡ true → Arrives c (seated_by c q e) p
watched c q e Pooled ok w h = absurd (false≢true h)
watched c q e (Seated s r u) ok w h = absurd (false≢true h)
watched c q e (Observing s u) ok w h = record { keeps = keeps_seated_from_watch c ok q.ready e w; before = refl; after = eqb_same c }
watched c q e Short ok w h = absurd (false≢true h)
watched c q e (Other m) ok w h = absurd (false≢true h)

pub settle_keeps : (a : Board) (t c : Shard) (seats : Table Seat) → c ≢ t → (x : Id) (l : List Id) (b : Board) → Settling a c (x ∷ l) b → Settling a c l (settle t c seats x b)
unfolding settle
settle_keeps a t c seats n x l b s = go (at x b.machines) refl
  where
    look : (p : Place) → at x b.machines ≡ some p → (q : Option Seat) → Settling a c l (elim q [ none ↦ b | some k ↦ cond (is_observing p) (put_on c (seated_by c k (epoch_of b)) x b) b ])
    look p e none = pass x l s
    look p e (some k) = by_cases (Settling a c l) (is_observing p) _ _ (λ u. arrive x l p _ e (watched c k (epoch_of b) p s.shard (stamp_now s.good) u) s) (λ u. pass x l s)

    go : (o : Option Place) → at x b.machines ≡ o → Settling a c l (elim o [
      | none ↦ b
      | some p ↦
          cond (is_seated_on t p) (put_on c (moved_to c) x b)
          (elim (at x seats) [ none ↦ b | some q ↦ cond (is_observing p) (put_on c (seated_by c q (epoch_of b)) x b) b ])
    ])
    go none e = pass x l s
    go (some p) e = by_cases (Settling a c l) (is_seated_on t p) _ _ (λ u. arrive x l p _ e (from_seat c t (moved_to c) p n (keeps_moved_to c s.shard) (λ q r w. eqb_same c) u) s) (λ u. look p e (at x seats))

-- at most 48 of a half and 32 of a cohort
pub good_settle_child : {b : Board} {half : List Id} {seats : Table Seat} (t c : Shard) → Ids most_half half → Rows most_seats (good_seat t) seats → c ≢ t → is_shard c ≡ true → at c b.committees ≡ some [] → Good b
    → Settling b c [] (settle_child t c half seats b)
unfolding settle_child cohort_for
good_settle_child {b} {half} {seats} t c m k n ok e h =
    let ids = half ++ cohort_for c seats in
    let all : length ids ≤ most_members = rw length-append (omega (arith, m.room, k.room, length_keys_where (λ q. eqb q.child c) seats)) in
    for_all_all (Settling b c) (settle t c seats) (settle_keeps b t c seats n) ids b (settling c ids h ok e all)

pub cut_split_finishes : (t : Shard) (r : Reshape) (draws : List ℕ) (b : Board) → Fit t r → Good b → Finishes Good (cut_split_of t r draws b)
unfolding cut_split_of cut_faults
cut_split_finishes t r draws b f h =
    checked_finishes Good _ _ (λ p.
    let s = family t f.target in
    let g = good_recast split t (height_of t b) b f.target (height_word h t) (of_no _ p.1.1.0) h in
    let k = good_settle_child t (left_of t) f.left f.seats (omega (arith, s.least)) s.left (fresh_left t (height_of t b) b) g in
    (good_settle_child t (right_of t) f.right f.seats (omega (arith, s.least)) s.right (k.others (right_of t) (omega arith) ∙ fresh_right t (height_of t b) b) k.good).good)

pub good_cut_splits : (b : Board) → Good b → Good (cut_splits b).board
unfolding cut_splits cut_split
good_cut_splits b h = batch_keeps Good cut_split _ [] b (λ w t o draws c g. reshape_finishes Good t _ draws c g (λ r e. cut_split_finishes t r draws c (fit_at g t r e) g)) h

-- ---- CUT MERGES

pub rejoin_keeps : (a : Board) (t : Shard) (keepers : Table Seat) → 1 ≤ t → (x : Id) (l : List Id) (b : Board) → Settling a t (x ∷ l) b → Settling a t l (rejoin t keepers x b)
unfolding rejoin
rejoin_keeps a t keepers m x l b s = go (at x b.machines) refl
  where
    from : (p : Place) (q : Seat) → (is_seated_on (left_of t) p ≡ true) ⊎ (is_seated_on (right_of t) p ≡ true) → Arrives t (kept_on t q.ready) p
    from p q (inl u) = from_seat t (left_of t) (kept_on t q.ready) p (omega arith) (keeps_kept_on t s.shard q.ready) (λ v r w. eqb_same t) u
    from p q (inr u) = from_seat t (right_of t) (kept_on t q.ready) p (omega arith) (keeps_kept_on t s.shard q.ready) (λ v r w. eqb_same t) u

    look : (p : Place) → at x b.machines ≡ some p → (o : Option Seat) → Settling a t l (elim o [ none ↦ b | some q ↦ cond (is_seated_on (left_of t) p or is_seated_on (right_of t) p) (put_on t (kept_on t q.ready) x b) b ])
    look p e none = pass x l s
    look p e (some q) = by_cases (Settling a t l) (is_seated_on (left_of t) p or is_seated_on (right_of t) p) _ _ (λ u. arrive x l p _ e (from p q (or_cases _ _ u)) s) (λ u. pass x l s)

    go : (o : Option Place) → at x b.machines ≡ o → Settling a t l (elim o [
      | none ↦ b
      | some p ↦
          elim (at x keepers) [ none ↦ b | some q ↦ cond (is_seated_on (left_of t) p or is_seated_on (right_of t) p) (put_on t (kept_on t q.ready) x b) b ]
    ])
    go none e = pass x l s
    go (some p) e = look p e (at x keepers)

-- pooling touches no committee
record Empty (t : Shard) (b : Board) : Type 0 where
  good : Good b
  there : at t b.committees ≡ some []

empty_place : (t : Shard) (x : Id) (b : Board) → Empty t b → Empty t (place x pooled b)
unfolding place
empty_place t x b h = record { good = good_place_lem x pooled keeps_pooled h.good; there = h.there }

pub cut_merge_finishes : (t : Shard) (r : Reshape) (draws : List ℕ) (b : Board) → Fit t r → Good b → Finishes Good (cut_merge_of t r draws b)
unfolding cut_merge_of cut_faults keys_of
cut_merge_finishes t r draws b f h =
    checked_finishes Good _ _ (λ p.
    let s = family t f.target in
    let height = larger (height_of (left_of t) b) (height_of (right_of t) b) in
    let g = good_recast merge t height b f.target (larger_word (height_of (left_of t) b) (height_of (right_of t) b) (height_word h (left_of t)) (height_word h (right_of t))) (of_no _ p.1.1.0) h in
    let mid = for_all (λ x. place x pooled) (others t r.seats b) (recast merge t height b) in
    let e = for_all_keeps (Empty t) (λ x. place x pooled) (empty_place t) (others t r.seats b) (recast merge t height b) (record { good = g; there = fresh_parent t height b }) in
    let n : length (keys_of r.seats) ≤ most_members = omega (arith, length_keys_where (λ q. true) r.seats, f.seats.room) in
    (for_all_all (Settling mid t) (rejoin t r.seats) (rejoin_keeps mid t r.seats s.least) (keys_of r.seats) mid (settling t (keys_of r.seats) e.good s.target e.there n)).good)

pub good_cut_merges : (b : Board) → Good b → Good (cut_merges b).board
unfolding cut_merges cut_merge
good_cut_merges b h = batch_keeps Good cut_merge _ [] b (λ w t o draws c g. reshape_finishes Good t _ draws c g (λ r e. cut_merge_finishes t r draws c (fit_at g t r e) g)) h
