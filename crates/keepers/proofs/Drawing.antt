-- Keepers, as the code lists and draws them.
use Prim.Native.Nat.{ℕ, suc, ◌+◌, ◌/◌, ◌≤◌, ◌<◌}
use mathlib.Core.Path.{◌≡◌, refl, ap, sym, ◌∙◌}
use mathlib.Core.List.{List, ◌++◌}
use mathlib.Core.Bool.{true}
use native.Mathlib.Omega.{arith}
use lib.ListN.{length, get_or, take, drop, set, length-append, length-drop, length-set}
use lib.Seq.{length-take-le, take_all, take_at, drop_at, take-append-le, take-suc, take-suc-set, take-take, get_or-append-add}
use borrow.Rule.Slice.PartMut.{put_mid, take_put}
use Rattle.types.specs.Numbers.{Shard, Id}
use Rattle.types.specs.Shards.{left_of, right_of}
use Rattle.rules.specs.Lists.{sort}
use Rattle.rules.specs.Board.{Board, size_of}
use Rattle.rules.specs.WellFormed.{well_formed}
use Rattle.rules.specs.Draws.{shuffle}
use Rattle.rules.specs.Reshapes.{half_up, seated_members, keepers_of, draw_keepers}
use Rattle.rules.proofs.Tests.{all_parts}
use Rattle.rules.proofs.KeptBoard.{limits}
use Rattle.sampling.specs.declared.Reader.{Reader}
use Rattle.sampling.specs.Reads.{Read, no_draw}
use Rattle.sampling.specs.declared.DrawError.{DrawError}
use Rattle.sampling.proofs.Failing.{then_fails, then_reads}
use Rattle.gathering.specs.Gathered.{Ready, Waiting, gathered}
use Rattle.keepers.specs.Kept.{filled, shared, seats_of, right_drawn}

-- ---- the share filled

-- i of the waiting ones stand behind the m ready ones
pub record Behind (m : ℕ) (waiting before after : List ℕ) (i : ℕ) : Type 0 where
  pub long : length after ≡ length before
  pub same : take (m + i) after ≡ take (m + i) (take m before ++ waiting)

module _ (m : ℕ) (waiting before : List ℕ) (fits : m ≤ length before) where
  count : length (take m before) ≡ m
  count = length-take-le m before fits

  pub none_behind : Behind m waiting before before 0
  none_behind = let z : m + 0 ≡ m = omega arith in record { long = refl; same = rw z (sym (take_at (take m before) waiting m count)) }

  module _ {after : List ℕ} {i : ℕ} (q : Behind m waiting before after i) where
    pub one_behind : i < length waiting → m + i < length after → Behind m waiting before (set after (m + i) (get_or waiting i 0)) (i + 1)
    one_behind h l =
        let next : m + (i + 1) ≡ suc (m + i) = omega arith in
        let here : get_or (take m before ++ waiting) (m + i) 0 ≡ get_or waiting i 0 = rw count at (get_or-append-add (take m before) waiting i 0) in
        let room : m + i < length (take m before ++ waiting) = rw (length-append, count) (omega arith) in
        record {
          long = length-set after (m + i) (get_or waiting i 0) ∙ q.long;
          same = rw (next, take-suc-set after (m + i) (get_or waiting i 0) l, take-suc (take m before ++ waiting) (m + i) 0 room, here, q.same);
        }

    pub all_behind : (share : ℕ) → length waiting ≤ i → m + i ≤ share → take (m + i) after ≡ take share (take m before ++ waiting)
    all_behind share h l =
        let few : length (take m before ++ waiting) ≤ m + i = rw (length-append, count) (omega arith) in
        q.same ∙ take_all (m + i) _ few ∙ sym (take_all share _ (omega arith))

    pub share_behind : (share : ℕ) → share ≤ m + i → take share after ≡ take share (take m before ++ waiting)
    share_behind share l = sym (take-take share (m + i) after l) ∙ ap (take share) q.same ∙ take-take share (m + i) _ l

-- ---- a child's keepers, and those of both

-- the first m words lent, and other words there
module _ (m : ℕ) (front out : List ℕ) (fits : m ≤ length out) (same : length front ≡ length (take m out)) where
  front_length : length front ≡ m
  front_length = same ∙ length-take-le m out fits

  pub front_long : length (front ++ drop m out) ≡ length out
  front_long = let l = front_length in rw (length-append, length-drop) (omega arith)

  pub front_taken : take m (front ++ drop m out) ≡ front
  front_taken = take_at front (drop m out) m front_length

pub share_filled : (draws : List ℕ) (share : ℕ) (ready waiting : List Id) (ds : List ℕ) (mixed ids : List Id) → ids ≡ take share (ready ++ mixed)
    → (left : Reader) → Read draws (shuffle (sort waiting) ds) mixed left → Read draws (filled share ready waiting ds) ids left
share_filled draws share ready waiting ds mixed ids e left h = record { within = h.within; drew = then_reads _ _ draws _ left h ∙ rw e }

pub keepers_are : (c : Shard) (share : ℕ) (b : Board) (ds : List ℕ) → keepers_of c share b ds ≡ shared share (gathered Ready c b) (gathered Waiting c b) ds
unfolding keepers_of seated_members
keepers_are c share b ds = refl

pub size_within : (b : Board) → well_formed b ≡ true → size_of b ≤ 32
unfolding well_formed
size_within b ok = (limits b.settings (all_parts _ ok).0).size

module _ (t : Shard) (b : Board) (draws : List ℕ) where
  -- the words from n on are lent, and come back as `part`
  module _ (c : Shard) (child : c ≡ right_of t) (share n w : ℕ) (out part ds : List ℕ) where
    pub right_done : n ≤ length out → (m : ℕ) → m ≤ length part → (left : Reader) → Read draws (keepers_of c share b ds) (take m part) left
        → Read draws (right_drawn t share b (take n out) ds) (seats_of t (put_mid n w out part) n m) left
    right_done fits m few left h =
        let rest = drop w (drop n out) in
        let ids : take m (drop n (put_mid n w out part)) ≡ take m part = ap (take m) (drop_at (take n out) (part ++ rest) n (length-take-le n out fits)) ∙ take-append-le m part rest few in
        record { within = h.within; drew = then_reads _ _ draws _ left (rw child at h) ∙ rw (ids, take_put n w out part fits) }

  module _ (c : Shard) (child : c ≡ left_of t) (size : ℕ) (is : size ≡ size_of b) where
    pub both_are : (lefts : List Id) (left : Reader) → Read draws (keepers_of c (half_up size) b draws) lefts left → draw_keepers t b draws ≡ right_drawn t (size / 2) b lefts (drop left.at draws)
    unfolding draw_keepers
    both_are lefts left h = rw (is) (then_reads _ _ draws _ left (rw (child, is) at h))

    pub both_fail : (e : DrawError) → keepers_of c (half_up size) b draws ≡ no_draw e → draw_keepers t b draws ≡ no_draw e
    unfolding draw_keepers
    both_fail e h = then_fails _ _ e (rw (child, is) at h)
