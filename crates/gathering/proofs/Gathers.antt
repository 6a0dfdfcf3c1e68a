-- A test of a member, and the list as a loop fills it.
use Prim.Native.Nat.{ℕ, suc, ◌+◌, ◌≤◌, ◌<◌}
use mathlib.Core.Path.{◌≡◌, refl, ap, sym, ◌∙◌}
use mathlib.Core.List.{List, [], ◌∷◌, ◌++◌, append_assoc, append-nil}
use mathlib.Core.Option.{none}
use mathlib.Core.Bool.{Bool, true, false, cond, not, ◌&&◌}
use native.Mathlib.Numerals.{add-one}
use lib.Dec.{eqb}
use lib.ListN.{length, get_or, take, drop, set, drop_of_length-le}
use lib.Seq.{drop-cons, take-suc-set}
use Rattle.types.specs.Numbers.{Shard, Id}
use Rattle.types.specs.Places.{is_seated_on, is_ready}
use Rattle.rules.specs.Lists.{◌and◌, ◌or◌, any, keep, has}
use Rattle.rules.specs.Table.{at}
use Rattle.rules.specs.Board.{Rotation, Board}
use Rattle.rules.specs.WellFormed.{well_formed}
use Rattle.rules.specs.Moves.{says, is_on, entrants_on}
use Rattle.rules.proofs.Tests.{and_parts, or_left, of_not, of_no}
use Rattle.tables.proofs.Bools.{and_is}
use Rattle.shards.specs.Rotations.{rotation_of}
use Rattle.shards.specs.declared.rotations.Rotation as code
use Rattle.board.specs.Held.{no_committee, no_rotation}
use Rattle.board.proofs.Keyed.{committees_rise}
use Rattle.board.proofs.Moves.{members_at_lem, members_none}
use Rattle.gathering.specs.Gathered.{Members, Ready, Waiting, Staying, is_entrant, is_gathered, taken, gathered}

-- ---- a member's place

module _ (s : Shard) (b : Board) (x : Id) (seated : Bool) (e : seated ≡ says (is_seated_on s) b x) where
  pub staying_one : (entering : Bool) → entering ≡ has x (entrants_on s b.rotations) → (seated && not entering) ≡ is_gathered Staying s b x
  staying_one entering r = and_is seated (not entering) ∙ rw (e, r)

  pub none_elsewhere : not seated ≡ true → (w : Members) → false ≡ is_gathered w s b x
  unfolding ◌and◌
  none_elsewhere q w = go w (sym e ∙ of_not seated q)
    where
      go : (w : Members) → says (is_seated_on s) b x ≡ false → false ≡ is_gathered w s b x
      go Ready p = rw p
      go Waiting p = rw p
      go Staying p = rw p

  module _ (here : not seated ≡ false) (ready : Bool) (r : ready ≡ says is_ready b x) where
    pub ready_one : ready ≡ is_gathered Ready s b x
    unfolding ◌and◌
    ready_one = rw (← e, of_no seated here, ← r)

    pub waiting_one : not ready ≡ is_gathered Waiting s b x
    unfolding ◌and◌
    waiting_one = rw (← e, of_no seated here, ← r)

-- ---- entrants, as a loop looks for one

pub entrant_is : (s : Shard) (x : Id) (r : code.Rotation) (q : Rotation) → rotation_of r ≡ q → (eqb r.shard.0 s && eqb r.entrant.0 x) ≡ is_entrant s x q
entrant_is s x r q e = and_is (eqb r.shard.0 s) (eqb r.entrant.0 x) ∙ rw (← e)

module _ (s : Shard) (x : Id) (l : List Rotation) (i : ℕ) (h : i < length l) where
  pub entrant_here : true ≡ is_entrant s x (get_or l i no_rotation) → has x (entrants_on s (drop i l)) ≡ true
  unfolding entrants_on has any ◌or◌
  entrant_here e = let p = and_parts _ _ (sym e) in rw (drop-cons l i no_rotation h, p.0) (or_left _ _ p.1)

  pub entrant_later : false ≡ is_entrant s x (get_or l i no_rotation) → has x (entrants_on s (drop i l)) ≡ has x (entrants_on s (drop (i + 1) l))
  unfolding entrants_on has any ◌or◌ ◌and◌
  entrant_later e = rw (add-one i, drop-cons l i no_rotation h) (go (is_on s (get_or l i no_rotation)) (eqb (get_or l i no_rotation).entrant x) refl (sym e))
    where
      go : (c d : Bool) → eqb (get_or l i no_rotation).entrant x ≡ d → (c and d) ≡ false → has x (cond c ((get_or l i no_rotation).entrant ∷ entrants_on s (drop (suc i) l)) (entrants_on s (drop (suc i) l))) ≡ has x (entrants_on s (drop (suc i) l))
      go true d v u = rw (v, u)
      go false d v u = refl

pub entrant_none : (s : Shard) (x : Id) (l : List Rotation) (i : ℕ) → length l ≤ i → has x (entrants_on s (drop i l)) ≡ false
unfolding entrants_on has any
entrant_none s x l i h = rw (drop_of_length-le l {i = i} h)

-- ---- the list

module _ (w : Members) (s : Shard) (b : Board) (x : Id) (out : List ℕ) (k : ℕ) where
  pub added : true ≡ is_gathered w s b x → k < length out → take (k + 1) (set out k x) ≡ take k out ++ taken w s b x
  added q l = rw (← q, add-one k) (take-suc-set out k x l)

  pub passed : false ≡ is_gathered w s b x → take k out ≡ take k out ++ taken w s b x
  passed q = rw (← q) (sym (append-nil (take k out)))

-- those of the first i members; the rest are still to come
pub record Filled (w : Members) (s : Shard) (b : Board) (l filled : List Id) (i : ℕ) : Type 0 where
  pub whole : filled ++ keep (is_gathered w s b) (drop i l) ≡ keep (is_gathered w s b) l

keep_next : (f : Id → Bool) (l : List Id) (i : ℕ) → i < length l → keep f (drop i l) ≡ cond (f (get_or l i 0)) (get_or l i 0 ∷ []) [] ++ keep f (drop (i + 1) l)
unfolding keep
keep_next f l i h = rw (add-one i) (ap (keep f) (drop-cons l i 0 h) ∙ go (f (get_or l i 0)))
  where
    go : (c : Bool) → cond c (get_or l i 0 ∷ keep f (drop (suc i) l)) (keep f (drop (suc i) l)) ≡ cond c (get_or l i 0 ∷ []) [] ++ keep f (drop (suc i) l)
    go true = refl
    go false = refl

module _ {w : Members} {s : Shard} {b : Board} {l filled : List Id} {i : ℕ} (q : Filled w s b l filled i) where
  pub one_more : {x : Id} {next : List Id} → i < length l → x ≡ get_or l i 0 → next ≡ filled ++ taken w s b x → Filled w s b l next (i + 1)
  one_more h e p =
      let rest = keep (is_gathered w s b) (drop (i + 1) l) in
      let here = p ∙ ap (λ y. filled ++ taken w s b y) e in
      record {
        whole = ap (λ v. v ++ rest) here ∙ append_assoc filled (taken w s b (get_or l i 0)) rest ∙ ap (λ v. filled ++ v) (sym (keep_next (is_gathered w s b) l i h)) ∙ q.whole;
      }

  pub all_kept : length l ≤ i → filled ≡ keep (is_gathered w s b) l
  unfolding keep
  all_kept h = sym (append-nil filled) ∙ rw (drop_of_length-le l {i = i} h) at q.whole

-- ---- of a committee, by its shard

pub none_gathered : (w : Members) (s : Shard) (b : Board) → at s b.committees ≡ none → [] ≡ gathered w s b
unfolding keep
none_gathered w s b n = rw (members_none b s n)

pub all_gathered : (w : Members) (s : Shard) (b : Board) → well_formed b ≡ true → (j : ℕ) → j < length b.committees → (get_or b.committees j no_committee).key ≡ s
    → keep (is_gathered w s b) (get_or b.committees j no_committee).val ≡ gathered w s b
all_gathered w s b ok j l e = rw (members_at_lem b s j (committees_rise b ok) l e)
