-- What a row is asked, as the code writes its test.
use mathlib.Core.Path.{◌≡◌, refl, sym}
use mathlib.Core.Bool.{Bool, true, false, not, ◌&&◌, ◌||◌}
use lib.Dec.{eqb}
use Rattle.types.specs.Numbers.{Shard, Id}
use Rattle.types.specs.Places.{is_seated_on, observes}
use Rattle.types.specs.declared.Place.{Place}
use Rattle.rules.specs.Lists.{◌or◌}
use Rattle.rules.specs.Table.{Entry, is_some}
use Rattle.rules.specs.Board.{Rotation, split, merge, Reshape, Board}
use Rattle.rules.specs.Moves.{says, is_on, is_kind}
use Rattle.rules.specs.Places.{is_scheduled_split}
use Rattle.rules.specs.SeatCheck.{is_in_one_half}
use Rattle.tables.proofs.Bools.{and_is}
use Rattle.moves.proofs.Exiting.{split_unless}
use Rattle.parties.specs.Pairs.{share_party}
use Rattle.faults.specs.Firsts.{parties_sit, leaves_alone, is_halved}

-- a row that fails where the code's test says yes
pub unless : (c d : Bool) → c ≡ d → c ≡ not (not d)
unless c true e = e
unless c false e = e

pub shares : (c : Bool) (p q p' q' : Rotation) → c ≡ share_party p q → p ≡ p' → q ≡ q' → c ≡ not (not (share_party p' q'))
shares c p q p' q' e i j = rw (← i, ← j) (unless c _ e)

pub seat_asked : (b : Board) (e : Entry Reshape) (x : Id) (m c : Bool) → m ≡ is_kind merge e.val → c ≡ says (observes e.key) b x → (m || c) ≡ (not (is_kind split e.val) or says (observes e.key) b x)
unfolding ◌or◌
seat_asked b e x m c i j = rw (split_unless e.val m (sym i), ← j) (go m)
  where
    go : (m : Bool) → (m || c) ≡ (not (not m) or c)
    go true = refl
    go false = refl

pub parties_asked : (b : Board) (r : Rotation) (a c d : Bool) → a ≡ not (eqb r.entrant r.victim) → c ≡ says (is_seated_on r.shard) b r.victim → d ≡ says (is_seated_on r.shard) b r.entrant
    → (a && (c && d)) ≡ parties_sit b r
parties_asked b r a c d h i j = rw (h, ← i, ← j, and_is c) (and_is _ _)

-- ---- a scheduled split

module _ (e : Entry Reshape) (m t : Bool) (i : m ≡ is_kind merge e.val) (j : t ≡ is_some e.val.terminal) where
  scheduled_is : (not m && t) ≡ is_scheduled_split e.val
  unfolding is_scheduled_split
  scheduled_is = rw (split_unless e.val m (sym i), ← j) (and_is _ _)

  pub rotation_asked : (s : Shard) (r q : Rotation) (h : Bool) → h ≡ is_on s r → s ≡ e.key → r ≡ q → ((not m && t) && h) ≡ not (leaves_alone e q)
  unfolding ◌or◌
  rotation_asked s r q h o k n = rw (o, scheduled_is, k, n) (go (is_scheduled_split e.val) (is_on e.key q))
    where
      go : (c d : Bool) → (c && d) ≡ not (not c or not d)
      go true true = refl
      go true false = refl
      go false d = refl

  pub machine_asked : (p : Entry Place) (h : Bool) → h ≡ is_in_one_half e.key e.val p → ((not m && t) && not h) ≡ not (is_halved e p)
  unfolding ◌or◌
  machine_asked p h k = rw (scheduled_is, ← k) (go (is_scheduled_split e.val))
    where
      go : (c : Bool) → (c && not h) ≡ not (not c or h)
      go true = refl
      go false = refl
