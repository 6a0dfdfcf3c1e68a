-- A rotation's row, what is asked of one, and a search among them.
use Prim.Native.Nat.{ℕ, ◌≤◌, ◌<◌}
use mathlib.Core.Path.{◌≡◌, refl}
use mathlib.Core.List.{List}
use mathlib.Core.Bool.{Bool, ◌&&◌, ◌||◌}
use borrow.Author.Tests.{lt-ltb, le-ltb}
use lib.Dec.{eqb, ltb}
use lib.ListN.{length, get_or, replicate}
use Rattle.std.specs.Prelude.{Option, Some, None}
use Rattle.rules.specs.Board.{Rotation}
use Rattle.rules.specs.WellFormed.{rotation_before}
use Rattle.rules.specs.Moves.{has_party}
use Rattle.rules.specs.Snapshot.{rotation_words}
use Rattle.tables.specs.Rows.{first_where}
use Rattle.tables.proofs.Bools.{or_is, and_is}
use Rattle.board.specs.Layout.{rotation_width}
use Rattle.board.specs.Held.{no_rotation}
use Rattle.shards.specs.Rotations.{found_where}

pub rotation_back : (t : List ℕ) (q : Rotation) → t ≡ rotation_words q
    → ◌≡◌ {A = Rotation} (record { shard = get_or t 0 0; victim = get_or t 1 0; entrant = get_or t 2 0; opened = get_or t 3 0 }) q
unfolding rotation_words
rotation_back t q e = rw e

pub rotation_key : (r : Rotation) → get_or (rotation_words r) 0 0 ≡ r.shard
unfolding rotation_words
rotation_key r = refl

pub no_rotation_lem : rotation_words no_rotation ≡ replicate rotation_width 0
unfolding rotation_words
no_rotation_lem = refl

-- ---- tests as the code writes them

pub before_is : (p q : Rotation) (s v : ℕ) → p.shard ≡ s → p.victim ≡ v → (ltb s q.shard || (eqb s q.shard && ltb v q.victim)) ≡ rotation_before p q
unfolding rotation_before
before_is p q s v e f = rw (← e, ← f, and_is) (or_is _ _)

pub party_is : (q : Rotation) (s x : ℕ) → (eqb q.shard s && (eqb q.victim x || eqb q.entrant x)) ≡ has_party s x q
unfolding has_party
party_is q s x = rw or_is (and_is _ _)

-- ---- the first that passes a test, told as an option

module _ (f : Rotation → Bool) (l : List Rotation) where
  pub one_found : (i : ℕ) → i < length l → i ≡ first_where f l → Some i ≡ found_where f l
  one_found i h e = rw (← e, lt-ltb i (length l) h)

  pub none_found : (i : ℕ) → length l ≤ i → i ≡ first_where f l → ◌≡◌ {A = Option ℕ} None (found_where f l)
  none_found i h e = rw (← e, le-ltb i (length l) h)
