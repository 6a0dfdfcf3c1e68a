-- Abort, as the code has it: the entrants that have left, and those to come.
use Prim.Native.Nat.{ℕ, ◌+◌, ◌≤◌, ◌<◌}
use mathlib.Core.Path.{◌≡◌, refl, ap, sym, ◌∙◌}
use mathlib.Core.List.{List, []}
use mathlib.Core.Bool.{Bool, true, false, cond}
use native.Mathlib.Numerals.{add-one}
use lib.ListN.{length, get_or, drop, drop_of_length-le}
use lib.Seq.{drop-cons}
use lib.Dec.{eqb}
use Rattle.types.specs.Numbers.{Shard, Id}
use Rattle.types.specs.Places.{shard_id, is_seated_on}
use Rattle.rules.specs.Board.{Rotation, Board, on_rotations}
use Rattle.rules.specs.WellFormed.{well_formed}
use Rattle.rules.specs.Moves.{place, quit, take_off, for_all, pooled_from, is_on, drop_rotations, entrants_on, abort_rotations}
use Rattle.board.specs.Held.{Holds, no_rotation}
use Rattle.moves.proofs.Kept.{taken_well}
use Rattle.moves.specs.declared.Exit.TheVariants.{FromSeat}
use Rattle.committee.specs.Aborted.{entrant_left}

module _ (s : Shard) (b : Board) (q : Rotation) (after : List ℕ) where
  pub entrant_leaves : eqb q.shard s ≡ true → Holds after (take_off s (pooled_from (is_seated_on s)) q.entrant b) → Holds after (entrant_left s q b)
  entrant_leaves e h = rw e h

  pub entrant_stays : eqb q.shard s ≡ false → Holds after b → Holds after (entrant_left s q b)
  entrant_stays n h = rw n h

abbrev leaves : Shard → Id → Board → Board
leaves s = take_off s (pooled_from (is_seated_on s))

-- i rotations have had their turn
pub record Left (s : Shard) (b : Board) (i : ℕ) (ws : List ℕ) : Type 0 where
  pub board : Board
  pub held : Holds ws board
  pub good : well_formed board ≡ true
  pub rotations : board.rotations ≡ b.rotations
  pub rest : for_all (leaves s) (entrants_on s (drop i b.rotations)) board ≡ for_all (leaves s) (entrants_on s b.rotations) b

pub none_left : (s : Shard) (b : Board) (ws : List ℕ) → Holds ws b → well_formed b ≡ true → Left s b 0 ws
none_left s b ws h ok = record { board = b; held = h; good = ok; rotations = refl; rest = refl }

module _ (s : Shard) (b : Board) (i : ℕ) (ws : List ℕ) (w : Left s b i ws) where
  pub one_left : i < length b.rotations → (after : List ℕ)
      → ((c : Board) → Holds ws c → well_formed c ≡ true → i < length c.rotations → Holds after (entrant_left s (get_or c.rotations i no_rotation) c)) → Left s b (i + 1) after
  unfolding entrants_on for_all take_off quit place
  one_left l after step =
      let same : get_or w.board.rotations i no_rotation ≡ get_or b.rotations i no_rotation = ap (λ (k : List Rotation). get_or k i no_rotation) w.rotations in
      go (is_on s now) refl (rw same at (step w.board w.held w.good (rw w.rotations l)))
    where
      now : Rotation
      now = get_or b.rotations i no_rotation

      go : (c : Bool) → is_on s now ≡ c → Holds after (cond c (leaves s now.entrant w.board) w.board) → Left s b (i + 1) after
      go true e h = record {
        board = leaves s now.entrant w.board;
        held = h;
        good = taken_well w.board w.good now.entrant (FromSeat (shard_id s)) s;
        rotations = w.rotations;
        rest = rw (add-one i) (sym (ap (λ (k : List Rotation). for_all (leaves s) (entrants_on s k) w.board) (drop-cons b.rotations i no_rotation l) ∙ rw e) ∙ w.rest);
      }
      go false e h = record {
        board = w.board;
        held = h;
        good = w.good;
        rotations = w.rotations;
        rest = rw (add-one i) (sym (ap (λ (k : List Rotation). for_all (leaves s) (entrants_on s k) w.board) (drop-cons b.rotations i no_rotation l) ∙ rw e) ∙ w.rest);
      }

  -- past the last row, the rotations go
  pub all_left : length b.rotations ≤ i → (after : List ℕ) → ((c : Board) → Holds ws c → Holds after (on_rotations (drop_rotations s) c)) → Holds after (abort_rotations s b)
  unfolding abort_rotations entrants_on for_all
  all_left l after step =
      let z : drop i b.rotations ≡ [] = drop_of_length-le b.rotations {i = i} l in
      let e = ap (λ (k : List Rotation). for_all (leaves s) (entrants_on s k) w.board) (sym z) ∙ w.rest in
      rw (← e) (step w.board w.held)
