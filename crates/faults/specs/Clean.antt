-- A board on which the finders find nothing.
use Rattle.std.specs.Prelude.{ℕ, ◌+◌, ◌<◌, ◌≡◌, Bool, true, length, get_or}
use Rattle.rules.specs.Board.{Board}
use Rattle.board.specs.Held.{no_committee, no_reshape}
use Rattle.faults.specs.Firsts.{stray_member, unlisted_machine, absent_seat, unseated_rotation, sharing_rotation, rotation_there, unhalved_machine, overlapping_reshape, unfounded_reshape}

-- a clause holds exactly where nothing is found
pub record Exactly (clause : Bool) (Clean : Type 0) : Type 0 where
  pub clean : clause ≡ true → Clean
  pub holds : Clean → clause ≡ true

module _ (b : Board) where
  abbrev pub NoStray : Type 0
  NoStray = (j : ℕ) → j < length b.committees → stray_member b j 0 ≡ length (get_or b.committees j no_committee).val

  abbrev pub NoneUnlisted : Type 0
  NoneUnlisted = unlisted_machine b 0 ≡ length b.machines

  abbrev pub NoneAbsent : Type 0
  NoneAbsent = (i : ℕ) → i < length b.reshapes → absent_seat b i 0 ≡ length (get_or b.reshapes i no_reshape).val.seats

  -- each rotation is held against those after it
  pub record NoMisfit : Type 0 where
    pub seated : unseated_rotation b 0 ≡ length b.rotations
    pub apart : (i : ℕ) → i < length b.rotations → sharing_rotation b i (i + 1) ≡ length b.rotations

  pub record NoneUncarved : Type 0 where
    pub still : (i : ℕ) → i < length b.reshapes → rotation_there b i 0 ≡ length b.rotations
    pub halved : (i : ℕ) → i < length b.reshapes → unhalved_machine b i 0 ≡ length b.machines

  -- each reshape is held against those after it
  abbrev pub NoOverlap : Type 0
  NoOverlap = (i : ℕ) → i < length b.reshapes → overlapping_reshape b i (i + 1) ≡ length b.reshapes

  abbrev pub NoneUnfounded : Type 0
  NoneUnfounded = unfounded_reshape b 0 ≡ length b.reshapes

  pub record NoFault : Type 0 where
    pub members : NoStray
    pub machines : NoneUnlisted
    pub cohorts : NoneAbsent
    pub parties : NoMisfit
    pub scheduled : NoneUncarved
    pub families : NoOverlap
    pub founded : NoneUnfounded
