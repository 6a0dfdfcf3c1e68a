-- A half stored id by id, and both after the terminal.
use Prim.Native.Nat.{ℕ, ◌+◌, ◌-◌, ◌≤◌, ◌<◌}
use mathlib.Core.Path.{◌≡◌, refl, ap, ◌∙◌}
use mathlib.Core.List.{List, [], ◌∷◌, ◌++◌, append_assoc, append-nil}
use mathlib.Core.Bool.{true}
use native.Mathlib.Omega.{arith}
use native.Mathlib.Numerals.{add-one}
use lib.ListN.{length, get_or, take, drop, length-set, length-append, length-take, length-drop}
use lib.Seq.{take_all, take-suc, get_or-set_same, set-get_or}
use Rattle.types.specs.Numbers.{Shard, Id}
use Rattle.rules.specs.Board.{Reshape, Board, most_members, most_half, on_bounds, on_reshapes, epoch_of}
use Rattle.rules.specs.WellFormed.{well_formed}
use Rattle.rules.specs.Moves.{with_terminal, old_shards, marked_boundary}
use Rattle.rules.specs.Reshapes.{half_up}
use Rattle.rules.specs.Schedule.{scheduled}
use Rattle.board.specs.Held.{Holds, no_reshape}
use Rattle.board.specs.Leaves.{change_at}
use Rattle.reshapes.specs.declared.Side.{Side}
use Rattle.reshapes.specs.declared.Side.TheVariants.{Left, Right}
use Rattle.reshapes.specs.Changes.{half_of, with_half}
use Rattle.drains.specs.Plans.{RowOf}
use Rattle.drains.proofs.Schedules.{change_twice, marks, scheduled_at}
use Rattle.halving.specs.Gate.{lefts, rights}

-- the halves of a list, as the code lends them
pub lent_rest : (ids : List Id) (n : ℕ) → n ≡ half_up (length ids) → take (length ids - n) (drop n ids) ≡ rights ids
lent_rest ids n e = rw e (take_all (length ids - half_up (length ids)) (rights ids) (rw length-drop (omega arith)))

pub lent_front : (ids : List Id) (n : ℕ) → n ≡ half_up (length ids) → take n ids ≡ lefts ids
lent_front ids n e = rw e

-- ---- one reshape

on_none : (side : Side) (v : Reshape) → with_half side (λ h. h ++ []) v ≡ v
on_none Left v = rw (append-nil v.left)
on_none Right v = rw (append-nil v.right)

on_more : (side : Side) (ids : List Id) (x : Id) (v : Reshape) → with_half side (λ h. h ++ (x ∷ [])) (with_half side (λ h. h ++ ids) v) ≡ with_half side (λ h. h ++ (ids ++ (x ∷ []))) v
on_more Left ids x v = rw (append_assoc v.left ids (x ∷ []))
on_more Right ids x v = rw (append_assoc v.right ids (x ∷ []))

with_half_lem : (side : Side) (ids : List Id) (v : Reshape) → half_of side (with_half side (λ h. h ++ ids) v) ≡ half_of side v ++ ids
with_half_lem Left ids v = refl
with_half_lem Right ids v = refl

-- ---- its row

module _ (b : Board) (i : ℕ) (l : i < length b.reshapes) (side : Side) where
  abbrev row : Reshape
  row = (get_or b.reshapes i no_reshape).val

  -- those ids added to the half
  abbrev pub With : List Id → Board
  With ids = on_reshapes (change_at no_reshape i (with_half side (λ h. h ++ ids))) b

  pub none_stored : (now : List ℕ) → Holds now b → Holds now (With [])
  none_stored now h = rw (on_none side row, set-get_or b.reshapes i no_reshape) h

  pub half_long : (ids : List Id) → length (half_of side (get_or (With ids).reshapes i no_reshape).val) ≡ length (half_of side row) + length ids
  half_long ids = rw (get_or-set_same b.reshapes i _ no_reshape l) (ap length (with_half_lem side ids row) ∙ length-append (half_of side row) ids)

  pub one_stored : (half : List Id) (k : ℕ) → k < length half → (after : List ℕ) → Holds after (on_reshapes (change_at no_reshape i (with_half side (λ h. h ++ (get_or half k 0 ∷ [])))) (With (take k half)))
      → Holds after (With (take (k + 1) half))
  one_stored half k m after h =
      rw (add-one k, take-suc half k 0 m, ← on_more side (take k half) (get_or half k 0) row)
      (rw (change_twice no_reshape i (with_half side (λ h. h ++ take k half)) (with_half side (λ h. h ++ (get_or half k 0 ∷ []))) b.reshapes l) at h)

  pub all_stored : (half : List Id) (k : ℕ) → length half ≤ k → (after : List ℕ) → Holds after (With (take k half)) → Holds after (With half)
  all_stored half k m after h = rw (take_all k half m) at h

-- ---- both halves

module _ (b : Board) (ok : well_formed b ≡ true) (t : Shard) (i : ℕ) (at_i : RowOf t i b) where
  abbrev before : Reshape
  before = (get_or b.reshapes i no_reshape).val

  -- the terminal set, with no halves
  abbrev pub Base : Board
  Base = on_reshapes (change_at no_reshape i (with_terminal (epoch_of b + 1) [] [])) (on_bounds (marks (marked_boundary (epoch_of b + 1) before.admitted) (old_shards before.kind t)) b)

  pub base_holds : (after : List ℕ) → Holds after (scheduled t before [] [] b) → Holds after Base
  base_holds after h = rw (scheduled_at b ok t i at_i [] []) at h

  pub base_inside : i < length Base.reshapes
  base_inside = simp length-set at_i.inside

  module _ (ids : List Id) (few : length ids ≤ most_members) (left right : List Id) (d : left ≡ lefts ids) (e : right ≡ rights ids) where
    pub left_room : length (half_of Left (get_or Base.reshapes i no_reshape).val) + length left ≤ most_half
    left_room = rw (get_or-set_same b.reshapes i _ no_reshape at_i.inside, d, length-take) (omega arith)

    -- the left half stored
    abbrev pub Lefts : Board
    Lefts = on_reshapes (change_at no_reshape i (with_half Left (λ h. h ++ left))) Base

    pub lefts_inside : i < length Lefts.reshapes
    lefts_inside = simp length-set at_i.inside

    pub right_room : length (half_of Right (get_or Lefts.reshapes i no_reshape).val) + length right ≤ most_half
    right_room =
        rw (get_or-set_same Base.reshapes i _ no_reshape base_inside, get_or-set_same b.reshapes i _ no_reshape at_i.inside, e, length-drop) (omega arith)

    stored : change_at no_reshape i (with_half Right (λ h. h ++ right)) (change_at no_reshape i (with_half Left (λ h. h ++ left)) (change_at no_reshape i (with_terminal (epoch_of b + 1) [] []) b.reshapes))
        ≡ change_at no_reshape i (with_terminal (epoch_of b + 1) left right) b.reshapes
    stored =
        ap (change_at no_reshape i (with_half Right (λ h. h ++ right))) (change_twice no_reshape i (with_terminal (epoch_of b + 1) [] []) (with_half Left (λ h. h ++ left)) b.reshapes at_i.inside)
        ∙ change_twice no_reshape i (λ v. with_half Left (λ h. h ++ left) (with_terminal (epoch_of b + 1) [] [] v)) (with_half Right (λ h. h ++ right)) b.reshapes at_i.inside

    pub halves_set : (after : List ℕ) → Holds after (on_reshapes (change_at no_reshape i (with_half Right (λ h. h ++ right))) Lefts) → Holds after (scheduled t before (lefts ids) (rights ids) b)
    halves_set after h = rw (← d, ← e, scheduled_at b ok t i at_i left right, ← stored) h
