-- Mark quiet, as the code has it: each way out.
use mathlib.Core.Path.{◌≡◌, refl, subst, ◌∙◌}
use mathlib.Core.List.{List}
use mathlib.Core.Option.{none}
use mathlib.Core.Bool.{Bool, true, false}
use Prim.Native.Nat.{ℕ, ◌≤◌, ◌<◌}
use native.Mathlib.Omega.{arith}
use borrow.Author.Tests.{lt-ltb, le-ltb}
use lib.Dec.{eqb, ltb}
use lib.ListN.{length, get_or, set}
use Rattle.types.specs.declared.Answer.TheVariants.{Done, OutOfRange, NotThere}
use Rattle.types.specs.declared.Outcome.{Outcome}
use Rattle.rules.specs.Lists.{◌or◌}
use Rattle.rules.specs.Table.{entry, at, holds_at}
use Rattle.rules.specs.Board.{Board, Reshape, merge, on_reshapes}
use Rattle.rules.specs.WellFormed.{is_target, well_formed}
use Rattle.rules.specs.Moves.{is_kind, with_quiet}
use Rattle.rules.specs.Turns.{checked, alone}
use Rattle.rules.specs.Reshapes.{has_side, quieted, mark_quiet}
use Rattle.rules.proofs.KeptTables.{holds_at_lem}
use Rattle.tables.proofs.Keys.{at_is}
use Rattle.board.specs.Held.{Holds, no_reshape}
use Rattle.board.specs.Leaves.{change_at}
use Rattle.board.proofs.Keyed.{update_is_change, reshapes_rise}
use Rattle.reshapes.specs.declared.Side.{Side}
use Rattle.reshapes.specs.declared.Side.TheVariants.{Left, Right}
use Rattle.reshapes.specs.Changes.{with_quiet_on}
use Rattle.steps.specs.Inner.{outcome, Step}
use Rattle.marks.specs.Sides.{side_number}

-- a side made quiet, as the leaf writes it
made_on : (s : Side) (r : Reshape) → with_quiet_on s r ≡ quieted (side_number s) r
unfolding quieted ◌or◌
made_on Left r = go r.quiet_left r.quiet_right
  where
    go : (p q : Bool) → with_quiet (λ _. true) (λ _. q) r ≡ with_quiet (λ _. p or true) (λ _. q or false) r
    go true true = refl
    go true false = refl
    go false true = refl
    go false false = refl
made_on Right r = go r.quiet_left r.quiet_right
  where
    go : (p q : Bool) → with_quiet (λ _. p) (λ _. true) r ≡ with_quiet (λ _. p or false) (λ _. q or true) r
    go true true = refl
    go true false = refl
    go false true = refl
    go false false = refl

pub side_made : (b : Board) (i : ℕ) (ws : List ℕ) (s : Side) → Holds ws (on_reshapes (change_at no_reshape i (with_quiet_on s)) b) → Holds ws (on_reshapes (change_at no_reshape i (quieted (side_number s))) b)
side_made b i ws s h = subst (λ (v : Reshape). Holds ws (on_reshapes (λ t. set t i (entry (get_or t i no_reshape).key v)) b)) (made_on s (get_or b.reshapes i no_reshape).val) h

pub side_within : (s : Side) → side_number s ≤ 1
side_within Left = omega arith
side_within Right = omega arith

module _ (b : Board) (ok : well_formed b ≡ true) (after : List ℕ) (r : Outcome) (t side : ℕ) where
  pub no_target : is_target t ≡ false → Holds after b → r ≡ outcome OutOfRange 0 0 → Step (mark_quiet t side) b after r
  unfolding mark_quiet alone checked
  no_target n h e = record { told = rw (ok, n) e; left = rw (ok, n) h }

  pub side_too_large : is_target t ≡ true → 1 < side → Holds after b → r ≡ outcome OutOfRange 0 0 → Step (mark_quiet t side) b after r
  unfolding mark_quiet alone checked
  side_too_large y l h e = let s : ltb 1 side ≡ true = lt-ltb 1 side l in record { told = rw (ok, y, s) e; left = rw (ok, y, s) h }

  module _ (y : is_target t ≡ true) (l : side ≤ 1) where
    not_there : has_side t side b ≡ false → Holds after b → r ≡ outcome NotThere 0 0 → Step (mark_quiet t side) b after r
    unfolding mark_quiet alone checked
    not_there n h e = let s : ltb 1 side ≡ false = le-ltb 1 side l in record { told = rw (ok, y, s, n) e; left = rw (ok, y, s, n) h }

    pub no_reshape_lem : at t b.reshapes ≡ none → Holds after b → r ≡ outcome NotThere 0 0 → Step (mark_quiet t side) b after r
    unfolding has_side holds_at
    no_reshape_lem n h e = not_there (rw (n, holds_at)) h e

    module _ (i : ℕ) (here : i < length b.reshapes) (named : (get_or b.reshapes i no_reshape).key ≡ t) where
      side_is : has_side t side b ≡ (eqb side 0 or is_kind merge (get_or b.reshapes i no_reshape).val)
      unfolding has_side
      side_is = holds_at_lem t _ b.reshapes _ (at_is b.reshapes (reshapes_rise b ok) t i no_reshape here named)

      pub no_side : (eqb side 0 or is_kind merge (get_or b.reshapes i no_reshape).val) ≡ false → Holds after b → r ≡ outcome NotThere 0 0 → Step (mark_quiet t side) b after r
      no_side n h e = not_there (side_is ∙ n) h e

      pub made_quiet : (eqb side 0 or is_kind merge (get_or b.reshapes i no_reshape).val) ≡ true → Holds after (on_reshapes (change_at no_reshape i (quieted side)) b) → r ≡ outcome Done 1 0
          → Step (mark_quiet t side) b after r
      unfolding mark_quiet alone checked
      made_quiet n h e =
          let s : ltb 1 side ≡ false = le-ltb 1 side l in
          let q : has_side t side b ≡ true = side_is ∙ n in
          record {
            told = rw (ok, y, s, q) e;
            left = rw (ok, y, s, q, update_is_change b.reshapes (reshapes_rise b ok) t i no_reshape here named (quieted side)) h;
          }
