-- A draw from the pool: what the reader told, and the turn that it makes.
use Prim.Native.Nat.{ℕ, ◌-◌}
use mathlib.Core.Path.{◌≡◌, refl, ap, sym, ◌∙◌}
use mathlib.Core.List.{List, [], ◌∷◌}
use mathlib.Core.Option.{none, some}
use mathlib.Core.Bool.{Bool, true, false}
use native.Mathlib.Omega.{arith}
use lib.ListN.{length, get_or}
use Rattle.types.specs.Numbers.{Id}
use Rattle.types.specs.Places.{drawn_to}
use Rattle.types.specs.declared.Answer.TheVariants.{DrawMissing, DrawTooLarge, NoRoom}
use Rattle.rules.specs.Board.{Board, epoch_of}
use Rattle.rules.specs.Draws.{Drawn, drew, missing, too_large, and_then, draw_index, draw_from}
use Rattle.rules.specs.Moves.{pool_of, put_on, may_join}
use Rattle.rules.specs.Turns.{finished, refused, checked, drawn, pool_draw}
use Rattle.sampling.specs.Reads.{no_draw, answer_to}
use Rattle.sampling.specs.declared.DrawError.{DrawError}
use Rattle.sampling.specs.declared.DrawError.TheVariants.{Missing, TooLarge}

-- ---- from a pool of n

pub from_none : (n : ℕ) (l ds : List ℕ) → n ≡ length l → n ≡ 0 → draw_from l ds ≡ drew none ds
unfolding draw_from
from_none n [] ds e z = refl
from_none n (x ∷ l) ds e z = absurd (omega arith)

pub from_some : (n : ℕ) (l ds : List ℕ) → n ≡ length l → (n ≡ 0 → ⊥) → (d : Drawn ℕ) → draw_index (n - 1) ds ≡ d → draw_from l ds ≡ and_then d (λ k left. drew (some (get_or l k 0)) left)
unfolding draw_from
from_some n [] ds e z d q = absurd (z e)
from_some n (x ∷ l) ds e z d q =
    let m : n - 1 ≡ length l = omega arith in
    ap (λ (y : Drawn ℕ). and_then y (λ k left. drew (some (get_or (x ∷ l) k 0)) left)) (ap (λ (p : ℕ). draw_index p ds) (sym m) ∙ q)

-- a draw from some that gives nothing
pub from_failed : (n : ℕ) (l ds : List ℕ) → n ≡ length l → (n ≡ 0 → ⊥) → (e : DrawError) → draw_index (n - 1) ds ≡ no_draw e → draw_from l ds ≡ no_draw e
unfolding and_then
from_failed n l ds w z Missing q = from_some n l ds w z _ q
from_failed n l ds w z TooLarge q = from_some n l ds w z _ q

-- ---- the turn, whatever else is done with the one drawn

module _ (s : ℕ) (full : Bool) (also : Id → Board → Board) (ds : List ℕ) (b : Board) where
  pub turn_missing : draw_from (pool_of b) ds ≡ missing → pool_draw s full also ds b ≡ refused DrawMissing
  unfolding pool_draw drawn
  turn_missing e = rw e

  pub turn_large : draw_from (pool_of b) ds ≡ too_large → pool_draw s full also ds b ≡ refused DrawTooLarge
  unfolding pool_draw drawn
  turn_large e = rw e

  pub turn_failed : (e : DrawError) → draw_from (pool_of b) ds ≡ no_draw e → pool_draw s full also ds b ≡ refused (answer_to e)
  turn_failed Missing q = turn_missing q
  turn_failed TooLarge q = turn_large q

  pub turn_nobody : (left : List ℕ) → draw_from (pool_of b) ds ≡ drew none left → pool_draw s full also ds b ≡ finished 0 left b
  unfolding pool_draw drawn
  turn_nobody left e = rw e

  module _ (x : ℕ) (left : List ℕ) (e : draw_from (pool_of b) ds ≡ drew (some x) left) where
    pub turn_no_room : may_join s (x ∷ []) b ≡ false → pool_draw s full also ds b ≡ refused NoRoom
    unfolding pool_draw drawn checked
    turn_no_room m = rw (e, m)

    pub turn_full : may_join s (x ∷ []) b ≡ true → full ≡ true → pool_draw s full also ds b ≡ refused NoRoom
    unfolding pool_draw drawn checked
    turn_full m f = rw (e, m, f)

    pub turn_seats : may_join s (x ∷ []) b ≡ true → full ≡ false → pool_draw s full also ds b ≡ finished 1 left (also x (put_on s (drawn_to s (epoch_of b)) x b))
    unfolding pool_draw drawn checked
    turn_seats m f = rw (e, m, f)
