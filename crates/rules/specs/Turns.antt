-- What a step gives: a refusal has no board to give, so it changes nothing.
use Rattle.std.specs.Prelude.{ℕ, ◌+◌, ◌-◌, List, [], ◌∷◌, Bool, true, false, cond, not, length}
use Rattle.std.proofs.Math.Option.{none, some}
use Rattle.types.specs.Numbers.{Shard, Id}
use Rattle.types.specs.Places.{drawn_to}
use Rattle.types.specs.declared.Answer.{Answer}
use Rattle.types.specs.declared.Answer.TheVariants.{Done, NotWellFormed, DrawMissing, DrawTooLarge, NoRoom}
use Rattle.rules.specs.Board.{Board, epoch_of}
use Rattle.rules.specs.WellFormed.{well_formed}
use Rattle.rules.specs.Draws.{Drawn, drew, missing, too_large, draw_from}
use Rattle.rules.specs.Moves.{pool_of, put_on, may_join}

-- 'each step answers a number, the count handled and the draws used'
pub record Result : Type 0 where
  pub answer : Answer
  pub handled : ℕ
  pub used : ℕ
  pub board : Board

-- one turn: how many it handled, the draws that are left and the board; or the answer that refuses it
pub data Turn : Type 0 where
  finished : ℕ → List ℕ → Board → Turn
  refused : Answer → Turn

-- a check that fails, and the answer that it then gives
pub record Fault : Type 0 where
  pub fails : Bool
  pub answer : Answer

infix 70 ◌gives◌
abbrev pub ◌gives◌ : Bool → Answer → Fault
fails gives answer = record { fails = fails; answer = answer }

-- 'the first fault deciding'
unfoldable pub checked : List Fault → Turn → Turn
checked [] t = t
checked (f ∷ fs) t = cond f.fails (refused f.answer) (checked fs t)

-- 'then draws as needed': 9 and 10
unfoldable pub drawn : {A : Type 0} → Drawn A → (A → List ℕ → Turn) → Turn
drawn (drew a left) go = go a left
drawn missing go = refused DrawMissing
drawn too_large go = refused DrawTooLarge

-- the first check of every step
abbrev pub unless_well_formed : Board → Fault
unless_well_formed b = not (well_formed b) gives NotWellFormed

-- a step that is one turn: 'a refusal changes nothing'
unfoldable pub alone : List ℕ → Board → Turn → Result
alone draws b (finished n left c) = record { answer = Done; handled = n; used = length draws - length left; board = c }
alone draws b (refused a) = record { answer = a; handled = 0; used = 0; board = b }

-- turns over several shards: 'over many shards this holds of the refused one, later ones aren't tried, earlier ones stand'
unfoldable pub in_turn : (Shard → List ℕ → Board → Turn) → List Shard → ℕ → ℕ → List ℕ → Board → Result
in_turn turn [] handled used draws b = record { answer = Done; handled = handled; used = used; board = b }
in_turn turn (s ∷ l) handled used draws b =
    elim (turn s draws b) [
      | finished n left c ↦ in_turn turn l (handled + n) (used + (length draws - length left)) left c
      | refused a ↦ record { answer = a; handled = handled; used = used; board = b }
    ]

-- a step over several shards, whose list is fixed when the call begins
unfoldable pub batch : (Shard → List ℕ → Board → Turn) → List Shard → List ℕ → Board → Result
batch turn shards draws b =
    elim (well_formed b) [
      | true ↦ in_turn turn shards 0 0 draws b
      | false ↦ record { answer = NotWellFormed; handled = 0; used = 0; board = b }
    ]

-- a pool draw onto a shard, and what else is done with the one drawn; full: there is no room for that
unfoldable pub pool_draw : Shard → Bool → (Id → Board → Board) → List ℕ → Board → Turn
pool_draw s full also draws b =
    drawn (draw_from (pool_of b) draws) (λ found left.
    elim found [
      | none ↦ finished 0 left b
      | some x ↦ checked (not (may_join s (x ∷ []) b) gives NoRoom ∷ full gives NoRoom ∷ []) (finished 1 left (also x (put_on s (drawn_to s (epoch_of b)) x b)))
    ])
