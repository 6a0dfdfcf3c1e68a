-- The gate of a split, as the code has it at a row.
use Prim.Native.Nat.{ℕ, ◌+◌}
use mathlib.Core.Path.{◌≡◌, sym, subst, ◌∙◌}
use mathlib.Core.List.{List}
use mathlib.Core.Option.{none, none-ne-some, some-injective}
use mathlib.Core.Bool.{Bool, true, false, ◌&&◌}
use lib.Dec.{eqb, leb}
use lib.ListN.{get_or}
use Rattle.std.specs.Prelude.{Some, None}
use Rattle.types.specs.Numbers.{Shard, Id}
use Rattle.types.specs.Shards.{left_of, right_of, quorum}
use Rattle.types.specs.Places.{is_ready}
use Rattle.rules.specs.Lists.{◌and◌, count}
use Rattle.rules.specs.Table.{at, count_where}
use Rattle.rules.specs.Board.{Reshape, Board, size_of}
use Rattle.rules.specs.WellFormed.{well_formed}
use Rattle.rules.specs.Moves.{says}
use Rattle.rules.specs.Schedule.{ready_for, split_gate}
use Rattle.tables.proofs.Bools.{and_is}
use Rattle.board.specs.Held.{no_reshape}
use Rattle.drains.specs.Plans.{RowOf}
use Rattle.drains.proofs.Drains.{row_at}
use Rattle.halving.specs.Gate.{lefts, rights, Gate}

-- ---- the gate

pub half_is : (c : Shard) (half : List Id) (r : Reshape) (b : Board) (members seats : ℕ) → members ≡ count (says is_ready b) half
    → seats ≡ count_where (λ q. eqb q.child c and q.ready) r.seats → leb (quorum (size_of b)) (members + seats) ≡ leb (quorum (size_of b)) (ready_for c half r b)
unfolding ready_for
half_is c half r b members seats e f = rw (e, f)

module _ (t : Shard) (ids : List Id) (b : Board) where
  pub gate_is : (r : Reshape) (l q : Bool) (left right : List Id) → left ≡ lefts ids → right ≡ rights ids → l ≡ leb (quorum (size_of b)) (ready_for (left_of t) left r b)
      → q ≡ leb (quorum (size_of b)) (ready_for (right_of t) right r b) → (l && q) ≡ split_gate t (lefts ids) (rights ids) r b
  unfolding split_gate
  gate_is r l q left right c d e f = and_is l q ∙ rw (e, f, c, d)

  pub gate_none : at t b.reshapes ≡ none → Gate t ids b None
  gate_none n = λ q e. absurd (none-ne-some q (sym n ∙ e))

  module _ (i : ℕ) (r : RowOf t i b) where
    pub gate_open : split_gate t (lefts ids) (rights ids) (get_or b.reshapes i no_reshape).val b ≡ true → Gate t ids b (Some i)
    gate_open y = record { row = r; opens = y }

    pub gate_shut : well_formed b ≡ true → split_gate t (lefts ids) (rights ids) (get_or b.reshapes i no_reshape).val b ≡ false → Gate t ids b None
    gate_shut ok n = λ q e. subst (λ (x : Reshape). split_gate t (lefts ids) (rights ids) x b ≡ false) (some-injective _ q (sym (row_at b ok t i r) ∙ e)) n
