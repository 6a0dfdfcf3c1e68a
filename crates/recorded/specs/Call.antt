-- A recorded call, and whether the definitions compute what was recorded.
use Rattle.std.specs.Prelude.{ℕ, ◌-◌, List, [], ◌∷◌, Bool, true, false, eqb, get_or}
use Rattle.std.proofs.Math.Option.{Option, none, some}
use Rattle.types.specs.Numbers.{Shard, Id}
use Rattle.types.specs.Answers.{number_of}
use Rattle.rules.specs.Lists.{all_of, equal}
use Rattle.rules.specs.Board.{Board}
use Rattle.rules.specs.Snapshot.{words_of, read_board, board_of, snapshot_answer}
use Rattle.rules.specs.Turns.{Result}
use Rattle.rules.specs.Calls as calls

-- step, then shard, machine and side, then draws; the words before; answer, handled, draws used; the words after
pub record Call : Type 0 where
  pub step : ℕ
  pub arguments : List ℕ
  pub draws : List ℕ
  pub before : List ℕ
  pub answer : ℕ
  pub handled : ℕ
  pub used : ℕ
  pub after : List ℕ

abbrev pub call : ℕ → List ℕ → List ℕ → List ℕ → ℕ → ℕ → ℕ → List ℕ → Call
call step arguments draws before answer handled used after =
    record { step = step; arguments = arguments; draws = draws; before = before; answer = answer; handled = handled; used = used; after = after }

-- the steps in document 01's order: 1 tick to 15 time out
unfoldable pub steps : Shard → Id → ℕ → List ℕ → List calls.Call
steps s x side draws =
    calls.tick
    ∷ calls.admit_split s
    ∷ calls.admit_merge s draws
    ∷ calls.mark_seat_ready s x
    ∷ calls.mark_quiet s side
    ∷ calls.draw_cohort s draws
    ∷ calls.lapse s
    ∷ calls.schedule_splits draws
    ∷ calls.schedule_merges
    ∷ calls.cut_splits
    ∷ calls.cut_merges
    ∷ calls.leave x draws
    ∷ calls.rotate s x draws
    ∷ calls.resolve
    ∷ calls.time_out
    ∷ []

unfoldable pub call_of : Call → calls.Call
call_of c = get_or (steps (get_or c.arguments 0 0) (get_or c.arguments 1 0) (get_or c.arguments 2 0) c.draws) (c.step - 1) calls.tick

-- the words are a board's: the definitions answer as recorded, and leave the words recorded
unfoldable pub step_agrees : Call → Result → Bool
step_agrees c r =
    all_of
    (eqb (number_of r.answer) c.answer
    ∷ eqb r.handled c.handled
    ∷ eqb r.used c.used
    ∷ equal (words_of r.board) c.after
    ∷ [])

-- they are no board's: 1, nothing handled, nothing drawn, the words as they were
unfoldable pub refusal_agrees : Call → Bool
refusal_agrees c = all_of (eqb c.answer 1 ∷ eqb c.handled 0 ∷ eqb c.used 0 ∷ equal c.before c.after ∷ [])

-- a read: 0 with the board's words, or 13 with none
unfoldable pub read_agrees : Call → Option Board → Bool
read_agrees c none = all_of (eqb (number_of (snapshot_answer none)) c.answer ∷ equal [] c.after ∷ [])
read_agrees c (some b) = all_of (eqb (number_of (snapshot_answer (some b))) c.answer ∷ equal (words_of b) c.after ∷ [])

unfoldable pub agrees : Call → Bool
agrees c =
    let b = (read_board c.before).0 in
    elim (eqb c.step 16) [
      | true ↦ read_agrees c (board_of c.before)
      | false ↦ elim (equal (words_of b) c.before) [ true ↦ step_agrees c (calls.answer_to (call_of c) b) | false ↦ refusal_agrees c ]
    ]
