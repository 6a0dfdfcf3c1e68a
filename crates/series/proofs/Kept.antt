-- Demand 3, of the exported calls.
use Prim.Native.Nat.{ℕ}
use mathlib.Core.Path.{◌≡◌, ap, subst, ◌∙◌}
use mathlib.Core.List.{List, [], ◌∷◌}
use mathlib.Core.Option.{none, some}
use mathlib.Core.Bool.{true}
use lib.ListN.{length}
use Rattle.types.specs.Numbers.{Shard, Id, Epoch}
use Rattle.types.specs.Answers.{number_of}
use Rattle.types.specs.declared.Outcome.{Outcome}
use Rattle.rules.specs.Board.{Board}
use Rattle.rules.specs.WellFormed.{well_formed}
use Rattle.rules.specs.Turns.{Result}
use Rattle.rules.specs.SeatCheck.{seat_check}
use Rattle.rules.specs.Calls.{Call, tick, admit_split, admit_merge, mark_seat_ready, mark_quiet, draw_cohort, lapse, schedule_splits, schedule_merges, cut_splits, cut_merges, leave, rotate, resolve, time_out, answer_to}
use Rattle.rules.specs.Series.{next, after, stamp_at, last_seating, drawn_in, sent_back}
use Rattle.rules.proofs.Kept.{well_formed_kept}
use Rattle.rules.proofs.SeatsKept.{seat_check_formed, seat_check_kept_by_all}
use Rattle.rules.proofs.Stamps.{stamps_told}
use Rattle.rules.proofs.Lapse.{lapse_sends_back}
use Rattle.board.specs.Held.{Holds}
use Rattle.board.proofs.One.{one_board}
use Rattle.board.proofs.Permits.{given_board}
use Rattle.seats.specs.Tells.{SeatedWell}
use Rattle.roster.specs.Exported.{ExportedStep, ExportedCheck}
use Rattle.series.specs.Made.{Contract, Made, begun, called}

-- an export's contract is the step's
step_of : (c : Call) (before after : List ℕ) (number : ℕ) (results : List ℕ) → Contract c before after number results → ExportedStep (answer_to c) before after number results
unfolding Contract answer_to
step_of tick u v n r h = h
step_of (admit_split t) u v n r h = h
step_of (admit_merge t draws) u v n r h = h
step_of (mark_seat_ready t x) u v n r h = h
step_of (mark_quiet t side) u v n r h = h
step_of (draw_cohort t draws) u v n r h = h
step_of (lapse t) u v n r h = h
step_of (schedule_splits draws) u v n r h = h
step_of schedule_merges u v n r h = h
step_of cut_splits u v n r h = h
step_of cut_merges u v n r h = h
step_of (leave x draws) u v n r h = h
step_of (rotate s v draws) u w n r h = h
step_of resolve u v n r h = h
step_of time_out u v n r h = h

-- a call on a well-formed board's words: its number, its results and the next board
told : (c : Call) (u v : List ℕ) (n : ℕ) (r : List ℕ) (b : Board) → Contract c u v n r → Holds u b → well_formed b ≡ true
    → (n ≡ number_of (answer_to c b).answer) × (r ≡ (answer_to c b).handled ∷ (answer_to c b).used ∷ []) × Holds v (next c b)
told c u v n r b h w g =
    let s = step_of c u v n r h in
    let d = given_board _ _ _ u v s.outcome b s.permitted w g in (
      s.answer ∙ ap (λ (o : Outcome). number_of o.answer) d.0,
      s.counts ∙ ap (λ (o : Outcome). o.handled ∷ o.draws_used ∷ []) d.0,
      d.1,
    )

-- the words after a series hold the board after it
pub series_held : {cs : List Call} {u v : List ℕ} → Made cs u v → (b : Board) → Holds u b → well_formed b ≡ true → Holds v (after cs b)
unfolding after
series_held begun b h g = h
series_held (called n r k m) b h g = series_held m (next _ b) (told _ _ _ n r b k h g).2 (well_formed_kept _ b g)

-- 'start from a board that passes the seat check and make any series of step calls, refused ones included. It still passes': of the check's own number, before and after
pub passes_still : (cs : List Call) (u v : List ℕ) (m n : ℕ) → Made cs u v → ExportedCheck SeatedWell u m → ExportedCheck SeatedWell v n → m ≡ 1 → n ≡ 1
passes_still cs u v m n s before after e =
    let w = before.yes e in
    let b = w.board in
    after.held (record { board = _; holds = series_held s b w.holds (seat_check_formed b w.passes); passes = seat_check_kept_by_all cs b w.passes })

-- 'every seated or observing machine carries the epoch of its last seating in the series, or its starting stamp if it had none'
pub stamps_carried : (cs : List Call) (u v : List ℕ) (a b : Board) → Made cs u v → Holds u a → well_formed a ≡ true → Holds v b
    → (x : Id) (w : Epoch) → stamp_at x b ≡ some w → last_seating x cs a (stamp_at x a) ≡ some w
stamps_carried cs u v a b s h g k x w e =
    stamps_told cs x a w (ap (stamp_at x) (one_board v (after cs a) b (series_held s a h g) k) ∙ e)

-- 'a lapse now sends to the pool exactly the drawn machines that haven't left, strikes just those from the target's committee, empties the cohort list, and changes nothing more'
pub lapse_undoes : (t : Shard) (cs : List Call) (u v w : List ℕ) (n : ℕ) (r : List ℕ) (b : Board) (ids : List Id) → Made cs u v → Contract (lapse t) v w n r
    → Holds u b → seat_check b ≡ true → drawn_in t cs b none ≡ some ids → (n ≡ 0) × (r ≡ length ids ∷ 0 ∷ []) × Holds w (sent_back t ids (after cs b))
lapse_undoes t cs u v w n r b ids s k h ok e =
    let good = seat_check_formed b ok in
    let d = told (lapse t) v w n r (after cs b) k (series_held s b h good) (seat_check_formed (after cs b) (seat_check_kept_by_all cs b ok)) in
    let l = lapse_sends_back t cs b ids ok e in (
      d.0 ∙ ap (λ (q : Result). number_of q.answer) l,
      d.1 ∙ ap (λ (q : Result). q.handled ∷ q.used ∷ []) l,
      subst (λ (q : Result). Holds w q.board) l d.2,
    )
