-- Document 01's cases C1 to C12: one table, one statement. docs/DECISIONS.md says what was chosen where a case is silent.
use mathlib.Core.Path.{◌≡◌, refl}
use mathlib.Core.List.{List, [], ◌∷◌, ◌++◌, foldl}
use mathlib.Core.Option.{Option, none, some}
use mathlib.Core.Bool.{Bool, true, false}
use Prim.Native.Nat.{ℕ}
use Prim.Native.String.{String}
use lib.ListN.{length}
use Rattle.types.specs.Numbers.{Shard, Id, Epoch, Height}
use Rattle.types.specs.Shards.{quorum}
use Rattle.types.specs.Places.{shard_id, epoch_at}
use Rattle.types.specs.Answers.{number_of}
use Rattle.types.specs.declared.Place.{Place}
use Rattle.types.specs.declared.Place.TheVariants.{Pooled, Seated, Observing}
use Rattle.rules.specs.Lists.{every, equal}
use Rattle.rules.specs.Table.{entry, Table}
use Rattle.rules.specs.Board.{Settings, Boundary, split, merge, Seat, Reshape, Board}
use Rattle.rules.specs.Snapshot.{words_of}
use Rattle.rules.specs.Moves.{members_of}
use Rattle.rules.specs.Calls.{Call, tick, admit_merge, mark_seat_ready, mark_quiet, draw_cohort, lapse, schedule_splits, cut_splits, resolve, time_out, answer_to}
use Rattle.rules.proofs.Computes.{computes}

-- a row: its name, what is computed and what is expected
record Case : Type 0 where
  name : String
  computed : List ℕ
  expected : List ℕ

abbrev case : String → List ℕ → List ℕ → Case
case name computed expected = record { name = name; computed = computed; expected = expected }

-- a result as numbers: answer, handled, draws used and the whole board's words
abbrev told : ℕ → ℕ → ℕ → Board → List ℕ
told answer handled used b = answer ∷ handled ∷ used ∷ words_of b

abbrev seen : Call → Board → List ℕ
seen c b = let r = answer_to c b in told (number_of r.answer) r.handled r.used r.board

-- the board after some calls
abbrev after : List Call → Board → Board
after calls b = foldl (λ c call. (answer_to call c).board) b calls

-- ---- parts of the boards

abbrev settings : ℕ → ℕ → ℕ → Settings
settings epoch size drain = record { epoch = epoch; size = size; drain = drain; wait = 3; interval = 10; most = 2 }

abbrev seated : Shard → Bool → Epoch → Place
seated s ready stamp = Seated (shard_id s) ready (epoch_at stamp)

abbrev watching : Shard → Epoch → Place
watching s stamp = Observing (shard_id s) (epoch_at stamp)

abbrev bound : Height → Epoch → Epoch → Option Epoch → Option Epoch → Boundary
bound height formed last_live terminal admitted = record { height = height; formed = formed; last_live = last_live; terminal = terminal; admitted = admitted }

abbrev seat : Shard → Bool → Seat
seat child ready = record { child = child; ready = ready }

abbrev splitting : Option Epoch → Option Epoch → Bool → Table Seat → List Id → List Id → Reshape
splitting drain_by terminal quiet seats left right =
    record { kind = split; admitted = 3; drain_by = drain_by; terminal = terminal; quiet_left = quiet; quiet_right = false; seats = seats; left = left; right = right }

-- ---- C1, C4 to C8 and C12: one split of shard 1

abbrev members : Table Place
members = entry 11 (seated 1 true 0) ∷ entry 12 (seated 1 true 1) ∷ entry 13 (seated 1 true 0) ∷ entry 14 (seated 1 true 2) ∷ []

abbrev pool : Table Place
pool = entry 21 Pooled ∷ entry 22 Pooled ∷ entry 23 Pooled ∷ entry 24 Pooled ∷ []

abbrev watchers : Table Place
watchers = entry 21 (watching 1 5) ∷ entry 22 (watching 1 5) ∷ entry 23 (watching 1 5) ∷ entry 24 (watching 1 5) ∷ []

abbrev cohort : Bool → Table Seat
cohort marked = entry 21 (seat 3 false) ∷ entry 22 (seat 2 marked) ∷ entry 23 (seat 2 false) ∷ entry 24 (seat 3 marked) ∷ []

abbrev drawn_to : List Id
drawn_to = 11 ∷ 12 ∷ 13 ∷ 14 ∷ 22 ∷ 23 ∷ 24 ∷ 21 ∷ []

abbrev one_shard : ℕ → Table Place → List Id → Boundary → Reshape → Board
one_shard epoch rest committee boundary reshape =
    record { settings = settings epoch 4 2; machines = members ++ rest; committees = entry 1 committee ∷ []; bounds = entry 1 boundary ∷ []; rotations = []; reshapes = entry 1 reshape ∷ [] }

abbrev open_bound : Boundary
open_bound = bound 100 0 5 none none

abbrev admitted : Board
admitted = one_shard 5 pool (11 ∷ 12 ∷ 13 ∷ 14 ∷ []) open_bound (splitting none none false [] [] [])

abbrev drawn : Board
drawn = one_shard 5 watchers drawn_to open_bound (splitting none none false (cohort false) [] [])

abbrev quiet : Board
quiet = one_shard 5 watchers drawn_to open_bound (splitting none none true (cohort true) [] [])

abbrev draining : Board
draining = one_shard 5 watchers drawn_to open_bound (splitting (some 7) none true (cohort true) [] [])

abbrev scheduled : ℕ → Board
scheduled epoch = one_shard epoch watchers drawn_to (bound 100 0 5 (some 6) (some 3)) (splitting (some 7) (some 6) true (cohort true) (11 ∷ 12 ∷ []) (13 ∷ 14 ∷ []))

abbrev cut : Board
cut = record {
  settings = settings 6 4 2;
  machines =
      entry 11 (seated 2 true 0)
      ∷ entry 12 (seated 2 true 1)
      ∷ entry 13 (seated 3 true 0)
      ∷ entry 14 (seated 3 true 2)
      ∷ entry 21 (seated 3 false 6)
      ∷ entry 22 (seated 2 true 6)
      ∷ entry 23 (seated 2 false 6)
      ∷ entry 24 (seated 3 true 6)
      ∷ [];
  committees = entry 2 (11 ∷ 12 ∷ 22 ∷ 23 ∷ []) ∷ entry 3 (13 ∷ 14 ∷ 21 ∷ 24 ∷ []) ∷ [];
  bounds = entry 1 (bound 100 0 5 (some 6) (some 3)) ∷ entry 2 (bound 100 7 6 none none) ∷ entry 3 (bound 100 7 6 none none) ∷ [];
  rotations = [];
  reshapes = [];
}

-- ---- C2: five members and a cohort of five

abbrev five : Board
five = record {
  settings = settings 5 5 2;
  machines =
      entry 11 (seated 1 true 0)
      ∷ entry 12 (seated 1 true 0)
      ∷ entry 13 (seated 1 true 0)
      ∷ entry 14 (seated 1 true 0)
      ∷ entry 15 (seated 1 true 0)
      ∷ entry 21 Pooled
      ∷ entry 22 Pooled
      ∷ entry 23 Pooled
      ∷ entry 24 Pooled
      ∷ entry 25 Pooled
      ∷ [];
  committees = entry 1 (11 ∷ 12 ∷ 13 ∷ 14 ∷ 15 ∷ []) ∷ [];
  bounds = entry 1 open_bound ∷ [];
  rotations = [];
  reshapes = entry 1 (splitting none none false [] [] []) ∷ [];
}

abbrev kept : List ℕ
kept = 4 ∷ 3 ∷ 2 ∷ 1 ∷ []

abbrev five_cut : Board
five_cut = after (draw_cohort 1 kept ∷ mark_seat_ready 1 25 ∷ mark_quiet 1 0 ∷ schedule_splits kept ∷ schedule_splits kept ∷ tick ∷ cut_splits ∷ []) five

abbrev sizes : Board → List ℕ
sizes b = length (members_of 2 b) ∷ length (members_of 3 b) ∷ (members_of 2 b ++ members_of 3 b)

-- ---- C9: full children of five, with waiting members

abbrev paired : Table Reshape → Board
paired reshapes = record {
  settings = settings 5 5 2;
  machines =
      entry 11 (seated 2 true 0)
      ∷ entry 12 (seated 2 true 0)
      ∷ entry 13 (seated 2 false 4)
      ∷ entry 14 (seated 2 false 4)
      ∷ entry 15 (seated 2 false 4)
      ∷ entry 21 (seated 3 true 0)
      ∷ entry 22 (seated 3 false 4)
      ∷ entry 23 (seated 3 false 4)
      ∷ entry 24 (seated 3 false 4)
      ∷ entry 25 (seated 3 false 4)
      ∷ [];
  committees = entry 2 (15 ∷ 14 ∷ 13 ∷ 12 ∷ 11 ∷ []) ∷ entry 3 (21 ∷ 22 ∷ 23 ∷ 24 ∷ 25 ∷ []) ∷ [];
  bounds = entry 2 open_bound ∷ entry 3 open_bound ∷ [];
  rotations = [];
  reshapes = reshapes;
}

abbrev keepers : Table Seat
keepers = entry 11 (seat 2 false) ∷ entry 12 (seat 2 false) ∷ entry 14 (seat 2 false) ∷ entry 21 (seat 3 false) ∷ entry 22 (seat 3 false) ∷ []

abbrev merging : Reshape
merging = record { kind = merge; admitted = 5; drain_by = none; terminal = none; quiet_left = false; quiet_right = false; seats = keepers; left = []; right = [] }

-- ---- C10 and C11

abbrev spare : Board
spare = record {
  settings = settings 5 4 2;
  machines = entry 1 (seated 1 true 0) ∷ entry 2 (seated 1 true 0) ∷ entry 3 (seated 1 true 0) ∷ entry 4 (seated 1 true 4) ∷ entry 5 (seated 1 true 4) ∷ [];
  committees = entry 1 (1 ∷ 2 ∷ 3 ∷ 4 ∷ 5 ∷ []) ∷ [];
  bounds = [];
  rotations = record { shard = 1; victim = 1; entrant = 4; opened = 4 } ∷ record { shard = 1; victim = 2; entrant = 5; opened = 4 } ∷ [];
  reshapes = [];
}

abbrev retired : Board
retired = record {
  settings = settings 5 4 2;
  machines = entry 1 (seated 1 true 0) ∷ entry 2 Pooled ∷ entry 3 (seated 1 true 0) ∷ entry 4 (seated 1 true 4) ∷ entry 5 (seated 1 true 4) ∷ [];
  committees = entry 1 (1 ∷ 3 ∷ 4 ∷ 5 ∷ []) ∷ [];
  bounds = [];
  rotations = [];
  reshapes = [];
}

abbrev waiting : ℕ → Bool → Board
waiting epoch ready =
    record { settings = settings epoch 4 2; machines = entry 7 (seated 1 ready 6) ∷ []; committees = entry 1 (7 ∷ []) ∷ []; bounds = []; rotations = []; reshapes = [] }

-- ---- the table

abbrev cases : List Case
cases =
    case "C1" (seen (draw_cohort 1 (0 ∷ 0 ∷ 0 ∷ [])) admitted) (told 0 4 3 drawn)
    ∷ case "C2" (sizes five_cut) (6 ∷ 4 ∷ 11 ∷ 12 ∷ 13 ∷ 21 ∷ 22 ∷ 23 ∷ 14 ∷ 15 ∷ 24 ∷ 25 ∷ [])
    ∷ case "C3" (quorum 4 ∷ quorum 32 ∷ []) (3 ∷ 21 ∷ [])
    ∷ case "C4" (seen (schedule_splits (3 ∷ 2 ∷ 1 ∷ [])) drawn) (told 0 0 3 drawn)
    ∷ case "C5, marked" (words_of (after (mark_seat_ready 1 22 ∷ mark_seat_ready 1 24 ∷ mark_quiet 1 0 ∷ []) drawn)) (words_of quiet)
    ∷ case "C5" (seen (schedule_splits (3 ∷ 2 ∷ 1 ∷ [])) quiet) (told 0 0 3 draining)
    ∷ case "C6" (seen (schedule_splits (3 ∷ 2 ∷ 1 ∷ [])) draining) (told 0 1 3 (scheduled 5))
    ∷ case "C7" (seen cut_splits (scheduled 5)) (told 0 0 0 (scheduled 5))
    ∷ case "C8, a tick" (seen tick (scheduled 5)) (told 0 1 0 (scheduled 6))
    ∷ case "C8" (seen cut_splits (scheduled 6)) (told 0 1 0 cut)
    ∷ case "C9" (seen (admit_merge 1 (1 ∷ 0 ∷ 0 ∷ 3 ∷ 2 ∷ 1 ∷ [])) (paired [])) (told 0 5 6 (paired (entry 1 merging ∷ [])))
    ∷ case "C10" (seen resolve spare) (told 0 2 0 retired)
    ∷ case "C11, at 8" (seen time_out (waiting 8 false)) (told 0 0 0 (waiting 8 false))
    ∷ case "C11, at 9" (seen time_out (waiting 9 false)) (told 0 1 0 (waiting 9 true))
    ∷ case "C12" (seen (lapse 1) drawn) (told 0 4 0 admitted)
    ∷ []

-- every row computes to what it expects
pub cases_hold : every (λ row. equal row.computed row.expected) cases ≡ true
unfolding computes
cases_hold = refl
