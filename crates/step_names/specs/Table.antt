-- The steps of document 01 by name.
use Rattle.std.specs.Prelude.{ℕ, ◌≡◌, ◌<◌, ◌⊎◌, Bool, true, false, List, [], ◌∷◌, map, get_or, drop}
use Prim.Native.String.{String}
use Rattle.step_names.specs.declared.Step.{Step}
use Rattle.step_names.specs.declared.Step.TheVariants.{Tick, AdmitSplit, AdmitMerge, MarkSeatReady, MarkQuiet, DrawCohort, Lapse, ScheduleSplits, ScheduleMerges, CutSplits, CutMerges, Leave, Rotate, Resolve, TimeOut}
use Rattle.step_names.specs.Names.{place_among}

-- its name, how many numbers it takes, whether it draws, and whether it goes over several shards
pub record Row : Type 0 where
  pub name : String
  pub numbers : ℕ
  pub draws : Bool
  pub batch : Bool

abbrev step : String → ℕ → Bool → Bool → Row
step s n d b = record { name = s; numbers = n; draws = d; batch = b }

-- from 1 on; 0 is no step's number
unfoldable pub steps : List Row
steps =
    step "" 0 false false
    ∷ step "tick" 0 false false
    ∷ step "admit_split" 1 false false
    ∷ step "admit_merge" 1 true false
    ∷ step "mark_seat_ready" 2 false false
    ∷ step "mark_quiet" 2 false false
    ∷ step "draw_cohort" 1 true false
    ∷ step "lapse" 1 false false
    ∷ step "schedule_splits" 0 true true
    ∷ step "schedule_merges" 0 false true
    ∷ step "cut_splits" 0 false true
    ∷ step "cut_merges" 0 false true
    ∷ step "leave" 1 true false
    ∷ step "rotate" 2 true false
    ∷ step "resolve" 0 false false
    ∷ step "time_out" 0 false false
    ∷ []

-- a step's number
unfoldable pub number : Step → ℕ
number Tick = 1
number AdmitSplit = 2
number AdmitMerge = 3
number MarkSeatReady = 4
number MarkQuiet = 5
number DrawCohort = 6
number Lapse = 7
number ScheduleSplits = 8
number ScheduleMerges = 9
number CutSplits = 10
number CutMerges = 11
number Leave = 12
number Rotate = 13
number Resolve = 14
number TimeOut = 15

-- a number that is no step's
abbrev pub IsNoStep : ℕ → Type 0
IsNoStep n = (n ≡ 0) ⊎ (15 < n)

unfoldable pub name_of : Step → String
name_of s = (get_or steps (number s) (step "" 0 false false)).name

-- the number of the step that a word names, of those from k on; 0 where it names none
abbrev pub names : List String
names = map (λ s. s.name) steps

unfoldable pub number_from : ℕ → List ℕ → ℕ
number_from k w = place_among w k (drop k names)

-- ---- what a step's row says; of a number that is no step's, what row 0 says

unfoldable pub numbers_of : ℕ → ℕ
numbers_of n = get_or (map (λ s. s.numbers) steps) n 0

unfoldable pub takes_draws : ℕ → Bool
takes_draws n = get_or (map (λ s. s.draws) steps) n false

unfoldable pub is_batch : ℕ → Bool
is_batch n = get_or (map (λ s. s.batch) steps) n false
