-- For each step the answers that it can give.
use mathlib.Core.Path.{◌≡◌, refl, sym, subst, ◌∙◌}
use mathlib.Core.List.{List, [], ◌∷◌}
use mathlib.Core.Option.{Option, none, some}
use mathlib.Core.Bool.{Bool, true, false, cond, not, false≢true}
use Prim.Native.Nat.{ℕ}
use lib.ListN.{length, take}
use Rattle.types.specs.Numbers.{Shard, Id, Epoch}
use Rattle.types.specs.Answers.{number_of}
use Rattle.types.specs.declared.Place.{Place}
use Rattle.types.specs.declared.Place.TheVariants.{Pooled, Seated, Observing, Short, Other}
use Rattle.types.specs.declared.Answer.{Answer}
use Rattle.types.specs.declared.Answer.TheVariants.{Done, NotWellFormed, OutOfRange, NoRecord, NoBoundary, NotThere, DrawMissing, DrawTooLarge, NoRoom, PoolTooSmall}
use Rattle.rules.specs.Lists.{◌and◌, ◌or◌, every, any, has}
use Rattle.rules.specs.Table.{Table, at}
use Rattle.rules.specs.Board.{Kind, split, merge, Seat, Reshape, Board, epoch_of, size_of}
use Rattle.rules.specs.WellFormed.{well_formed}
use Rattle.rules.specs.Draws.{Drawn, drew, missing, too_large, draw_from}
use Rattle.types.specs.Places.{drawn_to}
use Rattle.rules.specs.Moves.{pool_of, put_on, may_join, is_party}
use Rattle.rules.specs.Turns.{Turn, finished, refused, Fault, ◌gives◌, checked, drawn, unless_well_formed, alone, in_turn, batch, pool_draw}
use Rattle.rules.specs.Places as places
use Rattle.rules.specs.Reshapes as reshapes
use Rattle.rules.specs.Schedule as schedule
use Rattle.rules.specs.Cut as cut
use Rattle.rules.specs.Calls.{Call, tick, admit_split, admit_merge, mark_seat_ready, mark_quiet, draw_cohort, lapse, schedule_splits, schedule_merges, cut_splits, cut_merges, leave, rotate, resolve, time_out, answer_to}
use Rattle.rules.proofs.Tests.{or_right, every_parts, every_join, every_none}
use Rattle.rules.proofs.Turns.{by_option, in_turn_finished, in_turn_refused, batch_good, batch_bad}

-- the refusals; 0 is every step's
unfoldable pub refusals_of : Call → List ℕ
refusals_of tick = 1 ∷ 2 ∷ []
refusals_of (admit_split t) = 1 ∷ 3 ∷ 5 ∷ 7 ∷ 11 ∷ []
refusals_of (admit_merge t draws) = 1 ∷ 3 ∷ 5 ∷ 7 ∷ 9 ∷ 10 ∷ 11 ∷ []
refusals_of (mark_seat_ready t x) = 1 ∷ 3 ∷ 6 ∷ []
refusals_of (mark_quiet t side) = 1 ∷ 3 ∷ 6 ∷ []
refusals_of (draw_cohort t draws) = 1 ∷ 3 ∷ 6 ∷ 9 ∷ 10 ∷ 11 ∷ 12 ∷ []
refusals_of (lapse t) = 1 ∷ 3 ∷ 6 ∷ []
refusals_of (schedule_splits draws) = 1 ∷ 5 ∷ 9 ∷ 10 ∷ []
refusals_of schedule_merges = 1 ∷ 5 ∷ []
refusals_of cut_splits = 1 ∷ 4 ∷ 5 ∷ 11 ∷ []
refusals_of cut_merges = 1 ∷ 4 ∷ 5 ∷ 11 ∷ []
refusals_of (leave x draws) = 1 ∷ 4 ∷ 9 ∷ 10 ∷ 11 ∷ []
refusals_of (rotate s v draws) = 1 ∷ 3 ∷ 8 ∷ 9 ∷ 10 ∷ 11 ∷ []
refusals_of resolve = 1 ∷ []
refusals_of time_out = 1 ∷ []

-- the answer is one of a list of numbers
abbrev pub Among : List ℕ → Answer → Type 0
Among l a = has (number_of a) l ≡ true

module _ (l : List ℕ) where
  -- a turn's refusal is one of the list
  abbrev pub May : Turn → Type 0
  May (finished n left b) = Unit {0}
  May (refused a) = Among l a

  pub may_check : (fs : List Fault) (t : Turn) → every (λ f. has (number_of f.answer) l) fs ≡ true → May t → May (checked fs t)
  unfolding checked
  may_check [] t h m = m
  may_check (f ∷ fs) t h m = go f.fails (may_check fs t (every_parts _ _ _ h).1 m)
    where
      go : (c : Bool) → May (checked fs t) → May (cond c (refused f.answer) (checked fs t))
      go true r = (every_parts _ _ _ h).0
      go false r = r

  pub may_cond : (c : Bool) (t u : Turn) → May t → May u → May (cond c t u)
  may_cond true t u p q = p
  may_cond false t u p q = q

  -- 0 or one of the list
  abbrev pub Answers : Answer → Type 0
  Answers = Among (0 ∷ l)

  may_more : (a : Answer) → Among l a → Answers a
  unfolding has any
  may_more a m = or_right _ _ m

  may_done : Answers Done
  unfolding has any ◌or◌
  may_done = refl

  -- a refusal is none of the steps that are done
  pub may_not_done : has 0 l ≡ false → (t : Turn) → May t → t ≡ refused Done → ⊥
  may_not_done h t m e = false≢true (sym h ∙ subst May e m)

  may_alone : (draws : List ℕ) (b : Board) (t : Turn) → May t → Answers (alone draws b t).answer
  unfolding alone
  may_alone draws b (finished n left c) m = may_done
  may_alone draws b (refused a) m = may_more a m

  may_in_turn : (turn : Shard → List ℕ → Board → Turn) → ((s : Shard) (draws : List ℕ) (b : Board) → May (turn s draws b))
      → (shards : List Shard) (handled used : ℕ) (draws : List ℕ) (b : Board) → Answers (in_turn turn shards handled used draws b).answer
  unfolding in_turn
  may_in_turn turn m [] handled used draws b = may_done
  may_in_turn turn m (s ∷ shards) handled used draws b = go (turn s draws b) refl (m s draws b) (λ n u left c. may_in_turn turn m shards n u left c)
    where
      go : (t : Turn) → turn s draws b ≡ t → May t → ((n u : ℕ) (left : List ℕ) (c : Board) → Answers (in_turn turn shards n u left c).answer)
          → Answers (in_turn turn (s ∷ shards) handled used draws b).answer
      go (finished n left c) e p ih = rw (in_turn_finished turn s shards handled used draws b n left c e) (ih _ _ left c)
      go (refused a) e p ih = rw (in_turn_refused turn s shards handled used draws b a e) (may_more a p)

  may_batch : (turn : Shard → List ℕ → Board → Turn) → ((s : Shard) (draws : List ℕ) (b : Board) → May (turn s draws b)) → Among l NotWellFormed
      → (shards : List Shard) (draws : List ℕ) (b : Board) → Answers (batch turn shards draws b).answer
  may_batch turn m w shards draws b = go (well_formed b) refl
    where
      go : (c : Bool) → well_formed b ≡ c → Answers (batch turn shards draws b).answer
      go true e = rw (batch_good turn shards draws b e) (may_in_turn turn m shards 0 0 draws b)
      go false e = rw (batch_bad turn shards draws b e) (may_more NotWellFormed w)

  module _ (nine : Among l DrawMissing) (ten : Among l DrawTooLarge) where
    pub may_draw : {A : Type 0} (d : Drawn A) (next : A → List ℕ → Turn) → ((a : A) (left : List ℕ) → May (next a left)) → May (drawn d next)
    unfolding drawn
    may_draw (drew a left) next m = m a left
    may_draw missing next m = nine
    may_draw too_large next m = ten

    pub may_pool : Among l NoRoom → (s : Shard) (full : Bool) (also : Id → Board → Board) (draws : List ℕ) (b : Board) → May (pool_draw s full also draws b)
    unfolding pool_draw
    may_pool r s full also draws b = may_draw (draw_from (pool_of b) draws) _ (λ o left. elim o as (λ k. May (elim k as (λ x. Turn) [ none ↦ finished 0 left b | some x ↦ checked (not (may_join s (x ∷ []) b) gives NoRoom ∷ full gives NoRoom ∷ []) (finished 1 left (also x (put_on s (drawn_to s (epoch_of b)) x b))) ])) [
      | none ↦ tt
      | some x ↦ may_check _ _ (every_join _ _ _ r (every_join _ _ _ r (every_none _))) tt
    ])

-- ---- the turns

module _ (x : Id) (draws : List ℕ) (b : Board) where
  abbrev pub leaving : List ℕ
  leaving = refusals_of (leave x draws)

  may_leave_seat : (s : Shard) → May leaving (places.leave_from_seat s x draws b)
  unfolding places.leave_from_seat refusals_of has any ◌or◌
  may_leave_seat s =
      may_cond leaving (is_party s x b) _ _ tt
      (may_cond leaving (places.is_carved s b) _ _ tt (may_pool leaving refl refl refl s false (λ y c. c) draws _))

  may_leave_from : (p : Place) → May leaving (places.leave_from p x draws b)
  unfolding places.leave_from
  may_leave_from Pooled = tt
  may_leave_from (Seated s r w) = may_leave_seat s.0
  may_leave_from (Observing s w) = tt
  may_leave_from Short = tt
  may_leave_from (Other m) = tt

  pub may_leave : May leaving (places.leave_turn x draws b)
  unfolding places.leave_turn refusals_of has any ◌or◌
  may_leave = go (at x b.machines) refl
    where
      go : (o : Option Place) → at x b.machines ≡ o → May leaving (places.leave_turn x draws b)
      go none e = rw (e, places.leave_turn) refl
      go (some p) e = rw (e, places.leave_turn) (may_leave_from p)

module _ (l : List ℕ) (five : Among l NoBoundary) where
  may_drain : (t : Shard) (r : Reshape) (lefts rights : List Id) (draws : List ℕ) (b : Board) → May l (schedule.drain_or_schedule t r lefts rights draws b)
  unfolding schedule.drain_or_schedule
  may_drain t r lefts rights draws b = go r.drain_by refl
    where
      go : (o : Option Epoch) → r.drain_by ≡ o → May l (schedule.drain_or_schedule t r lefts rights draws b)
      go none e = rw (e, schedule.drain_or_schedule) tt
      go (some d) e = rw (e, schedule.drain_or_schedule) (may_cond l (schedule.is_quiet r) _ _ (may_check l _ _ (every_join _ _ _ five (every_none _)) tt) tt)

  may_gate : (t : Shard) (lefts rights : List Id) (draws : List ℕ) (b : Board) → May l (schedule.pass_gate t lefts rights draws b)
  unfolding schedule.pass_gate
  may_gate t lefts rights draws b =
      by_option (May l (schedule.pass_gate t lefts rights draws b)) (at t b.reshapes) (λ e. rw (e, schedule.pass_gate) tt)
      (λ r e. rw (e, schedule.pass_gate) (may_cond l (schedule.split_gate t lefts rights r b) _ _ (may_drain t r lefts rights draws b) tt))

  pub may_schedule_split : Among l DrawMissing → Among l DrawTooLarge → (t : Shard) (draws : List ℕ) (b : Board) → May l (schedule.schedule_split t draws b)
  unfolding schedule.schedule_split schedule.halve
  may_schedule_split nine ten t draws b = may_draw l nine ten _ _ (λ ids left. may_gate t _ _ left _)

  pub may_schedule_merge : (t : Shard) (draws : List ℕ) (b : Board) → May l (schedule.schedule_merge t draws b)
  unfolding schedule.schedule_merge
  may_schedule_merge t draws b =
      by_option (May l (schedule.schedule_merge t draws b)) (at t b.reshapes) (λ e. rw (e, schedule.schedule_merge) tt)
      (λ r e. rw (e, schedule.schedule_merge) (may_cond l (schedule.merge_gate r b) _ _ (may_drain t r [] [] draws b) tt))

  module _ (four : Among l NoRecord) (eleven : Among l NoRoom) where
    may_cut : (k : Kind) (t : Shard) (ids : List Id) (after b : Board) (n : ℕ) (left : List ℕ) (c : Board) → May l (checked (cut.cut_faults k t ids after b) (finished n left c))
    unfolding cut.cut_faults
    may_cut k t ids after b n left c = may_check l _ _ (every_join _ _ _ five (every_join _ _ _ four (every_join _ _ _ eleven (every_none _)))) tt

    pub may_cut_split : (t : Shard) (draws : List ℕ) (b : Board) → May l (cut.cut_split t draws b)
    unfolding cut.cut_split cut.cut_split_of
    may_cut_split t draws b = by_option (May l (cut.cut_split t draws b)) (at t b.reshapes) (λ e. rw (e, cut.cut_split) tt) (λ r e. rw (e, cut.cut_split) (may_cut split t _ _ b 1 draws _))

    pub may_cut_merge : (t : Shard) (draws : List ℕ) (b : Board) → May l (cut.cut_merge t draws b)
    unfolding cut.cut_merge cut.cut_merge_of
    may_cut_merge t draws b = by_option (May l (cut.cut_merge t draws b)) (at t b.reshapes) (λ e. rw (e, cut.cut_merge) tt) (λ r e. rw (e, cut.cut_merge) (may_cut merge t _ _ b 1 draws _))

-- ---- the steps that draw, before their result is told

unfolded : Unit {0}
unfolding refusals_of has any ◌or◌ every ◌and◌ places.rotate_turn reshapes.admission_faults reshapes.admit reshapes.cohort_turn
unfolded = tt

module _ (b : Board) where
  pub may_admit_merge : (t : Shard) (draws : List ℕ) (d : Drawn (Table Seat))
      → May (refusals_of (admit_merge t draws)) (checked (reshapes.admission_faults merge t b) (drawn d (λ keepers left. reshapes.admit merge t (length keepers) keepers left b)))
  unfolding unfolded
  may_admit_merge t draws d = let l = refusals_of (admit_merge t draws) in may_check l _ _ refl (may_draw l refl refl d _ (λ keepers left. may_check l _ _ refl tt))

  pub may_draw_cohort : (t : Shard) (draws : List ℕ) (d : Drawn (List Id)) (target awaits pool : Bool)
      → May (refusals_of (draw_cohort t draws))
      (checked (unless_well_formed b ∷ target gives OutOfRange ∷ awaits gives NotThere ∷ pool gives PoolTooSmall ∷ []) (drawn d (λ ids left. reshapes.cohort_turn t (take (size_of b) ids) left b)))
  unfolding unfolded
  may_draw_cohort t draws d target awaits pool =
      let l = refusals_of (draw_cohort t draws) in may_check l _ _ refl (may_draw l refl refl d _ (λ ids left. may_check l _ _ refl tt))

  pub may_leave_step : (x : Id) (draws : List ℕ) → May (refusals_of (leave x draws)) (checked (unless_well_formed b ∷ []) (places.leave_turn x draws b))
  unfolding unfolded
  may_leave_step x draws = may_check (refusals_of (leave x draws)) _ _ refl (may_leave x draws b)

  pub may_rotate_lem : (s : Shard) (v : Id) (draws : List ℕ) (shard : Bool)
      → May (refusals_of (rotate s v draws)) (checked (unless_well_formed b ∷ shard gives OutOfRange ∷ []) (cond (places.may_rotate s b) (places.rotate_turn s v draws b) (finished 0 draws b)))
  unfolding unfolded
  may_rotate_lem s v draws shard =
      let l = refusals_of (rotate s v draws) in
      may_check l _ _ refl (may_cond l (places.may_rotate s b) _ _ (may_check l _ _ refl (may_pool l refl refl refl s _ _ draws b)) tt)

-- ---- the statement

pub answers_among : (c : Call) (b : Board) → has (number_of (answer_to c b).answer) (0 ∷ refusals_of c) ≡ true
unfolding unfolded answer_to places.tick places.leave places.rotate places.resolve places.time_out reshapes.admit_split reshapes.admit_merge reshapes.mark_seat_ready reshapes.mark_quiet reshapes.draw_cohort reshapes.lapse schedule.schedule_splits schedule.schedule_merges cut.cut_splits cut.cut_merges
answers_among tick b = may_alone (refusals_of tick) [] b _ (may_check (refusals_of tick) _ _ refl tt)
answers_among (admit_split t) b = let l = refusals_of (admit_split t) in may_alone l [] b _ (may_check l _ _ refl (may_check l _ _ refl tt))
answers_among (admit_merge t draws) b = may_alone (refusals_of (admit_merge t draws)) draws b _ (may_admit_merge b t draws _)
answers_among (mark_seat_ready t x) b = let l = refusals_of (mark_seat_ready t x) in may_alone l [] b _ (may_check l _ _ refl tt)
answers_among (mark_quiet t side) b = let l = refusals_of (mark_quiet t side) in may_alone l [] b _ (may_check l _ _ refl tt)
answers_among (draw_cohort t draws) b = may_alone (refusals_of (draw_cohort t draws)) draws b _ (may_draw_cohort b t draws _ _ _ _)
answers_among (lapse t) b = let l = refusals_of (lapse t) in may_alone l [] b _ (may_check l _ _ refl tt)
answers_among (schedule_splits draws) b = let l = refusals_of (schedule_splits draws) in may_batch l schedule.schedule_split (may_schedule_split l refl refl refl) refl _ draws b
answers_among schedule_merges b = let l = refusals_of schedule_merges in may_batch l schedule.schedule_merge (may_schedule_merge l refl) refl _ [] b
answers_among cut_splits b = let l = refusals_of cut_splits in may_batch l cut.cut_split (may_cut_split l refl refl refl) refl _ [] b
answers_among cut_merges b = let l = refusals_of cut_merges in may_batch l cut.cut_merge (may_cut_merge l refl refl refl) refl _ [] b
answers_among (leave x draws) b = may_alone (refusals_of (leave x draws)) draws b _ (may_leave_step b x draws)
answers_among (rotate s v draws) b = may_alone (refusals_of (rotate s v draws)) draws b _ (may_rotate_lem b s v draws _)
answers_among resolve b = may_alone (refusals_of resolve) [] b _ (may_check (refusals_of resolve) _ _ refl tt)
answers_among time_out b = may_alone (refusals_of time_out) [] b _ (may_check (refusals_of time_out) _ _ refl tt)
