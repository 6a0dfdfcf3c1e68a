-- A refusal changes nothing; over several shards it leaves what the finished ones left.
use mathlib.Core.Path.{◌≡◌, refl, ap, ◌∙◌}
use mathlib.Core.Logic.{◌⊎◌, inl, inr}
use mathlib.Core.List.{List, [], ◌∷◌, ◌++◌}
use mathlib.Core.Bool.{Bool, true, false}
use Prim.Native.Nat.{ℕ, ◌+◌, ◌-◌}
use lib.ListN.{length}
use Rattle.types.specs.Numbers.{Shard}
use Rattle.types.specs.declared.Answer.TheVariants.{Done}
use Rattle.rules.specs.Board.{Board, split, merge}
use Rattle.rules.specs.WellFormed.{well_formed}
use Rattle.rules.specs.Turns.{Result, Turn, finished, refused, alone, in_turn, batch}
use Rattle.rules.specs.Places as places
use Rattle.rules.specs.Reshapes as reshapes
use Rattle.rules.specs.Schedule as schedule
use Rattle.rules.specs.Cut as cut
use Rattle.rules.specs.Calls.{Call, tick, admit_split, admit_merge, mark_seat_ready, mark_quiet, draw_cohort, lapse, schedule_splits, schedule_merges, cut_splits, cut_merges, leave, rotate, resolve, time_out, answer_to}
use Rattle.rules.proofs.Turns.{result, in_turn_finished, in_turn_refused, batch_good, batch_bad}

-- nothing handled, no draw used, the board as it was
pub record Untouched (b : Board) (r : Result) : Type 0 where
  pub handled : r.handled ≡ 0
  pub used : r.used ≡ 0
  pub board : r.board ≡ b

-- the list of shards breaks where a turn is refused: those before it finish, and leave what the step leaves; those after it are not tried
pub record Stopped (turn : Shard → List ℕ → Board → Turn) (handled used : ℕ) (shards : List Shard) (draws : List ℕ) (b : Board) (r : Result) : Type 0 where
  pub before : List Shard
  pub at : Shard
  pub after : List Shard
  pub left : List ℕ
  pub listed : shards ≡ before ++ (at ∷ after)
  pub finishes : in_turn turn before handled used draws b ≡ result Done r.handled r.used r.board
  pub refuses : turn at left r.board ≡ refused r.answer

alone_untouched : (draws : List ℕ) (b : Board) (t : Turn) → ((alone draws b t).answer ≡ Done) ⊎ Untouched b (alone draws b t)
unfolding alone
alone_untouched draws b (finished n left c) = inl refl
alone_untouched draws b (refused a) = inr (record { handled = refl; used = refl; board = refl })

module _ (turn : Shard → List ℕ → Board → Turn) where
  in_turn_stopped : (shards : List Shard) (handled used : ℕ) (draws : List ℕ) (b : Board)
      → ((in_turn turn shards handled used draws b).answer ≡ Done) ⊎ Stopped turn handled used shards draws b (in_turn turn shards handled used draws b)
  unfolding in_turn
  in_turn_stopped [] handled used draws b = inl refl
  in_turn_stopped (s ∷ shards) handled used draws b = go (turn s draws b) refl (λ n u left c. in_turn_stopped shards n u left c)
    where
      Goal : Result → Type 0
      Goal r = (r.answer ≡ Done) ⊎ Stopped turn handled used (s ∷ shards) draws b r

      longer : (n : ℕ) (left : List ℕ) (c : Board) → turn s draws b ≡ finished n left c → (r : Result)
          → (r.answer ≡ Done) ⊎ Stopped turn (handled + n) (used + (length draws - length left)) shards left c r → Goal r
      longer n left c f r (inl d) = inl d
      longer n left c f r (inr p) = inr (record {
        before = s ∷ p.before;
        at = p.at;
        after = p.after;
        left = p.left;
        listed = ap (λ l. s ∷ l) p.listed;
        finishes = in_turn_finished turn s p.before handled used draws b n left c f ∙ p.finishes;
        refuses = p.refuses;
      })

      go : (t : Turn) → turn s draws b ≡ t → ((n u : ℕ) (left : List ℕ) (c : Board) → ((in_turn turn shards n u left c).answer ≡ Done) ⊎ Stopped turn n u shards left c (in_turn turn shards n u left c))
          → Goal (in_turn turn (s ∷ shards) handled used draws b)
      go (refused a) f ih = rw (in_turn_refused turn s shards handled used draws b a f) (inr (record {
        before = [];
        at = s;
        after = shards;
        left = draws;
        listed = refl;
        finishes = refl;
        refuses = f;
      }))
      go (finished n left c) f ih = rw (in_turn_finished turn s shards handled used draws b n left c f) (longer n left c f _ (ih _ _ left c))

  batch_stopped : (shards : List Shard) (draws : List ℕ) (b : Board)
      → ((batch turn shards draws b).answer ≡ Done) ⊎ (Untouched b (batch turn shards draws b) ⊎ Stopped turn 0 0 shards draws b (batch turn shards draws b))
  batch_stopped shards draws b = go (well_formed b) refl
    where
      Goal : Result → Type 0
      Goal r = (r.answer ≡ Done) ⊎ (Untouched b r ⊎ Stopped turn 0 0 shards draws b r)

      lift : (r : Result) → (r.answer ≡ Done) ⊎ Stopped turn 0 0 shards draws b r → Goal r
      lift r (inl d) = inl d
      lift r (inr p) = inr (inr p)

      go : (c : Bool) → well_formed b ≡ c → Goal (batch turn shards draws b)
      go true e = rw (batch_good turn shards draws b e) (lift _ (in_turn_stopped shards 0 0 draws b))
      go false e = rw (batch_bad turn shards draws b e) (inr (inl (record { handled = refl; used = refl; board = refl })))

-- what a call that does not answer 0 leaves
abbrev pub Left : Call → Board → Result → Type 0
Left (schedule_splits draws) b r = Untouched b r ⊎ Stopped schedule.schedule_split 0 0 (schedule.unscheduled split b) draws b r
Left schedule_merges b r = Untouched b r ⊎ Stopped schedule.schedule_merge 0 0 (schedule.unscheduled merge b) [] b r
Left cut_splits b r = Untouched b r ⊎ Stopped cut.cut_split 0 0 (cut.due split b) [] b r
Left cut_merges b r = Untouched b r ⊎ Stopped cut.cut_merge 0 0 (cut.due merge b) [] b r
Left tick b r = Untouched b r
Left (admit_split t) b r = Untouched b r
Left (admit_merge t draws) b r = Untouched b r
Left (mark_seat_ready t x) b r = Untouched b r
Left (mark_quiet t side) b r = Untouched b r
Left (draw_cohort t draws) b r = Untouched b r
Left (lapse t) b r = Untouched b r
Left (leave x draws) b r = Untouched b r
Left (rotate s v draws) b r = Untouched b r
Left resolve b r = Untouched b r
Left time_out b r = Untouched b r

pub refusal_changes_nothing : (c : Call) (b : Board) → ((answer_to c b).answer ≡ Done) ⊎ Left c b (answer_to c b)
unfolding answer_to places.tick places.leave places.rotate places.resolve places.time_out reshapes.admit_split reshapes.admit_merge reshapes.mark_seat_ready reshapes.mark_quiet reshapes.draw_cohort reshapes.lapse schedule.schedule_splits schedule.schedule_merges cut.cut_splits cut.cut_merges
refusal_changes_nothing tick b = alone_untouched [] b _
refusal_changes_nothing (admit_split t) b = alone_untouched [] b _
refusal_changes_nothing (admit_merge t draws) b = alone_untouched draws b _
refusal_changes_nothing (mark_seat_ready t x) b = alone_untouched [] b _
refusal_changes_nothing (mark_quiet t side) b = alone_untouched [] b _
refusal_changes_nothing (draw_cohort t draws) b = alone_untouched draws b _
refusal_changes_nothing (lapse t) b = alone_untouched [] b _
refusal_changes_nothing (schedule_splits draws) b = batch_stopped schedule.schedule_split (schedule.unscheduled split b) draws b
refusal_changes_nothing schedule_merges b = batch_stopped schedule.schedule_merge (schedule.unscheduled merge b) [] b
refusal_changes_nothing cut_splits b = batch_stopped cut.cut_split (cut.due split b) [] b
refusal_changes_nothing cut_merges b = batch_stopped cut.cut_merge (cut.due merge b) [] b
refusal_changes_nothing (leave x draws) b = alone_untouched draws b _
refusal_changes_nothing (rotate s v draws) b = alone_untouched draws b _
refusal_changes_nothing resolve b = alone_untouched [] b _
refusal_changes_nothing time_out b = alone_untouched [] b _
