-- A lapse sends back the machines that the series drew.
use mathlib.Core.Path.{◌≡◌, refl, ap, sym, subst, ◌∙◌}
use mathlib.Core.List.{List, [], ◌∷◌}
use mathlib.Core.Option.{Option, none, some}
use mathlib.Core.Bool.{Bool, true, false, cond, not}
use Prim.Native.Nat.{ℕ}
use native.Mathlib.Omega.{arith}
use lib.ListN.{length}
use Rattle.types.specs.Numbers.{Shard, Id}
use Rattle.types.specs.Places.{observes, pooled}
use Rattle.types.specs.declared.Place.{Place}
use Rattle.types.specs.declared.Answer.TheVariants.{Done}
use Rattle.rules.specs.Lists.{every, count, has, keep}
use Rattle.rules.specs.Table.{at, each, update}
use Rattle.rules.specs.Board.{split, Board, on_machines, on_committees, on_reshapes}
use Rattle.rules.specs.WellFormed.{is_target}
use Rattle.rules.specs.Moves.{says, take_off, for_all, pooled_from, with_seats, is_kind}
use Rattle.rules.specs.Turns.{alone, checked}
use Rattle.rules.specs.SeatCheck.{seat_check}
use Rattle.rules.specs.Reshapes as reshapes
use Rattle.rules.specs.Calls as calls
use Rattle.rules.specs.Series.{next, after, drawn_in, sent_back}
use Rattle.rules.proofs.Counts.{occ}
use Rattle.rules.proofs.Tests.{le_of, has_occ, every_parts, every_has}
use Rattle.rules.proofs.Turns.{result}
use Rattle.rules.proofs.TakenOff.{each_alike, taken_off, pooled_again}
use Rattle.rules.proofs.KeptTables.{holds_at_lem}
use Rattle.rules.proofs.KeptBoard.{good_of_lem, fit_at}
use Rattle.rules.proofs.SeatsKept.{seat_check_formed, seat_check_kept}
use Rattle.rules.proofs.LapseCohorts.{Has, split_of, cohort_observes, Held, held_call}

-- ---- a lapse

count_every : (f : ℕ → Bool) (l : List ℕ) → every f l ≡ true → count f l ≡ length l
unfolding count
count_every f [] h = refl
count_every f (y ∷ l) h = let p = every_parts _ _ _ h in rw (p.0, count_every f l p.1) (omega arith)

module _ (t : Shard) (ids : List Id) (b : Board) (ok : seat_check b ≡ true) (h : Has t ids b) where
  cohort_is : reshapes.cohort_of t b ≡ ids
  unfolding reshapes.cohort_of
  cohort_is = let s = split_of t ids b h in rw (s.there, reshapes.cohort_of) s.cohort

  -- each of the cohort observes the target, so it is pooled
  all_pooled : each (λ x p. cond (has x ids) (pooled_from (observes t) p) p) b.machines ≡ each (λ x p. cond (has x ids) (pooled p) p) b.machines
  all_pooled = each_alike _ _ 0 b.machines (good_of_lem b (seat_check_formed b ok)).machines.rising (λ x p e. go x p e (has x ids) refl)
    where
      go : (x : Id) (p : Place) → at x b.machines ≡ some p → (c : Bool) → has x ids ≡ c → cond c (pooled_from (observes t) p) p ≡ cond c (pooled p) p
      go x p e true f =
          let o : observes t p ≡ true = sym (holds_at_lem x (observes t) b.machines p e) ∙ every_has _ ids x (cohort_observes t ids b ok h) (le_of 1 (occ x ids) (sym (has_occ x ids) ∙ f)) in
          rw o
      go x p e false f = refl

  released_sent : reshapes.released t b ≡ sent_back t ids b
  unfolding reshapes.released sent_back
  released_sent =
      ap (λ l. on_reshapes (update t (with_seats (λ seats. []))) (for_all (take_off t (pooled_from (observes t))) l b)) cohort_is
      ∙ ap (on_reshapes (update t (with_seats (λ seats. [])))) (taken_off (pooled_from (observes t)) (pooled_again (observes t)) t ids b ∙ ap (λ m. on_committees (update t (keep (λ x. not (has x ids)))) (on_machines (λ s. m) b)) all_pooled)

  all_observe : count (says (observes t) b) (reshapes.cohort_of t b) ≡ length ids
  all_observe = rw cohort_is (count_every _ ids (cohort_observes t ids b ok h))

  cohort_lapses : calls.answer_to (calls.lapse t) b ≡ result Done (length ids) 0 (sent_back t ids b)
  unfolding calls.answer_to reshapes.lapse alone checked
  cohort_lapses =
      let s = split_of t ids b h in
      let target : is_target t ≡ true = (fit_at (good_of_lem b (seat_check_formed b ok)) t s.reshape s.there).target in
      rw (seat_check_formed b ok, target, holds_at_lem t (is_kind split) b.reshapes s.reshape s.there, s.is_split, all_observe, released_sent)

-- ---- a series

series_lapses : (t : Shard) (cs : List calls.Call) (b : Board) (drawn : Option (List Id)) (ids : List Id) → seat_check b ≡ true → Held t drawn b → drawn_in t cs b drawn ≡ some ids
    → calls.answer_to (calls.lapse t) (after cs b) ≡ result Done (length ids) 0 (sent_back t ids (after cs b))
unfolding after drawn_in
series_lapses t [] b drawn ids ok h e = cohort_lapses t ids b ok (subst (λ o. Held t o b) e h)
series_lapses t (c ∷ cs) b drawn ids ok h e = series_lapses t cs (next c b) _ ids (seat_check_kept c b ok) (held_call t b ok c drawn h) e

-- 'if a split's cohort was drawn in the series and that split has since been neither cut nor lapsed, a lapse now sends to the pool exactly the drawn machines that haven't left, strikes just those from the target's committee, empties the cohort list, and changes nothing more'
pub lapse_sends_back : (t : Shard) (cs : List calls.Call) (b : Board) (ids : List Id) → seat_check b ≡ true → drawn_in t cs b none ≡ some ids
    → calls.answer_to (calls.lapse t) (after cs b) ≡ record { answer = Done; handled = length ids; used = 0; board = sent_back t ids (after cs b) }
lapse_sends_back t cs b ids ok e = series_lapses t cs b none ids ok tt e
