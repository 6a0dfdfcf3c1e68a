-- What a finished step used of its draws: it reads them from the front, asks for no other, and misses the last one where it is taken away.
use mathlib.Core.Path.{◌≡◌, refl, ap, sym, ◌∙◌}
use mathlib.Core.List.{List, [], ◌∷◌, ◌++◌, append-nil, append_assoc}
use mathlib.Core.Option.{Option, none, some}
use mathlib.Core.Bool.{Bool, true, false, cond, not}
use Prim.Native.Nat.{ℕ, zero, suc, ◌+◌, ◌-◌, ◌≤◌, ◌<◌}
use native.Mathlib.Omega.{arith}
use lib.Dec.{leb}
use lib.ListN.{length, take, drop, get_or, length-append, take-append-drop}
use lib.Seq.{take_at, take-append-le, drop-cons}
use Rattle.types.specs.Numbers.{Shard, Id, Epoch}
use Rattle.types.specs.declared.Place.{Place}
use Rattle.types.specs.declared.Place.TheVariants.{Pooled, Seated, Observing, Short, Other}
use Rattle.types.specs.declared.Answer.{Answer}
use Rattle.types.specs.declared.Answer.TheVariants.{Done, NotWellFormed, NoRecord, NoBoundary, DrawMissing, NoRoom}
use Rattle.rules.specs.Lists.{◌or◌, any, has}
use Rattle.rules.specs.Table.{at, update}
use Rattle.rules.specs.Board.{split, merge, Reshape, Board, epoch_of, on_reshapes}
use Rattle.rules.specs.WellFormed.{well_formed}
use Rattle.rules.specs.Draws.{Drawn, drew, missing, too_large, and_then, draw_index, exchange, shuffle_from, shuffle, draw_from}
use Rattle.types.specs.Places.{drawn_to}
use Rattle.rules.specs.Moves.{pool_of, put_on, may_join, is_party, with_drain_by, bounds_stand}
use Rattle.rules.specs.Turns.{Result, Turn, finished, refused, Fault, ◌gives◌, checked, drawn, alone, in_turn, batch, pool_draw}
use Rattle.rules.specs.Places as places
use Rattle.rules.specs.Reshapes as reshapes
use Rattle.rules.specs.Schedule as schedule
use Rattle.rules.specs.Cut as cut
use Rattle.rules.specs.Calls.{Call, tick, admit_split, admit_merge, mark_seat_ready, mark_quiet, draw_cohort, lapse, schedule_splits, schedule_merges, cut_splits, cut_merges, leave, rotate, resolve, time_out, answer_to}
use Rattle.rules.proofs.Answers.{refusals_of, may_not_done, may_admit_merge, may_draw_cohort, may_leave_step, may_rotate_lem, may_schedule_split, may_schedule_merge, may_cut_split, may_cut_merge}
use Rattle.rules.proofs.Turns.{result, by_option, in_turn_finished, in_turn_refused, batch_good, batch_bad, never_finished, drawn_finished}

-- ---- reading from the front

-- f finishes at `draws` with `left` left over, and `done` is how it finishes: the draws it used, that it finishes so whatever comes after them,
-- and that it is `lacking` at any list that ends before them
pub record Reads {R : Type 0} (f : List ℕ → R) (done : List ℕ → R) (lacking : R) (draws left : List ℕ) : Type 0 where
  pub used : List ℕ
  pub whole : draws ≡ used ++ left
  pub again : (more : List ℕ) → f (used ++ more) ≡ done more
  pub short : (front : List ℕ) (x : ℕ) (rest : List ℕ) → used ≡ front ++ (x ∷ rest) → f front ≡ lacking

never_empty : {A : Type 0} (front : List ℕ) (x : ℕ) (rest : List ℕ) → [] ≡ front ++ (x ∷ rest) → A
never_empty [] x rest e = absurd (let z : ◌≡◌ {A = ℕ} 0 1 = cc in omega arith)
never_empty (y ∷ front) x rest e = absurd (let z : ◌≡◌ {A = ℕ} 0 1 = cc in omega arith)

-- nothing is read
pub reads_none : {R : Type 0} (f done : List ℕ → R) (lacking : R) (draws : List ℕ) → ((more : List ℕ) → f more ≡ done more) → Reads f done lacking draws draws
reads_none f done lacking draws e = record { used = []; whole = refl; again = e; short = λ front x rest u. never_empty front x rest u }

-- a list that ends before two lists end, one after the other, ends before the first does or is the first with what ends before the second
data Ends (a b front : List ℕ) (x : ℕ) (rest : List ℕ) : Type 0 where
  within : (tail : List ℕ) → a ≡ front ++ (x ∷ tail) → Ends a b front x rest
  past : (more : List ℕ) → front ≡ a ++ more → b ≡ more ++ (x ∷ rest) → Ends a b front x rest

ends : (a b front : List ℕ) (x : ℕ) (rest : List ℕ) → a ++ b ≡ front ++ (x ∷ rest) → Ends a b front x rest
ends [] b front x rest e = past front refl e
ends (y ∷ a) b [] x rest e = within a (let f : y ≡ x = cc in rw f)
ends (y ∷ a) b (z ∷ front) x rest e =
    let p : y ≡ z = cc in
    let q : a ++ b ≡ front ++ (x ∷ rest) = cc in
    go p (ends a b front x rest q)
  where
    go : y ≡ z → Ends a b front x rest → Ends (y ∷ a) b (z ∷ front) x rest
    go p (within tail u) = within tail (cc)
    go p (past more u v) = past more (cc) v

-- one reading after another
module _ {A R : Type 0} (g : List ℕ → Drawn A) (next : A → List ℕ → R) (join : Drawn A → R) (done : List ℕ → R) (lacking : R)
    (joins : (a : A) (left : List ℕ) → join (drew a left) ≡ next a left) (lacks : join missing ≡ lacking) where
  pub reads_then : (draws middle left : List ℕ) (a : A) → Reads g (drew a) missing draws middle → Reads (next a) done lacking middle left → Reads (λ ds. join (g ds)) done lacking draws left
  reads_then draws middle left a p q = record {
    used = p.used ++ q.used;
    whole = p.whole ∙ ap (λ l. p.used ++ l) q.whole ∙ sym (append_assoc p.used q.used left);
    again = λ more. ap (λ l. join (g l)) (append_assoc p.used q.used more) ∙ ap join (p.again (q.used ++ more)) ∙ joins a (q.used ++ more) ∙ q.again more;
    short = λ front x rest e. go front x rest (ends p.used q.used front x rest e);
  }
    where
      go : (front : List ℕ) (x : ℕ) (rest : List ℕ) → Ends p.used q.used front x rest → join (g front) ≡ lacking
      go front x rest (within tail u) = ap join (p.short front x tail u) ∙ lacks
      go front x rest (past more u v) = ap (λ l. join (g l)) u ∙ ap join (p.again more) ∙ joins a more ∙ q.short more x rest v

-- ---- the draws

abbrev ReadsDraw : {A : Type 0} → (List ℕ → Drawn A) → Type 0
ReadsDraw {A} f = (draws left : List ℕ) (a : A) → f draws ≡ drew a left → Reads f (drew a) missing draws left

index_reads : (i : ℕ) → ReadsDraw (draw_index i)
unfolding draw_index
index_reads i [] left a e = absurd (let z : ◌≡◌ {A = ℕ} 0 1 = cc in omega arith)
index_reads i (j ∷ draws) left a e = go (leb j i) refl e
  where
    go : (c : Bool) → leb j i ≡ c → cond c (drew j draws) too_large ≡ drew a left → Reads (draw_index i) (drew a) missing (j ∷ draws) left
    go true u f = let p : j ≡ a = cc in let q : draws ≡ left = cc in record {
      used = j ∷ [];
      whole = cc;
      again = λ more. rw (u, p);
      short = λ front x rest v. first front x rest v;
    }
      where
        first : (front : List ℕ) (x : ℕ) (rest : List ℕ) → (j ∷ []) ≡ front ++ (x ∷ rest) → draw_index i front ≡ missing
        first [] x rest v = refl
        first (y ∷ front) x rest v = never_empty front x rest (let w : [] ≡ front ++ (x ∷ rest) = cc in w)
    go false u f = absurd (let z : ◌≡◌ {A = ℕ} 0 1 = cc in omega arith)

-- what an `and_then` that drew was made of
record Twice {A B : Type 0} (d : Drawn A) (next : A → List ℕ → Drawn B) (b : B) (left : List ℕ) : Type 0 where
  value : A
  middle : List ℕ
  first : d ≡ drew value middle
  second : next value middle ≡ drew b left

twice : {A B : Type 0} (d : Drawn A) (next : A → List ℕ → Drawn B) (b : B) (left : List ℕ) → and_then d next ≡ drew b left → Twice d next b left
unfolding and_then
twice (drew a middle) next b left e = record { value = a; middle = middle; first = refl; second = e }
twice missing next b left e = absurd (let z : ◌≡◌ {A = ℕ} 0 1 = cc in omega arith)
twice too_large next b left e = absurd (let z : ◌≡◌ {A = ℕ} 0 1 = cc in omega arith)

then_reads : {A B : Type 0} (g : List ℕ → Drawn A) (next : A → List ℕ → Drawn B) → ReadsDraw g → ((a : A) → ReadsDraw (next a)) → ReadsDraw (λ ds. and_then (g ds) next)
unfolding and_then
then_reads g next p q draws left b e =
    let t = twice (g draws) next b left e in
    reads_then g next (λ d. and_then d next) (drew b) missing (λ a l. refl) refl draws t.middle left t.value (p draws t.middle t.value t.first) (q t.value t.middle left b t.second)

-- nothing drawn
just_reads : {A : Type 0} (a : A) → ReadsDraw (drew a)
just_reads a draws left b e = let p : a ≡ b = cc in let q : draws ≡ left = cc in rw (← q) (reads_none (drew a) (drew b) missing draws (λ more. rw p))

shuffle_from_reads : (i : ℕ) (l : List Id) → ReadsDraw (shuffle_from i l)
unfolding shuffle_from
shuffle_from_reads zero l = just_reads l
shuffle_from_reads (suc i) l = then_reads (draw_index (suc i)) (λ j left. shuffle_from i (exchange (suc i) j l) left) (index_reads (suc i)) (λ j. shuffle_from_reads i (exchange (suc i) j l))

pub shuffle_reads : (l : List Id) → ReadsDraw (shuffle l)
unfolding shuffle
shuffle_reads l = shuffle_from_reads (length l - 1) l

pub from_reads : (l : List Id) → ReadsDraw (draw_from l)
unfolding draw_from
from_reads [] = just_reads none
from_reads (x ∷ l) = then_reads (draw_index (length l)) _ (index_reads (length l)) (λ k. just_reads (some (get_or (x ∷ l) k 0)))

keepers_read : (c : Shard) (share : ℕ) (b : Board) → ReadsDraw (reshapes.keepers_of c share b)
unfolding reshapes.keepers_of
keepers_read c share b = then_reads (shuffle _) _ (shuffle_reads _) (λ ready. then_reads (shuffle _) _ (shuffle_reads _) (λ waiting. just_reads _))

pub draw_keepers_reads : (t : Shard) (b : Board) → ReadsDraw (reshapes.draw_keepers t b)
unfolding reshapes.draw_keepers
draw_keepers_reads t b = then_reads (reshapes.keepers_of _ _ b) _ (keepers_read _ _ b) (λ lefts. then_reads (reshapes.keepers_of _ _ b) _ (keepers_read _ _ b) (λ rights. just_reads _))

-- ---- turns

abbrev pub ReadsTurn : (List ℕ → Turn) → Type 0
ReadsTurn f = (draws left : List ℕ) (n : ℕ) (c : Board) → f draws ≡ finished n left c → Reads f (λ more. finished n more c) (refused DrawMissing) draws left

refused_reads : (a : Answer) → ReadsTurn (λ ds. refused a)
refused_reads a draws left n c e = never_finished a n left c e

finished_reads : (m : ℕ) (b : Board) → ReadsTurn (λ ds. finished m ds b)
finished_reads m b draws left n c e =
    let p : m ≡ n = cc in
    let q : draws ≡ left = cc in
    let r : b ≡ c = cc in
    rw (← q) (reads_none (λ ds. finished m ds b) (λ ds. finished n ds c) (refused DrawMissing) draws (λ more. rw (p, r)))

cond_reads : (c : Bool) (f g : List ℕ → Turn) → ReadsTurn f → ReadsTurn g → ReadsTurn (λ ds. cond c (f ds) (g ds))
cond_reads true f g p q = p
cond_reads false f g p q = q

checked_reads : (fs : List Fault) (f : List ℕ → Turn) → ReadsTurn f → ReadsTurn (λ ds. checked fs (f ds))
unfolding checked
checked_reads [] f p = p
checked_reads (g ∷ fs) f p = cond_reads g.fails (λ ds. refused g.answer) (λ ds. checked fs (f ds)) (refused_reads g.answer) (checked_reads fs f p)

drawn_reads : {A : Type 0} (g : List ℕ → Drawn A) (next : A → List ℕ → Turn) → ReadsDraw g → ((a : A) → ReadsTurn (next a)) → ReadsTurn (λ ds. drawn (g ds) next)
unfolding drawn
drawn_reads g next p q draws left n c e =
    let t = drawn_finished (g draws) next n left c e in
    reads_then g next (λ d. drawn d next) (λ more. finished n more c) (refused DrawMissing) (λ a l. refl) refl draws t.rest left t.value (p draws t.rest t.value t.drew_it) (q t.value t.rest left n c t.from)

-- a turn that is another, whatever the draws
same_reads : (f g : List ℕ → Turn) → ((ds : List ℕ) → f ds ≡ g ds) → ReadsTurn g → ReadsTurn f
same_reads f g e p draws left n c u =
    let r = p draws left n c (sym (e draws) ∙ u) in
    record { used = r.used; whole = r.whole; again = λ more. e _ ∙ r.again more; short = λ front x rest v. e front ∙ r.short front x rest v }

pool_draw_reads : (s : Shard) (full : Bool) (also : Id → Board → Board) (b : Board) → ReadsTurn (λ ds. pool_draw s full also ds b)
unfolding pool_draw
pool_draw_reads s full also b = drawn_reads (draw_from (pool_of b)) _ (from_reads (pool_of b)) (λ o. elim o as (λ k. ReadsTurn (λ ds. elim k as (λ x. Turn) [ none ↦ finished 0 ds b | some x ↦ checked (not (may_join s (x ∷ []) b) gives NoRoom ∷ full gives NoRoom ∷ []) (finished 1 ds (also x (put_on s (drawn_to s (epoch_of b)) x b))) ])) [
  | none ↦ finished_reads 0 b
  | some x ↦ checked_reads _ _ (finished_reads 1 _)
])

leave_from_reads : (p : Place) (x : Id) (b : Board) → ReadsTurn (λ ds. places.leave_from p x ds b)
unfolding places.leave_from places.leave_from_seat
leave_from_reads Pooled x b = finished_reads 0 _
leave_from_reads (Seated s r w) x b =
    cond_reads (is_party s.0 x b) _ _ (finished_reads 0 _)
    (cond_reads (places.is_carved s.0 b) _ _ (finished_reads 0 _) (pool_draw_reads s.0 false (λ y c. c) _))
leave_from_reads (Observing s w) x b = finished_reads 0 _
leave_from_reads Short x b = finished_reads 0 _
leave_from_reads (Other m) x b = finished_reads 0 _

leave_reads : (x : Id) (b : Board) → ReadsTurn (λ ds. places.leave_turn x ds b)
unfolding places.leave_turn
leave_reads x b = by_option (ReadsTurn (λ ds. places.leave_turn x ds b)) (at x b.machines)
    (λ e. same_reads _ _ (λ ds. rw (e, places.leave_turn)) (refused_reads NoRecord))
    (λ p e. same_reads _ _ (λ ds. rw (e, places.leave_turn)) (leave_from_reads p x b))

-- what a turn does at the reshape of its shard
at_reads : (t : Shard) (b : Board) (f : List ℕ → Turn) (g : Reshape → List ℕ → Turn) → (at t b.reshapes ≡ none → (ds : List ℕ) → f ds ≡ finished 0 ds b)
    → ((r : Reshape) → at t b.reshapes ≡ some r → (ds : List ℕ) → f ds ≡ g r ds) → ((r : Reshape) → ReadsTurn (g r)) → ReadsTurn f
at_reads t b f g u v p = by_option (ReadsTurn f) (at t b.reshapes) (λ e. same_reads f _ (u e) (finished_reads 0 b)) (λ r e. same_reads f (g r) (v r e) (p r))

drain_reads : (t : Shard) (r : Reshape) (lefts rights : List Id) (b : Board) → ReadsTurn (λ ds. schedule.drain_or_schedule t r lefts rights ds b)
unfolding schedule.drain_or_schedule
drain_reads t r lefts rights b = by_option (ReadsTurn (λ ds. schedule.drain_or_schedule t r lefts rights ds b)) r.drain_by
    (λ e. same_reads _ stamps (λ ds. ap (told ds) e) (finished_reads 0 _))
    (λ d e. same_reads _ quietly (λ ds. ap (told ds) e) (cond_reads (schedule.is_quiet r) _ _ (checked_reads _ _ (finished_reads 1 _)) (finished_reads 0 b)))
  where
    stamps : List ℕ → Turn
    stamps ds = finished 0 ds (on_reshapes (update t (with_drain_by (schedule.drain_end b))) b)

    quietly : List ℕ → Turn
    quietly ds = cond (schedule.is_quiet r) (checked (not (bounds_stand r.kind t b) gives NoBoundary ∷ []) (finished 1 ds (schedule.scheduled t r lefts rights b))) (finished 0 ds b)

    told : List ℕ → Option Epoch → Turn
    told ds o = elim o [ none ↦ stamps ds | some d ↦ quietly ds ]

gate_reads : (t : Shard) (lefts rights : List Id) (b : Board) → ReadsTurn (λ ds. schedule.pass_gate t lefts rights ds b)
unfolding schedule.pass_gate
gate_reads t lefts rights b =
    at_reads t b _ (λ r ds. cond (schedule.split_gate t lefts rights r b) (schedule.drain_or_schedule t r lefts rights ds b) (finished 0 ds b))
    (λ e ds. rw (e, schedule.pass_gate)) (λ r e ds. rw (e, schedule.pass_gate))
    (λ r. cond_reads (schedule.split_gate t lefts rights r b) _ _ (drain_reads t r lefts rights b) (finished_reads 0 b))

pub schedule_split_reads : (t : Shard) (b : Board) → ReadsTurn (λ ds. schedule.schedule_split t ds b)
unfolding schedule.schedule_split schedule.halve
schedule_split_reads t b = drawn_reads (shuffle _) _ (shuffle_reads _) (λ ids. gate_reads t _ _ _)

pub schedule_merge_reads : (t : Shard) (b : Board) → ReadsTurn (λ ds. schedule.schedule_merge t ds b)
unfolding schedule.schedule_merge
schedule_merge_reads t b =
    at_reads t b _ (λ r ds. cond (schedule.merge_gate r b) (schedule.drain_or_schedule t r [] [] ds b) (finished 0 ds b))
    (λ e ds. rw (e, schedule.schedule_merge)) (λ r e ds. rw (e, schedule.schedule_merge))
    (λ r. cond_reads (schedule.merge_gate r b) _ _ (drain_reads t r [] [] b) (finished_reads 0 b))

pub cut_split_reads : (t : Shard) (b : Board) → ReadsTurn (λ ds. cut.cut_split t ds b)
unfolding cut.cut_split cut.cut_split_of
cut_split_reads t b = at_reads t b _ (λ r ds. cut.cut_split_of t r ds b) (λ e ds. rw (e, cut.cut_split)) (λ r e ds. rw (e, cut.cut_split)) (λ r. checked_reads _ _ (finished_reads 1 _))

pub cut_merge_reads : (t : Shard) (b : Board) → ReadsTurn (λ ds. cut.cut_merge t ds b)
unfolding cut.cut_merge cut.cut_merge_of
cut_merge_reads t b = at_reads t b _ (λ r ds. cut.cut_merge_of t r ds b) (λ e ds. rw (e, cut.cut_merge)) (λ r e ds. rw (e, cut.cut_merge)) (λ r. checked_reads _ _ (finished_reads 1 _))

-- ---- steps

-- a step that finished, `before` draws having been used already: the draws that it used, that it gives the same whatever comes after them,
-- and that it answers 9 at any list that ends before them
pub record Exact (f : List ℕ → Result) (before : ℕ) (draws : List ℕ) : Type 0 where
  pub used : List ℕ
  pub rest : List ℕ
  pub whole : draws ≡ used ++ rest
  pub counted : (f draws).used ≡ before + length used
  pub again : (more : List ℕ) → f (used ++ more) ≡ f draws
  pub short : (front : List ℕ) (x : ℕ) (tail : List ℕ) → used ≡ front ++ (x ∷ tail) → (f front).answer ≡ DrawMissing

abbrev pub ReadsStep : (List ℕ → Result) → Type 0
ReadsStep f = (draws : List ℕ) → (f draws).answer ≡ Done → Exact f 0 draws

-- a turn that is not refused with 0
abbrev NotDone : Turn → Type 0
NotDone t = t ≡ refused Done → ⊥

alone_reads : (b : Board) (t : List ℕ → Turn) → ((ds : List ℕ) → NotDone (t ds)) → ReadsTurn t → ReadsStep (λ ds. alone ds b (t ds))
unfolding alone
alone_reads b t never p draws e = go (t draws) refl e
  where
    go : (u : Turn) → t draws ≡ u → (alone draws b u).answer ≡ Done → Exact (λ ds. alone ds b (t ds)) 0 draws
    go (refused a) f g = absurd (never draws (f ∙ ap refused g))
    go (finished n left c) f g =
        let r = p draws left n c f in
        let size : length draws ≡ length r.used + length left = ap length r.whole ∙ length-append r.used left in
        record {
          used = r.used;
          rest = left;
          whole = r.whole;
          counted = rw f (omega arith);
          again = λ more. let taken : length (r.used ++ more) ≡ length r.used + length more = length-append r.used more in rw (r.again more, f) (ap (λ k. result Done n k c) (omega arith));
          short = λ front x tail u. rw (r.short front x tail u) refl;
        }

-- over several shards
module _ (turn : Shard → List ℕ → Board → Turn) (never : (s : Shard) (ds : List ℕ) (b : Board) → NotDone (turn s ds b)) (reads : (s : Shard) (b : Board) → ReadsTurn (λ ds. turn s ds b)) where
  in_turn_reads : (shards : List Shard) (handled before : ℕ) (draws : List ℕ) (b : Board) → (in_turn turn shards handled before draws b).answer ≡ Done
      → Exact (λ ds. in_turn turn shards handled before ds b) before draws
  unfolding in_turn
  in_turn_reads [] handled before draws b e =
      record { used = []; rest = draws; whole = refl; counted = omega arith; again = λ more. refl; short = λ front x tail u. never_empty front x tail u }
  in_turn_reads (s ∷ shards) handled before draws b e = go (turn s draws b) refl e (λ n u left c. in_turn_reads shards n u left c)
    where
      Goal : Type 0
      Goal = Exact (λ ds. in_turn turn (s ∷ shards) handled before ds b) before draws

      go : (t : Turn) → turn s draws b ≡ t → (in_turn turn (s ∷ shards) handled before draws b).answer ≡ Done
          → ((n u : ℕ) (left : List ℕ) (c : Board) → (in_turn turn shards n u left c).answer ≡ Done → Exact (λ ds. in_turn turn shards n u ds c) u left) → Goal
      go (refused a) f g ih = absurd (never s draws b (f ∙ ap refused (rw (in_turn_refused turn s shards handled before draws b a f) at g)))
      go (finished n left c) f g ih = after (reads s b draws left n c f)
        where
          next : ℕ → List ℕ → Result
          next used ds = in_turn turn shards (handled + n) (before + used) ds c

          after : Reads (λ ds. turn s ds b) (λ more. finished n more c) (refused DrawMissing) draws left → Goal
          after r = record {
            used = r.used ++ i.used;
            rest = i.rest;
            whole = r.whole ∙ ap (λ l. r.used ++ l) i.whole ∙ sym (append_assoc r.used i.used i.rest);
            counted = ap (λ q. q.used) here ∙ i.counted ∙ (let k = length-append r.used i.used in omega arith);
            again = λ more. ap whole_turn (append_assoc r.used i.used more) ∙ turned (i.used ++ more) ∙ i.again more ∙ sym here;
            short = λ front x tail u. cut_short front x tail (ends r.used i.used front x tail u);
          }
            where
              whole_turn : List ℕ → Result
              whole_turn ds = in_turn turn (s ∷ shards) handled before ds b

              turned : (more : List ℕ) → whole_turn (r.used ++ more) ≡ next (length r.used) more
              turned more = in_turn_finished turn s shards handled before (r.used ++ more) b n more c (r.again more)
                  ∙ ap (λ k. in_turn turn shards (handled + n) k more c) (let k = length-append r.used more in omega arith)

              here : whole_turn draws ≡ next (length r.used) left
              here = ap whole_turn r.whole ∙ turned left

              i : Exact (next (length r.used)) (before + length r.used) left
              i = ih (handled + n) (before + length r.used) left c (sym (ap (λ q. q.answer) here) ∙ g)

              cut_short : (front : List ℕ) (x : ℕ) (tail : List ℕ) → Ends r.used i.used front x tail → (whole_turn front).answer ≡ DrawMissing
              cut_short front x tail (within rest u) = ap (λ q. q.answer) (in_turn_refused turn s shards handled before front b DrawMissing (r.short front x rest u))
              cut_short front x tail (past more u v) = ap (λ l. (whole_turn l).answer) u ∙ ap (λ q. q.answer) (turned more) ∙ i.short more x tail v

  batch_reads : (shards : List Shard) (b : Board) → ReadsStep (λ ds. batch turn shards ds b)
  batch_reads shards b draws e = go (well_formed b) refl
    where
      f : List ℕ → Result
      f ds = batch turn shards ds b

      good : well_formed b ≡ true → Exact (λ ds. in_turn turn shards 0 0 ds b) 0 draws → Exact f 0 draws
      good w r = record {
        used = r.used;
        rest = r.rest;
        whole = r.whole;
        counted = ap (λ q. q.used) (batch_good turn shards draws b w) ∙ r.counted;
        again = λ more. batch_good turn shards _ b w ∙ r.again more ∙ sym (batch_good turn shards draws b w);
        short = λ front x tail u. ap (λ q. q.answer) (batch_good turn shards front b w) ∙ r.short front x tail u;
      }

      go : (c : Bool) → well_formed b ≡ c → Exact f 0 draws
      go true w = good w (in_turn_reads shards 0 0 draws b (sym (ap (λ q. q.answer) (batch_good turn shards draws b w)) ∙ e))
      go false w = absurd (let a : NotWellFormed ≡ Done = sym (ap (λ q. q.answer) (batch_bad turn shards draws b w)) ∙ e in let z : ◌≡◌ {A = ℕ} 0 1 = cc in omega arith)

-- ---- calls

unfoldable pub draws_of : Call → List ℕ
draws_of tick = []
draws_of (admit_split t) = []
draws_of (admit_merge t draws) = draws
draws_of (mark_seat_ready t x) = []
draws_of (mark_quiet t side) = []
draws_of (draw_cohort t draws) = draws
draws_of (lapse t) = []
draws_of (schedule_splits draws) = draws
draws_of schedule_merges = []
draws_of cut_splits = []
draws_of cut_merges = []
draws_of (leave x draws) = draws
draws_of (rotate s v draws) = draws
draws_of resolve = []
draws_of time_out = []

-- the same call with other draws
unfoldable pub with_draws : Call → List ℕ → Call
with_draws tick draws = tick
with_draws (admit_split t) draws = admit_split t
with_draws (admit_merge t old) draws = admit_merge t draws
with_draws (mark_seat_ready t x) draws = mark_seat_ready t x
with_draws (mark_quiet t side) draws = mark_quiet t side
with_draws (draw_cohort t old) draws = draw_cohort t draws
with_draws (lapse t) draws = lapse t
with_draws (schedule_splits old) draws = schedule_splits draws
with_draws schedule_merges draws = schedule_merges
with_draws cut_splits draws = cut_splits
with_draws cut_merges draws = cut_merges
with_draws (leave x old) draws = leave x draws
with_draws (rotate s v old) draws = rotate s v draws
with_draws resolve draws = resolve
with_draws time_out draws = time_out

-- a step that takes no draws uses none
no_draws : (r : Result) → r.used ≡ 0 → Exact (λ ds. r) 0 []
no_draws r e = record { used = []; rest = []; whole = refl; counted = e; again = λ more. refl; short = λ front x tail u. never_empty front x tail u }

alone_none : (b : Board) (t : Turn) → (alone [] b t).used ≡ 0
unfolding alone
alone_none b (finished n left c) = omega arith
alone_none b (refused a) = refl

-- the same of a step over several shards that is lent no draws
module _ (f : List ℕ → Result) where
  none_used : Exact f 0 [] → (f []).used ≡ 0
  none_used r = let k : 0 ≡ length r.used + length r.rest = ap length r.whole ∙ length-append r.used r.rest in omega (arith, r.counted)

pub exact_draws : (c : Call) (b : Board) → (answer_to c b).answer ≡ Done → Exact (λ ds. answer_to (with_draws c ds) b) 0 (draws_of c)
unfolding answer_to draws_of with_draws refusals_of has any ◌or◌ places.tick places.leave places.rotate places.rotate_turn places.resolve places.time_out reshapes.admit reshapes.admit_split reshapes.admit_merge reshapes.mark_seat_ready reshapes.mark_quiet reshapes.draw_cohort reshapes.cohort_turn reshapes.lapse schedule.schedule_splits schedule.schedule_merges cut.cut_splits cut.cut_merges
exact_draws tick b e = no_draws _ (alone_none b _)
exact_draws (admit_split t) b e = no_draws _ (alone_none b _)
exact_draws (admit_merge t draws) b e =
    alone_reads b _ (λ ds. may_not_done (refusals_of (admit_merge t ds)) refl _ (may_admit_merge b t ds _))
    (checked_reads _ _ (drawn_reads (reshapes.draw_keepers t b) _ (draw_keepers_reads t b) (λ keepers. checked_reads _ _ (finished_reads _ _)))) draws e
exact_draws (mark_seat_ready t x) b e = no_draws _ (alone_none b _)
exact_draws (mark_quiet t side) b e = no_draws _ (alone_none b _)
exact_draws (draw_cohort t draws) b e =
    alone_reads b _ (λ ds. may_not_done (refusals_of (draw_cohort t ds)) refl _ (may_draw_cohort b t ds _ _ _ _))
    (checked_reads _ _ (drawn_reads (shuffle (pool_of b)) _ (shuffle_reads (pool_of b)) (λ ids. checked_reads _ _ (finished_reads _ _)))) draws e
exact_draws (lapse t) b e = no_draws _ (alone_none b _)
exact_draws (schedule_splits draws) b e =
    let l = refusals_of (schedule_splits draws) in
    batch_reads schedule.schedule_split (λ s ds c. may_not_done l refl _ (may_schedule_split l refl refl refl s ds c)) schedule_split_reads (schedule.unscheduled split b) b draws e
exact_draws schedule_merges b e =
    let l = refusals_of schedule_merges in
    no_draws _ (none_used _ (batch_reads schedule.schedule_merge (λ s ds c. may_not_done l refl _ (may_schedule_merge l refl s ds c)) schedule_merge_reads (schedule.unscheduled merge b) b [] e))
exact_draws cut_splits b e =
    let l = refusals_of cut_splits in
    no_draws _ (none_used _ (batch_reads cut.cut_split (λ s ds c. may_not_done l refl _ (may_cut_split l refl refl refl s ds c)) cut_split_reads (cut.due split b) b [] e))
exact_draws cut_merges b e =
    let l = refusals_of cut_merges in
    no_draws _ (none_used _ (batch_reads cut.cut_merge (λ s ds c. may_not_done l refl _ (may_cut_merge l refl refl refl s ds c)) cut_merge_reads (cut.due merge b) b [] e))
exact_draws (leave x draws) b e =
    alone_reads b _ (λ ds. may_not_done (refusals_of (leave x ds)) refl _ (may_leave_step b x ds)) (checked_reads _ _ (leave_reads x b)) draws e
exact_draws (rotate s v draws) b e =
    alone_reads b _ (λ ds. may_not_done (refusals_of (rotate s v ds)) refl _ (may_rotate_lem b s v ds _))
    (checked_reads _ _ (cond_reads (places.may_rotate s b) _ _ (checked_reads _ _ (pool_draw_reads s _ _ b)) (finished_reads 0 b))) draws e
exact_draws resolve b e = no_draws _ (alone_none b _)
exact_draws time_out b e = no_draws _ (alone_none b _)

-- ---- what follows of the lent list

own_draws : (c : Call) → with_draws c (draws_of c) ≡ c
unfolding with_draws draws_of
own_draws tick = refl
own_draws (admit_split t) = refl
own_draws (admit_merge t draws) = refl
own_draws (mark_seat_ready t x) = refl
own_draws (mark_quiet t side) = refl
own_draws (draw_cohort t draws) = refl
own_draws (lapse t) = refl
own_draws (schedule_splits draws) = refl
own_draws schedule_merges = refl
own_draws cut_splits = refl
own_draws cut_merges = refl
own_draws (leave x draws) = refl
own_draws (rotate s v draws) = refl
own_draws resolve = refl
own_draws time_out = refl

module _ (c : Call) (b : Board) (e : (answer_to c b).answer ≡ Done) where
  r : Exact (λ ds. answer_to (with_draws c ds) b) 0 (draws_of c)
  r = exact_draws c b e

  own : answer_to (with_draws c (draws_of c)) b ≡ answer_to c b
  own = ap (λ d. answer_to d b) (own_draws c)

  used_is : (answer_to c b).used ≡ length r.used
  used_is = sym (ap (λ q. q.used) own) ∙ r.counted ∙ omega arith

  -- a finished step gives the same result if the list is cut to what it used
  pub cut_to_used : answer_to (with_draws c (take (answer_to c b).used (draws_of c))) b ≡ answer_to c b
  cut_to_used =
      ap (λ l. answer_to (with_draws c l) b) (ap (take (answer_to c b).used) r.whole ∙ take_at r.used r.rest _ (sym used_is) ∙ sym (append-nil r.used))
      ∙ r.again [] ∙ own

  -- and answers 9 if it is cut by one more, or by more than one
  pub cut_by_more : (k : ℕ) → k < (answer_to c b).used → (answer_to (with_draws c (take k (draws_of c))) b).answer ≡ DrawMissing
  cut_by_more k h =
      let small : k < length r.used = omega (arith, used_is) in
      ap (λ l. (answer_to (with_draws c l) b).answer) (ap (take k) r.whole ∙ take-append-le k r.used r.rest (omega arith))
      ∙ r.short (take k r.used) (get_or r.used k 0) (drop (suc k) r.used) (sym (take-append-drop k r.used) ∙ ap (λ l. take k r.used ++ l) (drop-cons r.used k 0 small))

-- ---- draws used never exceed the draws lent

alone_most : (draws : List ℕ) (b : Board) (t : Turn) → (alone draws b t).used ≤ length draws
unfolding alone
alone_most draws b (finished n left c) = omega arith
alone_most draws b (refused a) = omega arith

module _ (turn : Shard → List ℕ → Board → Turn) (reads : (s : Shard) (b : Board) → ReadsTurn (λ ds. turn s ds b)) where
  in_turn_most : (shards : List Shard) (handled before : ℕ) (draws : List ℕ) (b : Board) → (in_turn turn shards handled before draws b).used ≤ before + length draws
  unfolding in_turn
  in_turn_most [] handled before draws b = omega arith
  in_turn_most (s ∷ shards) handled before draws b = go (turn s draws b) refl (λ n u left c. in_turn_most shards n u left c)
    where
      go : (t : Turn) → turn s draws b ≡ t → ((n u : ℕ) (left : List ℕ) (c : Board) → (in_turn turn shards n u left c).used ≤ u + length left)
          → (in_turn turn (s ∷ shards) handled before draws b).used ≤ before + length draws
      go (refused a) f ih = rw (in_turn_refused turn s shards handled before draws b a f) (omega arith)
      go (finished n left c) f ih =
          let k = reads s b draws left n c f in
          let size : length draws ≡ length k.used + length left = ap length k.whole ∙ length-append k.used left in
          rw (in_turn_finished turn s shards handled before draws b n left c f) (omega (arith, ih (handled + n) (before + (length draws - length left)) left c))

  batch_most : (shards : List Shard) (draws : List ℕ) (b : Board) → (batch turn shards draws b).used ≤ length draws
  batch_most shards draws b = go (well_formed b) refl
    where
      go : (c : Bool) → well_formed b ≡ c → (batch turn shards draws b).used ≤ length draws
      go true w = rw (batch_good turn shards draws b w) (omega (arith, in_turn_most shards 0 0 draws b))
      go false w = rw (batch_bad turn shards draws b w) (omega arith)

pub used_at_most_lent : (c : Call) (b : Board) → (answer_to c b).used ≤ length (draws_of c)
unfolding answer_to draws_of places.tick places.leave places.rotate places.resolve places.time_out reshapes.admit_split reshapes.admit_merge reshapes.mark_seat_ready reshapes.mark_quiet reshapes.draw_cohort reshapes.lapse schedule.schedule_splits schedule.schedule_merges cut.cut_splits cut.cut_merges
used_at_most_lent tick b = alone_most [] b _
used_at_most_lent (admit_split t) b = alone_most [] b _
used_at_most_lent (admit_merge t draws) b = alone_most draws b _
used_at_most_lent (mark_seat_ready t x) b = alone_most [] b _
used_at_most_lent (mark_quiet t side) b = alone_most [] b _
used_at_most_lent (draw_cohort t draws) b = alone_most draws b _
used_at_most_lent (lapse t) b = alone_most [] b _
used_at_most_lent (schedule_splits draws) b = batch_most schedule.schedule_split schedule_split_reads _ draws b
used_at_most_lent schedule_merges b = batch_most schedule.schedule_merge schedule_merge_reads _ [] b
used_at_most_lent cut_splits b = batch_most cut.cut_split cut_split_reads _ [] b
used_at_most_lent cut_merges b = batch_most cut.cut_merge cut_merge_reads _ [] b
used_at_most_lent (leave x draws) b = alone_most draws b _
used_at_most_lent (rotate s v draws) b = alone_most draws b _
used_at_most_lent resolve b = alone_most [] b _
used_at_most_lent time_out b = alone_most [] b _
