-- Laws of draws and turns: how a step over several shards goes on, and that a property of every board that a turn can finish with is one of the step's board.
use mathlib.Core.Path.{◌≡◌, refl, subst}
use mathlib.Core.List.{List, [], ◌∷◌}
use mathlib.Core.Option.{Option, none, some}
use mathlib.Core.Bool.{Bool, true, false, not}
use Prim.Native.Nat.{ℕ, ◌+◌, ◌-◌, ◌≤◌}
use native.Mathlib.Omega.{arith}
use lib.Dec.{leb}
use lib.ListN.{length}
use Rattle.types.specs.Numbers.{Shard, Id}
use Rattle.types.specs.Places.{drawn_to}
use Rattle.types.specs.declared.Answer.{Answer}
use Rattle.types.specs.declared.Answer.TheVariants.{NotWellFormed, NoRoom}
use Rattle.rules.specs.Table.{at}
use Rattle.rules.specs.Board.{Reshape, Board, epoch_of}
use Rattle.rules.specs.WellFormed.{well_formed}
use Rattle.rules.specs.Draws.{Drawn, drew, missing, too_large, and_then, draw_index, shuffle, draw_from}
use Rattle.rules.specs.Moves.{pool_of, put_on, may_join, for_all}
use Rattle.rules.specs.Turns.{Result, Turn, finished, refused, Fault, ◌gives◌, checked, drawn, alone, in_turn, batch, pool_draw}
use Rattle.rules.proofs.Counts.{hit_same, occ, occ_get_d, shuffle_keeps}
use Rattle.rules.proofs.Tests.{by_cases, of_no, le_of}

abbrev pub result : Answer → ℕ → ℕ → Board → Result
result answer handled used b = record { answer = answer; handled = handled; used = used; board = b }

-- by what stands in an option
pub by_option : {A : Type 0} (P : Type 0) (o : Option A) → (o ≡ none → P) → ((a : A) → o ≡ some a → P) → P
by_option P none f g = f refl
by_option P (some a) f g = g a refl

module _ (turn : Shard → List ℕ → Board → Turn) where
  pub in_turn_finished : (s : Shard) (l : List Shard) (handled used : ℕ) (draws : List ℕ) (b : Board) (n : ℕ) (left : List ℕ) (c : Board)
      → turn s draws b ≡ finished n left c → in_turn turn (s ∷ l) handled used draws b ≡ in_turn turn l (handled + n) (used + (length draws - length left)) left c
  unfolding in_turn
  in_turn_finished s l handled used draws b n left c e = rw (e, in_turn)

  pub in_turn_refused : (s : Shard) (l : List Shard) (handled used : ℕ) (draws : List ℕ) (b : Board) (a : Answer)
      → turn s draws b ≡ refused a → in_turn turn (s ∷ l) handled used draws b ≡ result a handled used b
  unfolding in_turn
  in_turn_refused s l handled used draws b a e = rw (e, in_turn)

  pub batch_good : (shards : List Shard) (draws : List ℕ) (b : Board) → well_formed b ≡ true → batch turn shards draws b ≡ in_turn turn shards 0 0 draws b
  unfolding batch
  batch_good shards draws b e = rw (e, batch)

  pub batch_bad : (shards : List Shard) (draws : List ℕ) (b : Board) → well_formed b ≡ false → batch turn shards draws b ≡ result NotWellFormed 0 0 b
  unfolding batch
  batch_bad shards draws b e = rw (e, batch)

-- the boards that finished turns come to, one after another
pub data Reached (turn : Shard → List ℕ → Board → Turn) (b : Board) : Board → Type 0 where
  begun : Reached turn b b
  turned : {c d : Board} (s : Shard) (draws left : List ℕ) (n : ℕ) → Reached turn b c → turn s draws c ≡ finished n left d → Reached turn b d

-- ---- how a turn came to finish

pub never_finished : {A : Type 0} (a : Answer) (n : ℕ) (left : List ℕ) (c : Board) → refused a ≡ finished n left c → A
never_finished a n left c e = absurd (let z : ◌≡◌ {A = ℕ} 0 1 = cc in omega arith)

-- a turn after draws: what was drawn, and the turn from there
pub record Came {A : Type 0} (d : Drawn A) (next : A → List ℕ → Turn) (n : ℕ) (left : List ℕ) (c : Board) : Type 0 where
  pub value : A
  pub rest : List ℕ
  pub drew_it : d ≡ drew value rest
  pub from : next value rest ≡ finished n left c

pub drawn_finished : {A : Type 0} (d : Drawn A) (next : A → List ℕ → Turn) (n : ℕ) (left : List ℕ) (c : Board) → drawn d next ≡ finished n left c → Came d next n left c
unfolding drawn
drawn_finished (drew a rest) next n left c e = record { value = a; rest = rest; drew_it = refl; from = e }
drawn_finished missing next n left c e = never_finished _ n left c e
drawn_finished too_large next n left c e = never_finished _ n left c e

-- what every move keeps, all of them keep
pub for_all_keeps : {A : Type 0} (P : Board → Type 0) (move : A → Board → Board) → ((x : A) (b : Board) → P b → P (move x b)) → (l : List A) (b : Board) → P b → P (for_all move l b)
unfolding for_all
for_all_keeps P move k [] b p = p
for_all_keeps P move k (x ∷ l) b p = for_all_keeps P move k l (move x b) (k x b p)

-- ---- a property of whatever a turn can finish with

abbrev pub Passed : List Fault → Type 0
Passed [] = Unit {0}
Passed (f ∷ fs) = (f.fails ≡ false) × Passed fs

-- ---- draws: a property of whatever can be drawn

abbrev pub Draws : {A : Type 0} → (A → Type 0) → Drawn A → Type 0
Draws P (drew a left) = P a
Draws P missing = Unit {0}
Draws P too_large = Unit {0}

pub and_then_draws : {A B : Type 0} (P : A → Type 0) (Q : B → Type 0) (d : Drawn A) (f : A → List ℕ → Drawn B) → Draws P d → ((a : A) (left : List ℕ) → P a → Draws Q (f a left)) → Draws Q (and_then d f)
unfolding and_then
and_then_draws P Q (drew a left) f p h = h a left p
and_then_draws P Q missing f p h = tt
and_then_draws P Q too_large f p h = tt

index_draws : (i : ℕ) (draws : List ℕ) → Draws (λ j. j ≤ i) (draw_index i draws)
unfolding draw_index
index_draws i [] = tt
index_draws i (j ∷ draws) = by_cases (Draws (λ k. k ≤ i)) (leb j i) (drew j draws) too_large (λ e. le_of _ _ e) (λ e. tt)

-- the one drawn is of the pool
abbrev pub OfPool : List Id → Option Id → Type 0
OfPool pool none = Unit {0}
OfPool pool (some x) = 1 ≤ occ x pool

pub pool_draws : (pool : List Id) (draws : List ℕ) → Draws (OfPool pool) (draw_from pool draws)
unfolding draw_from
pool_draws [] draws = tt
pool_draws (x ∷ l) draws = and_then_draws (λ k. k ≤ length l) _ _ _ (index_draws (length l) draws) (λ k left h. occ_get_d (x ∷ l) k (omega arith))

-- the same ids in another order
pub record Mixed (l m : List Id) : Type 0 where
  pub size : length m ≡ length l
  pub ids : (x : ℕ) → occ x m ≡ occ x l

pub shuffle_draws : (l : List Id) (draws : List ℕ) → Draws (Mixed l) (shuffle l draws)
shuffle_draws l draws = go (shuffle l draws) refl
  where
    go : (d : Drawn (List Id)) → shuffle l draws ≡ d → Draws (Mixed l) d
    go (drew m left) e = record { size = (shuffle_keeps 0 l draws m left e).0; ids = λ x. (shuffle_keeps x l draws m left e).1 }
    go missing e = tt
    go too_large e = tt

-- ---- turns

module _ (P : Board → Type 0) where
  abbrev pub Finishes : Turn → Type 0
  Finishes (finished n left c) = P c
  Finishes (refused a) = Unit {0}

  pub checked_finishes : (fs : List Fault) (t : Turn) → (Passed fs → Finishes t) → Finishes (checked fs t)
  unfolding checked
  checked_finishes [] t h = h tt
  checked_finishes (f ∷ fs) t h = by_cases Finishes f.fails (refused f.answer) (checked fs t) (λ e. tt) (λ e. checked_finishes fs t (λ p. h (e, p)))

  -- by what was drawn
  pub drawn_told : {A : Type 0} (d : Drawn A) (turn : A → List ℕ → Turn) → ((a : A) (left : List ℕ) → d ≡ drew a left → Finishes (turn a left)) → Finishes (drawn d turn)
  unfolding drawn
  drawn_told (drew a left) turn h = h a left refl
  drawn_told missing turn h = tt
  drawn_told too_large turn h = tt

  pub drawn_finishes : {A : Type 0} (Q : A → Type 0) (d : Drawn A) (turn : A → List ℕ → Turn) → Draws Q d → ((a : A) (left : List ℕ) → Q a → Finishes (turn a left)) → Finishes (drawn d turn)
  unfolding drawn
  drawn_finishes Q (drew a left) turn q h = h a left q
  drawn_finishes Q missing turn q h = tt
  drawn_finishes Q too_large turn q h = tt

  -- a turn on a reshape that is looked up: where there is none, nothing is done
  pub reshape_finishes : (t : Shard) (turn : Reshape → Turn) (draws : List ℕ) (b : Board) → P b → ((r : Reshape) → at t b.reshapes ≡ some r → Finishes (turn r))
      → Finishes (elim (at t b.reshapes) [ none ↦ finished 0 draws b | some r ↦ turn r ])
  reshape_finishes t turn draws b p h = go (at t b.reshapes) refl
    where
      go : (o : Option Reshape) → at t b.reshapes ≡ o → Finishes (elim o [ none ↦ finished 0 draws b | some r ↦ turn r ])
      go none e = p
      go (some r) e = h r e

  pub alone_keeps : (draws : List ℕ) (b : Board) (t : Turn) → P b → Finishes t → P (alone draws b t).board
  unfolding alone
  alone_keeps draws b (finished n left c) p q = q
  alone_keeps draws b (refused a) p q = p

  -- a step that is one turn after its checks
  pub step_keeps : (draws : List ℕ) (b : Board) (fs : List Fault) (t : Turn) → P b → (Passed fs → Finishes t) → P (alone draws b (checked fs t)).board
  step_keeps draws b fs t p h = alone_keeps draws b (checked fs t) p (checked_finishes fs t h)

  pub in_turn_keeps : (turn : Shard → List ℕ → Board → Turn) (shards : List Shard)
      → ((s : Shard) → 1 ≤ occ s shards → (draws : List ℕ) (b : Board) → P b → Finishes (turn s draws b))
      → (handled used : ℕ) (draws : List ℕ) (b : Board) → P b → P (in_turn turn shards handled used draws b).board
  unfolding in_turn occ
  in_turn_keeps turn [] k handled used draws b p = p
  in_turn_keeps turn (s ∷ l) k handled used draws b p = go (turn s draws b) refl (k s (omega (arith, hit_same s)) draws b p) (in_turn_keeps turn l (λ t o. k t (omega arith)))
    where
      go : (t : Turn) → turn s draws b ≡ t → Finishes t → ((n m : ℕ) (left : List ℕ) (c : Board) → P c → P (in_turn turn l n m left c).board)
          → P (in_turn turn (s ∷ l) handled used draws b).board
      go (finished n left c) e q ih = rw (in_turn_finished turn s l handled used draws b n left c e) (ih _ _ left c q)
      go (refused a) e q ih = rw (in_turn_refused turn s l handled used draws b a e) p

  pub batch_keeps : (turn : Shard → List ℕ → Board → Turn) (shards : List Shard) (draws : List ℕ) (b : Board)
      → (well_formed b ≡ true → (s : Shard) → 1 ≤ occ s shards → (ds : List ℕ) (c : Board) → P c → Finishes (turn s ds c)) → P b → P (batch turn shards draws b).board
  batch_keeps turn shards draws b k p = go (well_formed b) refl
    where
      go : (w : Bool) → well_formed b ≡ w → P (batch turn shards draws b).board
      go true e = rw (batch_good turn shards draws b e) (in_turn_keeps turn shards (k e) 0 0 draws b p)
      go false e = rw (batch_bad turn shards draws b e) p

  pub pool_draw_finishes : (s : Shard) (full : Bool) (also : Id → Board → Board) (draws : List ℕ) (b : Board) → P b
      → ((x : Id) → 1 ≤ occ x (pool_of b) → may_join s (x ∷ []) b ≡ true → full ≡ false → P (also x (put_on s (drawn_to s (epoch_of b)) x b)))
      → Finishes (pool_draw s full also draws b)
  unfolding pool_draw
  pool_draw_finishes s full also draws b p k = drawn_finishes (OfPool (pool_of b)) (draw_from (pool_of b) draws) _ (pool_draws (pool_of b) draws) go
    where
      go : (found : Option Id) (left : List ℕ) → OfPool (pool_of b) found
          → Finishes (elim found [
            | none ↦ finished 0 left b
            | some x ↦ checked (not (may_join s (x ∷ []) b) gives NoRoom ∷ full gives NoRoom ∷ []) (finished 1 left (also x (put_on s (drawn_to s (epoch_of b)) x b)))
          ])
      go none left e = p
      go (some x) left e = checked_finishes _ _ (λ q. k x e (of_no _ q.0) q.1.0)

-- by how the turn finished, and back
pub finishes_told : (P : Board → Type 0) (t : Turn) → ((n : ℕ) (left : List ℕ) (c : Board) → t ≡ finished n left c → P c) → Finishes P t
finishes_told P (finished n left c) h = h n left c refl
finishes_told P (refused a) h = tt

pub finishes_at : (P : Board → Type 0) (t : Turn) (n : ℕ) (left : List ℕ) (c : Board) → Finishes P t → t ≡ finished n left c → P c
finishes_at P t n left c f e = subst (Finishes P) e f

pub finishes_map : (P Q : Board → Type 0) → ((c : Board) → P c → Q c) → (t : Turn) → Finishes P t → Finishes Q t
finishes_map P Q k (finished n left c) p = k c p
finishes_map P Q k (refused a) p = tt
