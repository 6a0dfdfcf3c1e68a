-- The three slips that document 01 rules out, as statements over every board.
use mathlib.Core.Path.{◌≡◌, refl, ap, ◌∙◌}
use mathlib.Core.Logic.{◌≢◌, ◌⊎◌, inl, inr}
use mathlib.Core.List.{List}
use mathlib.Core.Option.{some, map}
use mathlib.Core.Bool.{Bool, true, false, cond}
use Prim.Native.Nat.{ℕ, ◌≤◌}
use native.Mathlib.Omega.{arith}
use lib.Dec.{eqb}
use lib.ListN.{length, take, drop}
use Rattle.types.specs.Numbers as numbers
use Rattle.types.specs.Shards.{left_of, right_of, quorum}
use Rattle.types.specs.Places.{moved_to, short}
use Rattle.types.specs.declared.ShardId.{ShardId}
use Rattle.types.specs.declared.Epoch.{Epoch}
use Rattle.types.specs.declared.Place.{Place}
use Rattle.types.specs.declared.Place.TheVariants.{Seated}
use Rattle.rules.specs.Table.{Table, at, update}
use Rattle.rules.specs.Board.{Kind, split, Reshape, Board, epoch_of, size_of}
use Rattle.rules.specs.WellFormed.{well_formed}
use Rattle.rules.specs.Draws.{drew, shuffle}
use Rattle.rules.specs.Moves.{old_shards, new_shards, place, join, put_on, take_off, quit, give_up_seat, is_party, abort_rotations}
use Rattle.rules.specs.Turns.{Result, finished, checked, alone}
use Rattle.rules.specs.Places.{leave, leave_turn, leave_from, leave_from_seat, leave_seat}
use Rattle.rules.specs.Reshapes.{half_up}
use Rattle.rules.specs.Schedule as schedule
use Rattle.rules.specs.Cut as cut
use Rattle.rules.proofs.Counts.{Alike, same, apart, alike}
use Rattle.rules.proofs.Tables.{at_each}
use Rattle.rules.proofs.KeptTables.{at_other}
use Rattle.rules.proofs.Tests.{by_cases, le_of, and_parts}
use Rattle.rules.proofs.Batches.{drain_finishes, cut_splits_keeps}
use Rattle.rules.proofs.Turns.{Reached, begun, turned, for_all_keeps, Finishes, drawn_told, reshape_finishes, batch_keeps, finishes_told, finishes_at, finishes_map}

-- ---- 'restamping members at a cut'

-- the machine is seated, somewhere, with this ready and this stamp
pub record Carries (x : numbers.Id) (r : Bool) (w : Epoch) (machines : Table Place) : Type 0 where
  pub shard : ShardId
  pub there : at x machines ≡ some (Seated shard r w)

module _ (x : numbers.Id) (r : Bool) (w : Epoch) where
  -- a move that leaves ready and stamp of a seated machine
  record Spares (move : Place → Place) : Type 0 where
    to : ShardId → ShardId
    moved : (s : ShardId) → move (Seated s r w) ≡ Seated (to s) r w

  update_carries : (y : numbers.Id) (move : Place → Place) → Spares move → (t : Table Place) → Carries x r w t → Carries x r w (update y move t)
  unfolding update
  update_carries y move k t h = go (eqb x y) refl
    where
      here : at x (update y move t) ≡ some (cond (eqb x y) (move (Seated h.shard r w)) (Seated h.shard r w))
      here = at_each (λ j v. cond (eqb j y) (move v) v) x t ∙ ap (map (λ v. cond (eqb x y) (move v) v)) h.there

      go : (c : Bool) → eqb x y ≡ c → Carries x r w (update y move t)
      go true e = record { shard = k.to h.shard; there = here ∙ rw e (ap some (k.moved h.shard)) }
      go false e = record { shard = h.shard; there = here ∙ rw e refl }

  recast_carries : (k : Kind) (t : numbers.Shard) (height : numbers.Height) (b : Board) → Carries x r w b.machines → Carries x r w (cut.recast k t height b).machines
  unfolding cut.recast
  recast_carries k t height b h =
      for_all_keeps (λ c. Carries x r w c.machines) _ (λ s c g. g) (new_shards k t) _
      (for_all_keeps (λ c. Carries x r w c.machines) cut.end_shard (λ s c g. g) (old_shards k t) _ h)

-- a machine that is seated keeps its ready and its stamp through every cut of splits, those on a target with the others
pub cut_keeps_stamps : (x : numbers.Id) (s : ShardId) (r : Bool) (w : Epoch) (b : Board) → at x b.machines ≡ some (Seated s r w) → Carries x r w (cut.cut_splits b).board.machines
unfolding put_on join place
cut_keeps_stamps x s r w b e =
    cut_splits_keeps (λ c. Carries x r w c.machines)
    (λ c y d h. update_carries x r w y (moved_to c) (record { to = λ v. record { 0 = c }; moved = λ v. refl }) d.machines h)
    (λ c q y d h. update_carries x r w y (cut.seated_by c q (epoch_of d)) (record { to = λ v. v; moved = λ v. refl }) d.machines h)
    b (λ t o height c h. recast_carries x r w split t height c h) (record { shard = s; there = e })

-- ---- 'one quorum test for both halves'

-- each half by itself, with its child's ready seats, reaches quorum; b is the board after its rotations were aborted
pub record BothReach (t : numbers.Shard) (draws : List ℕ) (b : Board) : Type 0 where
  pub ids : List numbers.Id
  pub rest : List ℕ
  pub halved : shuffle (schedule.seated_there t b) draws ≡ drew ids rest
  pub reshape : Reshape
  pub stands : at t b.reshapes ≡ some reshape
  pub left : quorum (size_of b) ≤ schedule.ready_for (left_of t) (take (half_up (length ids)) ids) reshape b
  pub right : quorum (size_of b) ≤ schedule.ready_for (right_of t) (drop (half_up (length ids)) ids) reshape b

-- what a turn makes of the reshapes: nothing, or with both halves at quorum a change at the target
pub record Stamped (t : numbers.Shard) (draws : List ℕ) (b c : Board) : Type 0 where
  pub reach : BothReach t draws b
  pub change : Reshape → Reshape
  pub changed : c.reshapes ≡ update t change b.reshapes

-- the reshapes of b, or those with a change at the target
abbrev Changed : numbers.Shard → Board → Board → Type 0
Changed t b c = (c.reshapes ≡ b.reshapes) ⊎ ((f : Reshape → Reshape) × (c.reshapes ≡ update t f b.reshapes))

drained_reshapes : (t : numbers.Shard) (r : Reshape) (lefts rights : List numbers.Id) (draws : List ℕ) (b : Board) → Finishes (Changed t b) (schedule.drain_or_schedule t r lefts rights draws b)
unfolding schedule.scheduled
drained_reshapes t r lefts rights draws b =
    drain_finishes (Changed t b) t r lefts rights draws b (inl refl) (inr (_, refl)) (for_all_keeps (Changed t b) _ (λ s c g. g) (old_shards r.kind t) _ (inr (_, refl)))

-- aborting rotations changes no reshape
abort_reshapes : (t : numbers.Shard) (b : Board) → (abort_rotations t b).reshapes ≡ b.reshapes
unfolding abort_rotations take_off quit place
abort_reshapes t b = for_all_keeps (λ d. d.reshapes ≡ b.reshapes) _ (λ x d g. g) _ b refl

stamped_turn : (t : numbers.Shard) (draws : List ℕ) (b : Board) → Finishes (λ c. (c.reshapes ≡ b.reshapes) ⊎ Stamped t draws b c) (schedule.halve t draws b)
unfolding schedule.halve schedule.pass_gate schedule.split_gate
stamped_turn t draws b = drawn_told Told (shuffle (schedule.seated_there t b) draws) _ (λ ids rest e.
    reshape_finishes Told t _ rest b (inl refl) (λ r f.
    by_cases (Finishes Told) (schedule.split_gate t (lefts ids) (rights ids) r b) _ _
    (λ g. finishes_map (Changed t b) Told (passes ids rest e r f g) (schedule.drain_or_schedule t r (lefts ids) (rights ids) rest b) (drained_reshapes t r (lefts ids) (rights ids) rest b))
    (λ g. inl refl)))
  where
    Told : Board → Type 0
    Told c = (c.reshapes ≡ b.reshapes) ⊎ Stamped t draws b c

    lefts : List numbers.Id → List numbers.Id
    lefts ids = take (half_up (length ids)) ids

    rights : List numbers.Id → List numbers.Id
    rights ids = drop (half_up (length ids)) ids

    passes : (ids : List numbers.Id) (rest : List ℕ) → shuffle (schedule.seated_there t b) draws ≡ drew ids rest → (r : Reshape) → at t b.reshapes ≡ some r
        → schedule.split_gate t (lefts ids) (rights ids) r b ≡ true → (c : Board) → Changed t b c → Told c
    passes ids rest e r f g c (inl u) = inl u
    passes ids rest e r f g c (inr (change, changed)) = inr (record {
      reach = record {
        ids = ids;
        rest = rest;
        halved = e;
        reshape = r;
        stands = f;
        left = le_of _ _ (and_parts _ _ g).0;
        right = le_of _ _ (and_parts _ _ g).1;
      };
      change = change;
      changed = changed;
    })

-- the split's turn, on a board that earlier turns of the call came to, finds both halves at quorum
pub record Gated (t : numbers.Shard) (b : Board) : Type 0 where
  pub board : Board
  pub draws : List ℕ
  pub reached : Reached schedule.schedule_split b board
  pub reach : BothReach t draws (abort_rotations t board)

-- a split is stamped or scheduled only where each half by itself, with its child's ready seats, reaches quorum
pub stamped_at_quorum : (draws : List ℕ) (b : Board) (t : numbers.Shard) → (at t (schedule.schedule_splits draws b).board.reshapes ≡ at t b.reshapes) ⊎ Gated t b
unfolding schedule.schedule_splits schedule.schedule_split
stamped_at_quorum draws b t = (batch_keeps Held schedule.schedule_split (schedule.unscheduled split b) draws b (λ w s o ds d h. finishes_told Held _ (keeps s ds d h)) (begun, inl refl)).1
  where
    Held : Board → Type 0
    Held c = Reached schedule.schedule_split b c × ((at t c.reshapes ≡ at t b.reshapes) ⊎ Gated t b)

    turn : (s : numbers.Shard) (ds : List ℕ) (d c : Board) → Reached schedule.schedule_split b d → Alike t s → (c.reshapes ≡ (abort_rotations s d).reshapes) ⊎ Stamped s ds (abort_rotations s d) c
        → at t d.reshapes ≡ at t b.reshapes → (at t c.reshapes ≡ at t b.reshapes) ⊎ Gated t b
    turn s ds d c g a (inl e) h = inl (ap (at t) (e ∙ abort_reshapes s d) ∙ h)
    turn s ds d c g (same p q) (inr m) h = inr (record { board = d; draws = ds; reached = g; reach = rw p m.reach })
    turn s ds d c g (apart p q) (inr m) h = inl (ap (at t) m.changed ∙ at_other t s m.change _ p ∙ ap (at t) (abort_reshapes s d) ∙ h)

    keeps : (s : numbers.Shard) (ds : List ℕ) (d : Board) → Held d → (n : ℕ) (left : List ℕ) (c : Board) → schedule.schedule_split s ds d ≡ finished n left c → Held c
    keeps s ds d (g, inr h) n left c e = (turned s ds left n g e, inr h)
    keeps s ds d (g, inl h) n left c e = (turned s ds left n g e, turn s ds d c g (alike t s) (finishes_at _ (schedule.schedule_split s ds d) n left c (stamped_turn s ds (abort_rotations s d)) e) h)

-- ---- 'filling a place after a rotation party leaves'

-- no draw is taken, none is handled, and nobody else's place changes
pub record Unfilled (x : numbers.Id) (b : Board) (r : Result) : Type 0 where
  pub used : r.used ≡ 0
  pub handled : r.handled ≡ 0
  pub others : (y : numbers.Id) → y ≢ x → at y r.board.machines ≡ at y b.machines

pub party_leaves : (x : numbers.Id) (draws : List ℕ) (b : Board) (s : ShardId) (r : Bool) (w : Epoch)
    → at x b.machines ≡ some (Seated s r w) → is_party s.0 x b ≡ true → Unfilled x b (leave x draws b)
unfolding leave alone checked leave_turn leave_from leave_from_seat leave_seat give_up_seat take_off quit place
party_leaves x draws b s r w e p = go (well_formed b) refl
  where
    go : (c : Bool) → well_formed b ≡ c → Unfilled x b (leave x draws b)
    go true f = rw (f, e, p, leave_turn) (record { used = omega arith; handled = refl; others = λ y n. at_other y x short b.machines n })
    go false f = rw f (record { used = refl; handled = refl; others = λ y n. refl })
