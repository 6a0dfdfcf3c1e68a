-- The steps on places and committees keep a board good.
use mathlib.Core.Path.{◌≡◌, refl, sym, ◌∙◌}
use mathlib.Core.List.{List, [], ◌∷◌}
use mathlib.Core.Option.{Option, none, some}
use mathlib.Core.Bool.{true, false, cond, true≢false}
use Prim.Native.Nat.{ℕ, ◌+◌, ◌≤◌}
use native.Mathlib.Omega.{arith}
use lib.Dec.{eqb, leb}
use lib.ListN.{length}
use Rattle.types.specs.Numbers.{Shard, Id}
use Rattle.types.specs.Shards.{parent_of}
use Rattle.types.specs.Places.{is_pooled, is_seated_on, short, drawn_to, made_ready}
use Rattle.types.specs.declared.Place.{Place}
use Rattle.types.specs.declared.Place.TheVariants.{Pooled, Seated, Observing, Short, Other}
use Rattle.types.specs.declared.Answer.TheVariants.{NoRecord}
use Rattle.rules.specs.Table.{entry, at, each}
use Rattle.rules.specs.Board.{Settings, Rotation, split, merge, Board, most_members, most_rotations, last_epoch, on_rotations, epoch_of}
use Rattle.rules.specs.WellFormed.{is_shard, is_word, good_settings, good_place, good_machine, good_rotation}
use Rattle.rules.specs.Moves.{pool_of, place, join, put_on, may_join, has_party, is_party, open_rotation, drop_first}
use Rattle.rules.specs.Turns.{refused}
use Rattle.rules.specs.Places.{next_epoch, tick, is_carved, leave_seat, leave_from_seat, leave_from, leave_turn, leave, may_rotate, victim_fit, new_rotation, rotate_turn, rotate, has_seats_free, is_rotation, retire, close, resolved, resolve, is_due, time_out}
use Rattle.rules.proofs.Counts.{Alike, same, apart, alike, occ, occ_nil}
use Rattle.rules.proofs.Tests.{of_no, by_cases, and_parts, and_joins, all_parts, all_joins, of_not, of_le, lt_of_no}
use Rattle.rules.proofs.KeptLists.{Ids, Ids-none, Ids-join}
use Rattle.rules.proofs.KeptRotations.{Rota-drop_first, Rota-open}
use Rattle.rules.proofs.KeptTables.{Rows-each, at_keys_where, at_holds}
use Rattle.rules.proofs.KeptBoard.{limits, Good, on_settings_lem, on_machines_lem, on_rotations_lem, stamp_now}
use Rattle.rules.proofs.KeptMoves.{keeps_short, keeps_made_ready, keeps_drawn_to, good_place_lem, machine_at, joins_of, good_put_on, good_take_off, good_release, good_give_up_seat}
use Rattle.rules.proofs.Turns.{for_all_keeps, Finishes, checked_finishes, step_keeps, pool_draw_finishes}

-- ---- TICK

-- below the last epoch, the next is in its range
next_epoch_lem : (s : Settings) → eqb s.epoch last_epoch ≡ false → good_settings s ≡ true → good_settings (next_epoch s) ≡ true
unfolding good_settings
next_epoch_lem s n h = all_joins _ (go (alike s.epoch last_epoch), (all_parts _ h).1)
  where
    go : Alike s.epoch last_epoch → leb (s.epoch + 1) last_epoch ≡ true
    go (same p q) = absurd (true≢false (sym q ∙ n))
    go (apart p q) = of_le (s.epoch + 1) last_epoch (omega (arith, (limits s h).epoch))

pub good_tick : (b : Board) → Good b → Good (tick b).board
unfolding tick
good_tick b h = step_keeps Good _ b _ _ h (λ p. on_settings_lem h next_epoch (next_epoch_lem b.settings p.1.0 h.settings))

-- ---- the draw from the pool

pub pool_word : {b : Board} → Good b → (x : Id) → 1 ≤ occ x (pool_of b) → is_word x ≡ true
unfolding pool_of
pool_word {b} h x o = let f = at_keys_where is_pooled x b.machines h.machines.rising o in (machine_at h x f.0 f.1).0

pub good_drawn : {b : Board} → Good b → (s : Shard) → is_shard s ≡ true → (x : Id) → 1 ≤ occ x (pool_of b) → may_join s (x ∷ []) b ≡ true → Good (put_on s (drawn_to s (epoch_of b)) x b)
good_drawn {b} h s ok x o m =
    let i : Ids most_members (x ∷ []) = Ids-join x (Ids-none most_members) (pool_word h x o) (occ_nil x) (omega arith) in
    good_put_on s (drawn_to s (epoch_of b)) (keeps_drawn_to s ok (epoch_of b) (stamp_now h)) x (joins_of h s ok i m) h

-- ---- LEAVE

good_leave_seat : {b : Board} (s : Shard) (x : Id) → Good b → Good (leave_seat s x b)
unfolding leave_seat
good_leave_seat s x h = good_give_up_seat merge (parent_of s) x (good_take_off s short keeps_short x h)

leave_seat_finishes : (s : Shard) (x : Id) (draws : List ℕ) (b : Board) → is_shard s ≡ true → Good b → Finishes Good (leave_from_seat s x draws b)
unfolding leave_from_seat
leave_seat_finishes s x draws b ok h =
    let g = good_leave_seat s x h in
    by_cases (Finishes Good) (is_party s x b) _ _ (λ e. on_rotations_lem g (drop_first (has_party s x)) (Rota-drop_first (has_party s x) g.rotations))
    (λ e. by_cases (Finishes Good) (is_carved s b) _ _ (λ f. g)
    (λ f. pool_draw_finishes Good s false (λ y c. c) draws (leave_seat s x b) g (λ y o m q. good_drawn g s ok y o m)))

leave_finishes : (p : Place) (x : Id) (draws : List ℕ) (b : Board) → good_place p ≡ true → Good b → Finishes Good (leave_from p x draws b)
unfolding leave_from good_place
leave_finishes Pooled x draws b g h = good_place_lem x short keeps_short h
leave_finishes (Seated s r w) x draws b g h = leave_seat_finishes s.0 x draws b (and_parts _ _ g).0 h
leave_finishes (Observing s w) x draws b g h = good_give_up_seat split s.0 x (good_take_off s.0 short keeps_short x h)
leave_finishes Short x draws b g h = good_place_lem x short keeps_short h
leave_finishes (Other m) x draws b g h = good_place_lem x short keeps_short h

pub good_leave : (x : Id) (draws : List ℕ) (b : Board) → Good b → Good (leave x draws b).board
unfolding leave leave_turn
good_leave x draws b h = step_keeps Good _ b _ _ h (λ p. go (at x b.machines) refl)
  where
    go : (o : Option Place) → at x b.machines ≡ o → Finishes Good (elim o [ none ↦ refused NoRecord | some p ↦ leave_from p x draws b ])
    go none e = tt
    go (some p) e = leave_finishes p x draws b (machine_at h x p e).1 h

-- ---- ROTATE

rotate_finishes : (s : Shard) (v : Id) (draws : List ℕ) (b : Board) → is_shard s ≡ true → Good b → Finishes Good (rotate_turn s v draws b)
unfolding rotate_turn victim_fit is_party good_rotation put_on join place
rotate_finishes s v draws b ok h = checked_finishes Good _ _ (λ p. pool_draw_finishes Good s _ _ draws b h (opened (of_no _ p.0)))
  where
    opened : victim_fit s v b ≡ true → (x : Id) → 1 ≤ occ x (pool_of b) → may_join s (x ∷ []) b ≡ true → leb most_rotations (length b.rotations) ≡ false
        → Good (on_rotations (open_rotation (new_rotation s v x b)) (put_on s (drawn_to s (epoch_of b)) x b))
    opened u x o m f =
        let g = good_drawn h s ok x o m in
        let w = at_holds v (is_seated_on s) b.machines (and_parts _ _ u).0 in
        let r = new_rotation s v x b in
        on_rotations_lem g (open_rotation r) (Rota-open r
        (all_joins _ (ok, ((machine_at h v w.0 w.1).0, (pool_word h x o, (stamp_now h, tt)))))
        (of_not _ (and_parts _ _ u).1)
        (lt_of_no most_rotations (length b.rotations) f)
        h.rotations)

pub good_rotate : (s : Shard) (v : Id) (draws : List ℕ) (b : Board) → Good b → Good (rotate s v draws b).board
unfolding rotate
good_rotate s v draws b h =
    step_keeps Good _ b _ _ h (λ p.
    by_cases (Finishes Good) (may_rotate s b) _ _ (λ e. rotate_finishes s v draws b (of_no _ p.1.0) h) (λ e. h))

-- ---- RESOLVE

good_retire : (s : Shard) (v : Id) (b : Board) → Good b → Good (retire s v b)
unfolding retire
good_retire s v b h = by_cases Good (has_seats_free s b) b _ (λ e. h) (λ e. good_release s (is_seated_on s) v h)

pub good_close : (r : Rotation) (b : Board) → Good b → Good (close r b)
unfolding close
good_close r b h = good_retire r.shard r.victim _ (on_rotations_lem h (drop_first (is_rotation r.shard r.victim)) (Rota-drop_first _ h.rotations))

pub good_resolve : (b : Board) → Good b → Good (resolve b).board
unfolding resolve
good_resolve b h = step_keeps Good _ b _ _ h (λ p. for_all_keeps Good close good_close (resolved b) b h)

-- ---- TIME OUT

pub good_time_out : (b : Board) → Good b → Good (time_out b).board
unfolding time_out good_machine
good_time_out b h = step_keeps Good _ b _ _ h (λ p. on_machines_lem h (each rule) (Rows-each rule due h.machines))
  where
    rule : Id → Place → Place
    rule x p = cond (is_due b p) (made_ready p) p

    due : (x : Id) (p : Place) → at x b.machines ≡ some p → good_machine (entry x p) ≡ true → good_machine (entry x (rule x p)) ≡ true
    due x p e g = and_joins _ _ (and_parts _ _ g).0 (by_cases (λ q. good_place q ≡ true) (is_due b p) (made_ready p) p (λ u. keeps_made_ready p (and_parts _ _ g).1) (λ u. (and_parts _ _ g).1))
