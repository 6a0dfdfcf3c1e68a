-- C12 as a law: on a board that passes the seat check, a cohort drawn and lapsed gives the board before.
use mathlib.Core.Path.{◌≡◌, refl, ap, sym, subst, ◌∙◌}
use mathlib.Core.Logic.{◌≢◌, ◌⊎◌, inl, inr}
use mathlib.Core.List.{List, [], ◌∷◌, ◌++◌, append_assoc, append-nil}
use mathlib.Core.Option.{Option, none, some, map, none-ne-some, some-injective}
use mathlib.Core.Bool.{Bool, true, false, cond, not, true≢false, false≢true}
use Prim.Native.Nat.{ℕ, suc, ◌≤◌, ◌<◌}
use native.Mathlib.Omega.{arith}
use lib.Dec.{leb}
use lib.ListN.{take}
use Rattle.types.specs.Numbers.{Shard, Id}
use Rattle.types.specs.Shards.{left_of, right_of}
use Rattle.types.specs.Places.{is_pooled, is_seated_on, observes, pooled, set_to_watch}
use Rattle.types.specs.declared.Place.{Place}
use Rattle.types.specs.declared.Place.TheVariants.{Pooled, Seated, Observing, Short, Other}
use Rattle.rules.specs.Lists.{◌and◌, ◌or◌, is_empty, every, any, has, keep}
use Rattle.rules.specs.Table.{Entry, entry, Table, at, put, update, holds_at, stands, is_some, keys_where, keys_of}
use Rattle.rules.specs.Board.{Seat, Kind, split, merge, Reshape, Board, on_settings, on_machines, on_committees, on_bounds, on_rotations, on_reshapes, epoch_of, size_of}
use Rattle.rules.specs.WellFormed.{well_formed}
use Rattle.rules.specs.Moves.{says, members_of, place, join, put_on, with_seats, new_seat, watch, for_all, reshape_at, is_kind, pool_of, committees_fit}
use Rattle.rules.specs.Reshapes.{half_up, awaits_cohort, watch_all, cohort_turn, draw_cohort, cohort_of}
use Rattle.rules.specs.Calls as calls
use Rattle.rules.specs.SeatCheck.{seat_check, members_are_there, reshapes_stand, machines_are_listed, is_listed, has_cohort_seat}
use Rattle.rules.specs.Series.{next, after, is_done, drawn_after, drawn_in, sent_back}
use Rattle.rules.proofs.Counts.{Alike, same, apart, alike, eqb_same, eqb_apart, occ, occ_append, occ_take}
use Rattle.rules.proofs.Tables.{From, at_below, at_each, at_put, tally, occ_keys_where}
use Rattle.rules.proofs.Tests.{and_parts, all_parts, of_not, not_of, every_has, has_every, le_of, of_le, lt_of_no, eq_of, has_occ, every_at, every_append, every_parts, every_join, every_none}
use Rattle.rules.proofs.KeptLists.{occ_drop}
use Rattle.rules.proofs.KeptTables.{at_keys_where, at_update, at_other, at_holds, holds_at_lem, holds_same}
use Rattle.rules.proofs.KeptBoard.{good_of_lem, fit_at}
use Rattle.rules.proofs.KeptMoves.{members_at_lem}
use Rattle.rules.proofs.Kept.{well_formed_kept}
use Rattle.rules.proofs.SeatsLaws.{in_of}
use Rattle.rules.proofs.SeatsKept.{seat_check_formed, seat_check_kept}
use Rattle.rules.proofs.LapseCohorts.{split_has, cohort_observes, no_cohort_drawn, drawn_split}
use Rattle.rules.proofs.Lapse.{lapse_sends_back}
use Rattle.rules.proofs.Turns.{Mixed, shuffle_draws, checked_finishes, drawn_finishes, step_keeps}

ordered : (i j : ℕ) → (i < j) ⊎ ((j < i) ⊎ (i ≡ j))
ordered i j = go (leb (suc i) j) refl (leb (suc j) i) refl
  where
    go : (c : Bool) → leb (suc i) j ≡ c → (d : Bool) → leb (suc j) i ≡ d → (i < j) ⊎ ((j < i) ⊎ (i ≡ j))
    go true p d q = inl (le_of _ _ p)
    go false p true q = inr (inl (le_of _ _ q))
    go false p false q = inr (inr (omega (arith, lt_of_no (suc i) j p, lt_of_no (suc j) i q)))

-- ---- two tables with rising keys are one where the same stands at every key

module _ {A : Type 0} where
  head_at : (e : Entry A) (t : Table A) → at e.key (e ∷ t) ≡ some e.val
  unfolding at
  head_at e t = rw eqb_same

  -- a key below the first is at neither end
  first_key : (m n : ℕ) (d e : Entry A) (t u : Table A) → From m (d ∷ t) → From n (e ∷ u) → ((k : ℕ) → at k (d ∷ t) ≡ at k (e ∷ u)) → d.key < e.key → ⊥
  unfolding From
  first_key m n d e t u r s h l = none-ne-some d.val (sym (at_below d.key e.key (e ∷ u) ((omega arith), s.1) l) ∙ sym (h d.key) ∙ head_at d t)

  pub table_same : (m n : ℕ) (t u : Table A) → From m t → From n u → ((k : ℕ) → at k t ≡ at k u) → t ≡ u
  unfolding From at
  table_same m n [] [] r s h = refl
  table_same m n [] (e ∷ u) r s h = absurd (none-ne-some e.val (h e.key ∙ head_at e u))
  table_same m n (d ∷ t) [] r s h = absurd (none-ne-some d.val (sym (h d.key) ∙ head_at d t))
  table_same m n (d ∷ t) (e ∷ u) r s h =
      let k : d.key ≡ e.key = same_key_lem (ordered d.key e.key) in
      let v : d.val ≡ e.val = some-injective _ _ (sym (head_at d t) ∙ h d.key ∙ ap (λ i. at i (e ∷ u)) k ∙ head_at e u) in
      let l : t ≡ u = table_same (suc d.key) (suc e.key) t u r.1 s.1 (λ j. tails k j (alike j d.key)) in
      ap (λ (f : Entry A). f ∷ t) (ap (λ i. entry i d.val) k ∙ ap (entry e.key) v) ∙ ap (λ l. e ∷ l) l
    where
      same_key_lem : (d.key < e.key) ⊎ ((e.key < d.key) ⊎ (d.key ≡ e.key)) → d.key ≡ e.key
      same_key_lem (inl l) = absurd (first_key m n d e t u r s h l)
      same_key_lem (inr (inl l)) = absurd (first_key n m e d u t s r (λ k. sym (h k)) l)
      same_key_lem (inr (inr k)) = k

      -- past the first key the tails alone tell
      tails : d.key ≡ e.key → (j : ℕ) → Alike j d.key → at j t ≡ at j u
      tails k j (same p q) = at_below j (suc d.key) t r.1 (omega arith) ∙ sym (at_below j (suc e.key) u s.1 (omega arith))
      tails k j (apart p q) = rw (q, eqb_apart j e.key (λ z. p (z ∙ sym k))) at (h j)

pooled_place : (p : Place) → is_pooled p ≡ true → p ≡ Pooled
pooled_place Pooled h = refl
pooled_place (Seated s r w) h = absurd (false≢true h)
pooled_place (Observing s w) h = absurd (false≢true h)
pooled_place Short h = absurd (false≢true h)
pooled_place (Other m) h = absurd (false≢true h)

-- ---- what a draw has changed, as far as it has come

-- places of drawn machines, the target's members and its seats; nothing else. `members` and `reshape` stood at the target
record Drew (t : Shard) (b : Board) (members : List Id) (reshape : Reshape) (c : Board) : Type 0 where
  settings : c.settings ≡ b.settings
  bounds : c.bounds ≡ b.bounds
  rotations : c.rotations ≡ b.rotations
  places : (x : Id) → (at x c.machines ≡ at x b.machines) ⊎ ((at x b.machines ≡ some Pooled) × (says (observes t) c x ≡ true))
  joined : List Id
  pooled_before : every (says is_pooled b) joined ≡ true
  here : at t c.committees ≡ some (members ++ joined)
  elsewhere : (s : Shard) → s ≢ t → at s c.committees ≡ at s b.committees
  now : Reshape
  now_here : at t c.reshapes ≡ some now
  now_same : with_seats (λ q. []) now ≡ with_seats (λ q. []) reshape
  others : (s : Shard) → s ≢ t → at s c.reshapes ≡ at s b.reshapes

module _ (t : Shard) (b : Board) (members : List Id) (reshape : Reshape) where
  was_pooled : (x : Id) → says is_pooled b x ≡ true → at x b.machines ≡ some Pooled
  was_pooled x p = let w = at_holds x is_pooled b.machines p in w.1 ∙ ap some (pooled_place w.0 w.2)

  -- whoever was pooled is known still
  known : (x : Id) (c : Board) → Drew t b members reshape c → says is_pooled b x ≡ true → (p : Place) × (at x c.machines ≡ some p)
  known x c h p = go (h.places x)
    where
      go : (at x c.machines ≡ at x b.machines) ⊎ ((at x b.machines ≡ some Pooled) × (says (observes t) c x ≡ true)) → (q : Place) × (at x c.machines ≡ some q)
      go (inl e) = (Pooled, e ∙ was_pooled x p)
      go (inr (e, o)) = let w = at_holds x (observes t) c.machines o in (w.0, w.1)

  watch_drew : (child : Shard) (x : Id) → says is_pooled b x ≡ true → (c : Board) → Drew t b members reshape c → Drew t b members reshape (watch t child x c)
  unfolding watch put_on join place members_of
  watch_drew child x p c h = record {
    settings = h.settings;
    bounds = h.bounds;
    rotations = h.rotations;
    places = λ y. go y (alike y x) (h.places y);
    joined = h.joined ++ (x ∷ []);
    pooled_before = every_append _ h.joined (x ∷ []) h.pooled_before (every_join _ _ _ p (every_none _));
    here = at_put t t _ c.committees ∙ rw (eqb_same t, members_at_lem t c _ h.here) (ap some (append_assoc members h.joined (x ∷ [])));
    elsewhere = λ s n. at_put s t _ c.committees ∙ rw (eqb_apart s t n) (h.elsewhere s n);
    now = with_seats (put x (new_seat child)) h.now;
    now_here = at_update t _ c.reshapes ∙ ap (map (with_seats (put x (new_seat child)))) h.now_here;
    now_same = h.now_same;
    others = λ s n. at_other s t _ c.reshapes n ∙ h.others s n;
  }
    where
      after : Table Place
      after = update x (set_to_watch t (epoch_of c)) c.machines

      watches : (y : Id) → y ≡ x → holds_at y (observes t) after ≡ true
      watches y e =
          let k = known x c h p in
          let f : at x after ≡ some (set_to_watch t (epoch_of c) k.0) = at_update x _ c.machines ∙ ap (map (set_to_watch t (epoch_of c))) k.1 in
          rw e (holds_at_lem x (observes t) after _ f ∙ eqb_same t)

      go : (y : Id) → Alike y x → (at y c.machines ≡ at y b.machines) ⊎ ((at y b.machines ≡ some Pooled) × (says (observes t) c y ≡ true))
          → (at y after ≡ at y b.machines) ⊎ ((at y b.machines ≡ some Pooled) × (holds_at y (observes t) after ≡ true))
      go y (same e q) w = inr (rw e (was_pooled x p), watches y e)
      go y (apart n q) (inl e) = inl (at_other y x _ c.machines n ∙ e)
      go y (apart n q) (inr (e, o)) = inr (e, holds_same y (observes t) after c.machines (at_other y x _ c.machines n) ∙ o)

  all_drew : (child : Shard) (l : List Id) → every (says is_pooled b) l ≡ true → (c : Board) → Drew t b members reshape c → Drew t b members reshape (for_all (watch t child) l c)
  unfolding for_all
  all_drew child [] p c h = h
  all_drew child (x ∷ l) p c h = all_drew child l (every_parts _ _ _ p).1 (watch t child x c) (watch_drew child x (every_parts _ _ _ p).0 c h)

-- a pooled machine is on no shard
nowhere : (t : Shard) (x : Id) (b : Board) → at x b.machines ≡ some Pooled → says (λ p. is_seated_on t p or observes t p) b x ≡ false
unfolding ◌or◌
nowhere t x b e = holds_at_lem x _ b.machines Pooled e

-- ---- who observes is in the cohort

some_one : (n : ℕ) (q : Option Seat) → is_some q ≡ true → n ≡ tally (λ v. 1) q → 1 ≤ n
unfolding is_some tally
some_one n none i f = absurd (false≢true i)
some_one n (some v) i f = omega arith

cohort_has : (t : Shard) (x : Id) (b : Board) → seat_check b ≡ true → says (observes t) b x ≡ true → has x (cohort_of t b) ≡ true
unfolding seat_check machines_are_listed is_listed has_cohort_seat cohort_of keys_of stands
cohort_has t x b ok o = let w = at_holds x (observes t) b.machines o in go w.0 w.2 (every_at _ b.machines x w.0 (all_parts _ ok).1.1.0 w.1)
  where
    seated : (r : Reshape) → at t b.reshapes ≡ some r → stands x r.seats ≡ true → has x (cohort_of t b) ≡ true
    seated r e s =
        let rise : From 0 r.seats = (fit_at (good_of_lem b (seat_check_formed b ok)) t r e).seats.rising in
        rw (e, cohort_of) (has_occ x _ ∙ of_le 1 _ (some_one _ (at x r.seats) s (occ_keys_where (λ v. true) x 0 r.seats rise)))

    go : (p : Place) → observes t p ≡ true → is_listed b x p ≡ true → has x (cohort_of t b) ≡ true
    go Pooled h l = absurd (false≢true h)
    go (Seated s r w) h l = absurd (false≢true h)
    go (Observing s w) h l =
        let f = at_holds t _ b.reshapes (rw (eq_of s.0 t h) at (and_parts _ _ l).1) in
        seated f.0 f.1 (and_parts _ _ f.2).1
    go Short h l = absurd (false≢true h)
    go (Other m) h l = absurd (false≢true h)

-- ---- the board before

-- all but some that are struck
keep_front : (f : ℕ → Bool) (l m : List ℕ) → every f l ≡ true → every (λ x. not (f x)) m ≡ true → keep f (l ++ m) ≡ l
unfolding keep
keep_front f [] [] p q = refl
keep_front f [] (x ∷ m) p q = rw (of_not (f x) (every_parts _ _ _ q).0) (keep_front f [] m p (every_parts _ _ _ q).1)
keep_front f (x ∷ l) m p q = rw (every_parts _ _ _ p).0 (ap (λ k. x ∷ k) (keep_front f l m (every_parts _ _ _ p).1 q))

-- a board by its parts
same_board : (a b : Board) → a.settings ≡ b.settings → a.machines ≡ b.machines → a.committees ≡ b.committees → a.bounds ≡ b.bounds → a.rotations ≡ b.rotations → a.reshapes ≡ b.reshapes → a ≡ b
same_board a b s m c d r q =
    ap (λ v. on_settings (λ w. v) a) s
    ∙ ap (λ v. on_machines (λ w. v) (on_settings (λ w. b.settings) a)) m
    ∙ ap (λ v. on_committees (λ w. v) (on_machines (λ w. b.machines) (on_settings (λ w. b.settings) a))) c
    ∙ ap (λ v. on_bounds (λ w. v) (on_committees (λ w. b.committees) (on_machines (λ w. b.machines) (on_settings (λ w. b.settings) a)))) d
    ∙ ap (λ v. on_rotations (λ w. v) (on_reshapes (λ w. a.reshapes) (on_bounds (λ w. b.bounds) (on_committees (λ w. b.committees) (on_machines (λ w. b.machines) (on_settings (λ w. b.settings) a)))))) r
    ∙ ap (λ v. on_reshapes (λ w. v) b) q

module _ (t : Shard) (b c : Board) (members : List Id) (reshape : Reshape) (here : at t b.committees ≡ some members) (stood : at t b.reshapes ≡ some reshape) (empty : reshape.seats ≡ [])
    (ok : seat_check b ≡ true) (fine : seat_check c ≡ true) (split_there : reshape_at split t c ≡ true) (drew : Drew t b members reshape c) where
  abbrev ids : List Id
  ids = cohort_of t c

  -- nobody observed the target before
  none_before : (x : Id) → says (observes t) b x ≡ false
  unfolding has any keys_of keys_where cohort_of
  none_before x = go (says (observes t) b x) refl
    where
      nobody : has x (cohort_of t b) ≡ false
      nobody = rw (stood, cohort_of) (ap (λ l. has x (keys_of l)) empty)

      go : (k : Bool) → says (observes t) b x ≡ k → says (observes t) b x ≡ false
      go true e = absurd (false≢true (sym nobody ∙ cohort_has t x b ok e))
      go false e = e

  -- who is in the cohort now is who observes now
  in_cohort : (x : Id) → has x ids ≡ says (observes t) c x
  in_cohort x = go (has x ids) refl (says (observes t) c x) refl
    where
      go : (k : Bool) → has x ids ≡ k → (m : Bool) → says (observes t) c x ≡ m → has x ids ≡ says (observes t) c x
      go true e true f = e ∙ sym f
      go false e false f = e ∙ sym f
      go true e false f = absurd (true≢false (sym (every_has _ ids x (cohort_observes t ids c fine (split_has t c split_there)) (in_of x ids e)) ∙ f))
      go false e true f = absurd (false≢true (sym e ∙ cohort_has t x c fine f))

  -- who stands where it stood is not in it
  stayed : (x : Id) → at x c.machines ≡ at x b.machines → has x ids ≡ false
  stayed x e = in_cohort x ∙ holds_same x (observes t) c.machines b.machines e ∙ none_before x

  came : (x : Id) → says (observes t) c x ≡ true → has x ids ≡ true
  came x o = in_cohort x ∙ o

  machines_back : (x : Id) → at x (sent_back t ids c).machines ≡ at x b.machines
  unfolding sent_back
  machines_back x = at_each (λ y p. cond (has y ids) (pooled p) p) x c.machines ∙ go (drew.places x)
    where
      unmoved : has x ids ≡ false → (o : Option Place) → map (λ p. cond (has x ids) (pooled p) p) o ≡ o
      unmoved f none = refl
      unmoved f (some p) = rw f

      go : (at x c.machines ≡ at x b.machines) ⊎ ((at x b.machines ≡ some Pooled) × (says (observes t) c x ≡ true))
          → map (λ p. cond (has x ids) (pooled p) p) (at x c.machines) ≡ at x b.machines
      go (inl e) = unmoved (stayed x e) (at x c.machines) ∙ e
      go (inr (e, o)) = let w = at_holds x (observes t) c.machines o in ap (map (λ p. cond (has x ids) (pooled p) p)) w.1 ∙ rw (came x o) (sym e)

  here_before : (x : Id) → 1 ≤ occ x members → has x ids ≡ false
  unfolding seat_check members_are_there
  here_before x o = go (drew.places x)
    where
      there : says (λ p. is_seated_on t p or observes t p) b x ≡ true
      there = every_has _ members x (every_at _ b.committees t members (all_parts _ ok).1.0 here) o

      go : (at x c.machines ≡ at x b.machines) ⊎ ((at x b.machines ≡ some Pooled) × (says (observes t) c x ≡ true)) → has x ids ≡ false
      go (inl e) = stayed x e
      go (inr (e, w)) = absurd (false≢true (sym (nowhere t x b e) ∙ there))

  here_since : (x : Id) → 1 ≤ occ x drew.joined → has x ids ≡ true
  unfolding seat_check members_are_there
  here_since x o = go (drew.places x)
    where
      there : says (λ p. is_seated_on t p or observes t p) c x ≡ true
      there =
          let n = occ_append x members drew.joined in
          every_has _ (members ++ drew.joined) x (every_at _ c.committees t _ (all_parts _ fine).1.0 drew.here) (omega arith)

      go : (at x c.machines ≡ at x b.machines) ⊎ ((at x b.machines ≡ some Pooled) × (says (observes t) c x ≡ true)) → has x ids ≡ true
      go (inl e) = absurd (false≢true (sym (nowhere t x c (e ∙ was_pooled t b members reshape x (every_has _ drew.joined x drew.pooled_before o))) ∙ there))
      go (inr (e, w)) = came x w

  committees_back : (s : Shard) → at s (sent_back t ids c).committees ≡ at s b.committees
  unfolding sent_back
  committees_back s = go (alike s t)
    where
      go : Alike s t → at s (update t (keep (λ x. not (has x ids))) c.committees) ≡ at s b.committees
      go (same e q) = rw e (at_update t _ c.committees ∙ ap (map (keep (λ x. not (has x ids)))) drew.here
          ∙ ap some (keep_front (λ x. not (has x ids)) members drew.joined (has_every _ members (λ x o. not_of _ (here_before x o))) (has_every _ drew.joined (λ x o. rw (here_since x o) refl)))
          ∙ sym here)
      go (apart n q) = at_other s t _ c.committees n ∙ drew.elsewhere s n

  reshapes_back : (s : Shard) → at s (sent_back t ids c).reshapes ≡ at s b.reshapes
  unfolding sent_back
  reshapes_back s = go (alike s t)
    where
      go : Alike s t → at s (update t (with_seats (λ q. [])) c.reshapes) ≡ at s b.reshapes
      go (same e q) = rw e (at_update t _ c.reshapes ∙ ap (map (with_seats (λ q. []))) drew.now_here ∙ ap some (drew.now_same ∙ ap (λ l. with_seats (λ q. l) reshape) (sym empty)) ∙ sym stood)
      go (apart n q) = at_other s t _ c.reshapes n ∙ drew.others s n

-- ---- C12

-- a split that awaits its cohort has no seat
no_seat_lem : (l : Table Seat) → is_empty l ≡ true → l ≡ []
unfolding is_empty
no_seat_lem [] e = refl
no_seat_lem (x ∷ l) e = absurd (false≢true e)

kind_of_lem : (r : Reshape) → is_kind split r ≡ true → r.kind ≡ split
unfolding is_kind
kind_of_lem r h = go r.kind refl
  where
    go : (k : Kind) → r.kind ≡ k → r.kind ≡ split
    go split e = e
    go merge e = absurd (false≢true (sym (ap (λ k. elim k as (λ x. Bool) [ split ↦ true | merge ↦ false ]) e) ∙ h))

some_of : (o : Option (List Id)) → is_some o ≡ true → (l : List Id) × (o ≡ some l)
unfolding is_some
some_of none h = absurd (false≢true h)
some_of (some l) h = (l, refl)

-- a split's target has a committee
split_home : (t : Shard) (b : Board) (r : Reshape) → seat_check b ≡ true → at t b.reshapes ≡ some r → r.kind ≡ split → is_some (at t b.committees) ≡ true
unfolding seat_check reshapes_stand committees_fit stands
split_home t b r ok e k = (every_parts _ _ _ (and_parts _ _ (rw k at (and_parts _ _ (every_at _ b.reshapes t r (all_parts _ ok).1.1.1.1.1.1.1.0 e)).0)).0).0

module _ (t : Shard) (draws : List ℕ) (b : Board) (ok : seat_check b ≡ true) (done : is_done (calls.draw_cohort t draws) b ≡ true) where
  formed : well_formed b ≡ true
  formed = seat_check_formed b ok

  awaits : holds_at t awaits_cohort b.reshapes ≡ true
  awaits = go (holds_at t awaits_cohort b.reshapes) refl
    where
      go : (k : Bool) → holds_at t awaits_cohort b.reshapes ≡ k → holds_at t awaits_cohort b.reshapes ≡ true
      go true e = e
      go false e = absurd (true≢false (sym done ∙ no_cohort_drawn t draws b formed e))

  drew_it : (members : List Id) (reshape : Reshape) → at t b.committees ≡ some members → at t b.reshapes ≡ some reshape → Drew t b members reshape (draw_cohort t draws b).board
  unfolding draw_cohort cohort_turn watch_all pool_of
  drew_it members reshape here stood = step_keeps (Drew t b members reshape) draws b _ _ start (λ p.
      drawn_finishes (Drew t b members reshape) (Mixed (pool_of b)) _ _ (shuffle_draws (pool_of b) draws) (λ l left m.
      checked_finishes (Drew t b members reshape) _ _ (λ q.
      all_drew t b members reshape (right_of t) _ (has_every _ _ (λ x o. of_pool l m x (omega (arith, occ_drop x (half_up (size_of b)) (take (size_of b) l), occ_take x (size_of b) l)))) _
      (all_drew t b members reshape (left_of t) _ (has_every _ _ (λ x o. of_pool l m x (omega (arith, occ_take x (half_up (size_of b)) (take (size_of b) l), occ_take x (size_of b) l)))) b start))))
    where
      start : Drew t b members reshape b
      start = record {
        settings = refl;
        bounds = refl;
        rotations = refl;
        places = λ x. inl refl;
        joined = [];
        pooled_before = every_none _;
        here = here ∙ ap some (sym (append-nil members));
        elsewhere = λ s n. refl;
        now = reshape;
        now_here = stood;
        now_same = refl;
        others = λ s n. refl;
      }

      of_pool : (l : List Id) → Mixed (pool_of b) l → (x : Id) → 1 ≤ occ x l → says is_pooled b x ≡ true
      of_pool l m x o =
          let w = at_keys_where is_pooled x b.machines (good_of_lem b formed).machines.rising (omega (arith, m.ids x)) in
          holds_at_lem x is_pooled b.machines w.0 w.1 ∙ w.2

  abbrev drawn : Board
  drawn = next (calls.draw_cohort t draws) b

  fine : seat_check drawn ≡ true
  fine = seat_check_kept (calls.draw_cohort t draws) b ok

  lapsed : (calls.answer_to (calls.lapse t) drawn).board ≡ sent_back t (cohort_of t drawn) drawn
  unfolding drawn_in drawn_after after ◌and◌
  lapsed = ap (λ r. r.board) (lapse_sends_back t (calls.draw_cohort t draws ∷ []) b (cohort_of t drawn) ok (rw (eqb_same t, done)))

  -- a cohort drawn and lapsed gives the board before
  pub drawn_and_lapsed : (calls.answer_to (calls.lapse t) drawn).board ≡ b
  unfolding calls.answer_to awaits_cohort sent_back
  drawn_and_lapsed = let w = at_holds t awaits_cohort b.reshapes awaits in back w.0 w.1 w.2
    where
      committee : (r : Reshape) → at t b.reshapes ≡ some r → is_kind split r ≡ true → is_some (at t b.committees) ≡ true
      committee r e k = split_home t b r ok e (kind_of_lem r k)

      back : (r : Reshape) → at t b.reshapes ≡ some r → awaits_cohort r ≡ true → (calls.answer_to (calls.lapse t) drawn).board ≡ b
      back r e a =
          let w = some_of (at t b.committees) (committee r e (and_parts _ _ a).0) in
          let d : Drew t b w.0 r drawn = drew_it w.0 r w.1 e in
          let empty = no_seat_lem r.seats (and_parts _ _ (and_parts _ _ a).1).1 in
          let split_there = drawn_split t draws b formed done in
          let g = good_of_lem b formed in
          let h = good_of_lem _ (subst (λ v. well_formed v ≡ true) lapsed (well_formed_kept (calls.lapse t) drawn (seat_check_formed drawn fine))) in
          lapsed ∙ same_board _ b d.settings
          (table_same 0 0 _ _ h.machines.rising g.machines.rising (machines_back t b drawn w.0 r w.1 e empty ok fine split_there d))
          (table_same 0 0 _ _ h.committees.rising g.committees.rising (committees_back t b drawn w.0 r w.1 e empty ok fine split_there d))
          d.bounds
          d.rotations
          (table_same 0 0 _ _ h.reshapes.rising g.reshapes.rising (reshapes_back t b drawn w.0 r w.1 e empty ok fine split_there d))
