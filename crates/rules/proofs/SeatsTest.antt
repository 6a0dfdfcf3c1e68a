-- The seat check, as it is computed, says what the counts say.
use mathlib.Core.Path.{◌≡◌, refl, ap, sym, ◌∙◌}
use mathlib.Core.Logic.{◌⊎◌, inl, inr}
use mathlib.Core.List.{List, [], ◌∷◌}
use mathlib.Core.Option.{Option, none, some, none-ne-some, some-injective}
use mathlib.Core.Bool.{Bool, true, false, not, true≢false}
use Prim.Native.Nat.{ℕ, ◌+◌, ◌≤◌}
use native.Mathlib.Omega.{arith}
use lib.Dec.{eqb}
use Rattle.types.specs.Numbers.{Shard, Id}
use Rattle.types.specs.Places.{is_seated_on, observes}
use Rattle.types.specs.declared.Place.{Place}
use Rattle.types.specs.declared.Place.TheVariants.{Pooled, Seated, Observing, Short, Other}
use Rattle.rules.specs.Lists.{◌and◌, ◌or◌, bit_of, every, any, has, distinct}
use Rattle.rules.specs.Table.{entry, at, stands, keys_of}
use Rattle.rules.specs.Board.{Rotation, Kind, split, merge, Reshape, Board}
use Rattle.rules.specs.WellFormed.{well_formed}
use Rattle.rules.specs.Moves.{says, members_of, is_on, is_kind, family_of, overlaps, committees_fit, bounds_stand}
use Rattle.rules.specs.Places.{is_scheduled_split}
use Rattle.rules.specs.SeatCheck.{members_are_there, has_cohort_seat, is_listed, machines_are_listed, cohorts_watch, parties_on, parties_fit, rotations_fit, is_in_one_half, scheduled_fit, families_apart, reshapes_stand, seat_check}
use Rattle.rules.proofs.Counts.{Alike, same, apart, alike, eqb_same, hit, hit_same, hit_apart, occ}
use Rattle.rules.proofs.Tables.{tally, known_most, occ_keys_where}
use Rattle.rules.proofs.Tests.{and_parts, and_joins, or_cases, or_left, or_right, all_parts, all_joins, of_not, not_of, eq_of, of_eq, every_parts, every_all, every_has, has_every, every_at, at_every}
use Rattle.rules.proofs.KeptLists.{distinct_once, once_distinct}
use Rattle.rules.proofs.KeptTables.{at_keys_where}
use Rattle.rules.proofs.SeatsLaws.{bit_yes, bit_no, yes_bit, bit_most, holds_bit, stands_bit, tally_le, in_of, of_in, out_of, in_none, none_in}
use Rattle.rules.proofs.SeatsFormed.{Formed, formed}
use Rattle.rules.proofs.Seats.{says_told, told_says, seats_at, watches_at, here_at, unit, told, in_c, of_split, sitting, in_split, sched_at, sched_n, half_at, total, party_of, party, kind_of, kind_at, Seats, seats_most, here_most, here_sum, seats_bit, watches_bit}
use Rattle.rules.proofs.SeatsMoves.{occ_members}
use Rattle.rules.proofs.SeatsRotations.{none_total}
use Rattle.rules.proofs.SeatsPlaces.{sched_bit}
use Rattle.rules.proofs.SeatsFrame.{no_overlap, overlap_no, fit_homes, fit_gaps, fit_edges, committees_fit_lem, bounds_stand_lem, kind_known}

-- ---- tests of one place, one reshape, one list, as numbers

abbrev is_here : Shard → Place → Bool
is_here s p = is_seated_on s p or observes s p

here_bit : (s : Shard) (p : Place) → bit_of (is_here s p) ≡ here_at s p
unfolding ◌or◌ seats_at watches_at
here_bit s p = go p (seats_bit s p) (watches_bit s p)
  where
    no_more : (c : Bool) → bit_of (c or false) ≡ bit_of c
    no_more true = refl
    no_more false = refl

    go : (p : Place) → bit_of (is_seated_on s p) ≡ seats_at s p → bit_of (observes s p) ≡ watches_at s p → bit_of (is_seated_on s p or observes s p) ≡ here_at s p
    go Pooled e f = refl
    go (Seated t r w) e f = omega (arith, no_more (eqb t.0 s), e)
    go (Observing t w) e f = omega (arith, f)
    go Short e f = refl
    go (Other m) e f = refl

sits_bit : (x : Id) (r : Reshape) → bit_of (is_kind split r and stands x r.seats) ≡ sitting x r
unfolding is_kind of_split ◌and◌
sits_bit x r = go r.kind
  where
    go : (k : Kind) → bit_of ((elim k [ split ↦ true | merge ↦ false ]) and stands x r.seats) ≡ of_split k (tally unit (at x r.seats))
    go split = stands_bit x r.seats
    go merge = refl

has_bit : (x : Id) (l : List Id) → occ x l ≤ 1 → bit_of (has x l) ≡ occ x l
has_bit x l h = go (has x l) refl
  where
    go : (c : Bool) → has x l ≡ c → bit_of c ≡ occ x l
    go true e = omega (arith, in_of x l e)
    go false e = omega (arith, out_of x l e)

occ_parties : (s : Shard) (x : Id) (l : List Rotation) → occ x (parties_on s l) ≡ party s x l
unfolding parties_on total occ
occ_parties s x [] = refl
occ_parties s x (r ∷ l) = go (alike r.shard s) (occ_parties s x l)
  where
    go : Alike r.shard s → occ x (parties_on s l) ≡ party s x l → occ x (parties_on s (r ∷ l)) ≡ party s x (r ∷ l)
    go (same p v) h = rw (v, parties_on) (rw p (simp hit_same (omega arith)))
    go (apart p v) h = rw (v, parties_on) (rw (hit_apart s r.shard (λ z. p (sym z))) (omega arith))

-- numbers of which neither is over 1 are equal if each is 1 where the other is
even : (m n : ℕ) → m ≤ 1 → n ≤ 1 → (1 ≤ m → 1 ≤ n) → (1 ≤ n → 1 ≤ m) → m ≡ n
even m n a c f g = go (alike m 0) (alike n 0)
  where
    go : Alike m 0 → Alike n 0 → m ≡ n
    go (same p v) (same q w) = p ∙ sym q
    go (same p v) (apart q w) = absurd (omega (arith, g (omega arith)))
    go (apart p v) (same q w) = absurd (omega (arith, f (omega arith)))
    go (apart p v) (apart q w) = omega arith

-- ---- members: 'an id is in s's committee exactly if its machine is seated on or observes s'

module _ (b : Board) where
  member_there : members_are_there b ≡ true → (s : Shard) (x : Id) → 1 ≤ in_c b s x → 1 ≤ told (here_at s) b x
  unfolding members_are_there tally
  member_there h s x k = go (at s b.committees) refl k
    where
      go : (o : Option (List Id)) → at s b.committees ≡ o → 1 ≤ tally (occ x) o → 1 ≤ told (here_at s) b x
      go none e m = absurd (omega arith)
      go (some l) e m = omega (arith, says_told (is_here s) (here_at s) (here_bit s) b x (every_has _ l x (every_at _ b.committees s l h e) m))

  there_member : machines_are_listed b ≡ true → (s : Shard) (x : Id) → 1 ≤ told (here_at s) b x → 1 ≤ in_c b s x
  unfolding machines_are_listed is_listed tally seats_at watches_at
  there_member h s x k = go (at x b.machines) refl k
    where
      listed_on : (t : Shard) → has x (members_of t b) ≡ true → 1 ≤ hit s t → 1 ≤ in_c b s x
      listed_on t e n = near (alike s t)
        where
          near : Alike s t → 1 ≤ in_c b s x
          near (same p v) = rw p (omega (arith, in_of x (members_of t b) e, occ_members b t x))
          near (apart p v) = absurd (omega (arith, hit_apart s t p))

      go : (o : Option Place) → at x b.machines ≡ o → 1 ≤ tally (here_at s) o → 1 ≤ in_c b s x
      go none e m = absurd (omega arith)
      go (some Pooled) e m = absurd (omega arith)
      go (some (Seated t r w)) e m = listed_on t.0 (every_at _ b.machines x (Seated t r w) h e) (omega arith)
      go (some (Observing t w)) e m = listed_on t.0 (and_parts _ _ (every_at _ b.machines x (Observing t w) h e)).0 (omega arith)
      go (some Short) e m = absurd (omega arith)
      go (some (Other n)) e m = absurd (omega arith)

  once : Formed b → (s : Shard) (x : Id) → in_c b s x ≤ 1
  unfolding tally
  once wf s x = go (at s b.committees) refl
    where
      go : (o : Option (List Id)) → at s b.committees ≡ o → tally (occ x) o ≤ 1
      go none e = omega arith
      go (some l) e = wf.once s l e x

  -- ---- watchers: 'has a seat in a split at s exactly if its machine observes s'

  sitter_watches : Formed b → cohorts_watch b ≡ true → (s : Shard) (x : Id) → 1 ≤ in_split b s x → 1 ≤ told (watches_at s) b x
  unfolding cohorts_watch tally keys_of
  sitter_watches wf h s x k = go (at s b.reshapes) refl k
    where
      go : (o : Option Reshape) → at s b.reshapes ≡ o → 1 ≤ tally (sitting x) o → 1 ≤ told (watches_at s) b x
      go none e m = absurd (omega arith)
      go (some r) e m = let q = and_parts _ _ (yes_bit (is_kind split r and stands x r.seats) (omega (arith, sits_bit x r))) in side (or_cases _ _ (every_at _ b.reshapes s r h e)) q
        where
          side : (not (is_kind split r) ≡ true) ⊎ (every (says (observes s) b) (keys_of r.seats) ≡ true) → (is_kind split r ≡ true) × (stands x r.seats ≡ true) → 1 ≤ told (watches_at s) b x
          side (inl z) q = absurd (true≢false (sym q.0 ∙ of_not _ z))
          side (inr z) q =
              omega (arith, says_told (observes s) (watches_at s) (watches_bit s) b x (every_has _ _ x z (omega (arith, occ_keys_where (λ v. true) x 0 r.seats (wf.sound s r e).rows, stands_bit x r.seats, bit_yes _ q.1))))

  watcher_sits : machines_are_listed b ≡ true → (s : Shard) (x : Id) → 1 ≤ told (watches_at s) b x → 1 ≤ in_split b s x
  unfolding machines_are_listed is_listed has_cohort_seat tally watches_at
  watcher_sits h s x k = go (at x b.machines) refl k
    where
      near : (t : Shard) → has_cohort_seat t x b ≡ true → 1 ≤ hit s t → Alike s t → 1 ≤ in_split b s x
      near t e n (same p v) = rw p (omega (arith, sym (holds_bit (λ r. is_kind split r and stands x r.seats) (sitting x) (sits_bit x) t b.reshapes) ∙ bit_yes _ e))
      near t e n (apart p v) = absurd (omega (arith, hit_apart s t p))

      go : (o : Option Place) → at x b.machines ≡ o → 1 ≤ tally (watches_at s) o → 1 ≤ in_split b s x
      go none e m = absurd (omega arith)
      go (some Pooled) e m = absurd (omega arith)
      go (some (Seated t r w)) e m = absurd (omega arith)
      go (some (Observing t w)) e m = near t.0 (and_parts _ _ (every_at _ b.machines x (Observing t w) h e)).1 m (alike s t.0)
      go (some Short) e m = absurd (omega arith)
      go (some (Other n)) e m = absurd (omega arith)

  sits_most : (s : Shard) (x : Id) → in_split b s x ≤ 1
  sits_most s x =
      omega (
        arith,
        tally_le (sitting x) unit (λ r. omega (arith, sits_bit x r, bit_most (is_kind split r and stands x r.seats))) (at s b.reshapes),
        known_most (at s b.reshapes),
      )

  eye_most : (s : Shard) (x : Id) → told (watches_at s) b x ≤ 1
  eye_most s x = omega (arith, here_sum s (at x b.machines), here_most s (at x b.machines))

  -- ---- rotations: 'rotation parties on a shard are distinct and seated there'

  abbrev shard_fits : Shard → Bool
  shard_fits s = distinct (parties_on s b.rotations) and every (says (is_seated_on s) b) (parties_on s b.rotations)

  -- a shard with a party has a rotation
  fits_there : (s : Shard) (x : Id) (l : List Rotation) → every (λ r. shard_fits r.shard) l ≡ true → 1 ≤ party s x l → shard_fits s ≡ true
  unfolding total
  fits_there s x [] h k = absurd (omega arith)
  fits_there s x (r ∷ l) h k = go (alike s r.shard) (fits_there s x l (every_parts _ _ _ h).1)
    where
      go : Alike s r.shard → (1 ≤ party s x l → shard_fits s ≡ true) → shard_fits s ≡ true
      go (same p v) ih = rw p (every_parts _ _ _ h).0
      go (apart p v) ih = ih (omega (arith, rw (hit_apart s r.shard p) at k))

  parties_fit_lem : rotations_fit b ≡ true → (s : Shard) (x : Id) → party s x b.rotations ≤ told (seats_at s) b x
  unfolding rotations_fit parties_fit
  parties_fit_lem h s x = go (alike (party s x b.rotations) 0)
    where
      go : Alike (party s x b.rotations) 0 → party s x b.rotations ≤ told (seats_at s) b x
      go (same p v) = omega arith
      go (apart p v) =
          let q = and_parts _ _ (fits_there s x b.rotations h (omega arith)) in
          omega (
            arith,
            occ_parties s x b.rotations,
            distinct_once (parties_on s b.rotations) q.0 x,
            says_told (is_seated_on s) (seats_at s) (seats_bit s) b x (every_has _ _ x q.1 (omega (arith, occ_parties s x b.rotations))),
          )

  -- ---- scheduled splits: 'has no rotations and each machine seated there is in exactly one half'

  abbrev split_fits : Shard → Reshape → Bool
  split_fits s r = not (any (is_on s) b.rotations) and every (is_in_one_half s r) b.machines

  scheduled_fit_lem : scheduled_fit b ≡ true → (s : Shard) (r : Reshape) → at s b.reshapes ≡ some r → 1 ≤ sched_at r → split_fits s r ≡ true
  unfolding scheduled_fit
  scheduled_fit_lem h s r e k = go (or_cases _ _ (every_at _ b.reshapes s r h e))
    where
      go : (not (is_scheduled_split r) ≡ true) ⊎ (split_fits s r ≡ true) → split_fits s r ≡ true
      go (inl z) = absurd (omega (arith, sched_bit r, bit_no (is_scheduled_split r) (of_not (is_scheduled_split r) z)))
      go (inr z) = z

  -- where a scheduled split stands
  scheduled_at : (s : Shard) → 1 ≤ sched_n b s → (r : Reshape) × (at s b.reshapes ≡ some r) × (1 ≤ sched_at r)
  unfolding tally
  scheduled_at s k = go (at s b.reshapes) refl k
    where
      go : (o : Option Reshape) → at s b.reshapes ≡ o → 1 ≤ tally sched_at o → (r : Reshape) × (at s b.reshapes ≡ some r) × (1 ≤ sched_at r)
      go none e n = absurd (omega arith)
      go (some r) e n = (r, e, n)

  no_parties : (s : Shard) (x : Id) (l : List Rotation) → any (is_on s) l ≡ false → party s x l ≡ 0
  unfolding hit
  no_parties s x l h = none_total (party_of s x) (is_on s) (λ r e. rw (hit_apart s r.shard (λ p. true≢false (sym (rw p (eqb_same r.shard)) ∙ e))) (omega arith)) l h

  one_half : (wf : Formed b) → (s : Shard) (r : Reshape) (x : Id) → at s b.reshapes ≡ some r → every (is_in_one_half s r) b.machines ≡ true → 1 ≤ told (seats_at s) b x → half_at x r ≡ 1
  unfolding is_in_one_half tally
  one_half wf s r x e h k = go (at x b.machines) refl k
    where
      go : (o : Option Place) → at x b.machines ≡ o → 1 ≤ tally (seats_at s) o → half_at x r ≡ 1
      go none f n = absurd (omega arith)
      go (some p) f n = side (or_cases _ _ (every_at _ b.machines x p h f))
        where
          side : (not (is_seated_on s p) ≡ true) ⊎ (eqb (bit_of (has x r.left) + bit_of (has x r.right)) 1 ≡ true) → half_at x r ≡ 1
          side (inl z) = absurd (omega (arith, seats_bit s p, bit_no (is_seated_on s p) (of_not (is_seated_on s p) z)))
          side (inr z) =
              omega (
                arith,
                eq_of (bit_of (has x r.left) + bit_of (has x r.right)) 1 z,
                has_bit x r.left ((wf.sound s r e).left x),
                has_bit x r.right ((wf.sound s r e).right x),
              )

  -- ---- reshapes: 'families don't overlap', 'the committees, gaps and boundaries'

  stands_listed : Formed b → (t : Shard) (k : Kind) → kind_at b t ≡ some k → 1 ≤ occ t (keys_of b.reshapes)
  unfolding keys_of
  stands_listed wf t k e = omega (arith, occ_keys_where (λ v. true) t 0 b.reshapes wf.targets, kind_known (at t b.reshapes) k e)

  kind_at_lem : (t : Shard) (k : Kind) → kind_at b t ≡ some k → (r : Reshape) × (at t b.reshapes ≡ some r) × (r.kind ≡ k)
  kind_at_lem t k h = go (at t b.reshapes) refl h
    where
      go : (o : Option Reshape) → at t b.reshapes ≡ o → kind_of o ≡ some k → (r : Reshape) × (at t b.reshapes ≡ some r) × (r.kind ≡ k)
      go none e n = absurd (none-ne-some k n)
      go (some r) e n = (r, e, some-injective r.kind k n)

  stands_fit : reshapes_stand b ≡ true → (t : Shard) (k : Kind) → kind_at b t ≡ some k → (committees_fit k t b ≡ true) × (bounds_stand k t b ≡ true)
  unfolding reshapes_stand
  stands_fit h t k e = let q = kind_at_lem t k e in rw q.2 at (and_parts _ _ (every_at _ b.reshapes t q.0 h q.1))

-- two of a list of families that are apart
families_apart_lem : (l : List Shard) → families_apart l ≡ true → (t u c : Shard) → 1 ≤ occ t l → 1 ≤ occ u l → 1 ≤ occ c (family_of t) → 1 ≤ occ c (family_of u) → t ≡ u
unfolding families_apart occ
families_apart_lem [] h t u c m n p q = absurd (omega arith)
families_apart_lem (v ∷ l) h t u c m n p q = go (alike t v) (alike u v) (families_apart_lem l (and_parts _ _ h).1 t u c)
  where
    none_meet : (w : Shard) → 1 ≤ occ w l → (d : Shard) → 1 ≤ occ d (family_of v) → 1 ≤ occ d (family_of w) → ⊥
    none_meet w k = no_overlap v w (none_in (overlaps v) l (of_not _ (and_parts _ _ h).0) w k)

    go : Alike t v → Alike u v → (1 ≤ occ t l → 1 ≤ occ u l → 1 ≤ occ c (family_of t) → 1 ≤ occ c (family_of u) → t ≡ u) → t ≡ u
    go (same e i) (same f j) ih = e ∙ sym f
    go (same e i) (apart f j) ih = absurd (none_meet u (omega (arith, hit_apart u v f)) c (rw e at p) q)
    go (apart e i) (same f j) ih = absurd (none_meet t (omega (arith, hit_apart t v e)) c (rw f at q) p)
    go (apart e i) (apart f j) ih = ih (omega (arith, hit_apart t v e)) (omega (arith, hit_apart u v f)) p q

apart_families : (l : List Shard) → ((t : Shard) → occ t l ≤ 1) → ((t u c : Shard) → 1 ≤ occ t l → 1 ≤ occ u l → 1 ≤ occ c (family_of t) → 1 ≤ occ c (family_of u) → t ≡ u) → families_apart l ≡ true
unfolding families_apart occ
apart_families [] o h = refl
apart_families (v ∷ l) o h =
    and_joins _ _ (not_of _ (in_none (overlaps v) l (λ w k. overlap_no v w (λ c m n. meet w k (h v w c (omega (arith, hit_same v)) (omega arith) m n)))))
    (apart_families l (λ t. omega (arith, o t)) (λ t u c m n. h t u c (omega arith) (omega arith)))
  where
    -- the first stands once
    meet : (w : Shard) → 1 ≤ occ w l → v ≡ w → ⊥
    meet w k e = omega (arith, o v, hit_same v, rw (← e) at k)

-- ---- the whole check

pub seat_clauses→ : (b : Board) → seat_check b ≡ true → Seats b
unfolding seat_check tally
seat_clauses→ b h =
    let p = all_parts _ h in
    let wf = formed b p.0 in
    let places = p.1.1.0 in
    let rotations = p.1.1.1.1.0 in
    let halves = p.1.1.1.1.1.0 in
    let fits = stands_fit b p.1.1.1.1.1.1.1.0 in
    record {
      members = λ s x. even _ _ (once b wf s x) (here_most s (at x b.machines)) (member_there b p.1.0 s x) (there_member b places s x);
      watchers = λ s x. even _ _ (sits_most b s x) (eye_most b s x) (sitter_watches b wf p.1.1.1.0 s x) (watcher_sits b places s x);
      parties = parties_fit_lem b rotations;
      calm = λ s x k. let q = scheduled_at b s k in no_parties b s x b.rotations (of_not _ (and_parts _ _ (scheduled_fit_lem b halves s q.0 q.1 q.2)).0);
      halved = λ s x k n. let q = scheduled_at b s k in ap (tally (half_at x)) q.1 ∙ one_half b wf s q.0 x q.1 (and_parts _ _ (scheduled_fit_lem b halves s q.0 q.1 q.2)).1 n;
      frame = record {
        families = λ t u c k j e f. families_apart_lem (keys_of b.reshapes) p.1.1.1.1.1.1.0 t u c (stands_listed b wf t k e) (stands_listed b wf u j f);
        homes = λ t c k e. fit_homes k t b (fits t k e).0 c;
        gaps = λ t c k e. fit_gaps k t b (fits t k e).0 c;
        edges = λ t c k e. fit_edges k t b (fits t k e).1 c;
      };
    }

-- ---- and back, clause by clause

module _ (b : Board) (wf : Formed b) (h : Seats b) where
  members_there : members_are_there b ≡ true
  unfolding members_are_there tally
  members_there = at_every _ 0 b.committees wf.shards (λ s l e. has_every _ l (λ x m. told_says (is_here s) (here_at s) (here_bit s) b x (omega (arith, rw e at (h.members s x), m))))

  place_listed : (x : Id) (p : Place) → at x b.machines ≡ some p → is_listed b x p ≡ true
  unfolding is_listed has_cohort_seat tally seats_at watches_at
  place_listed x Pooled e = refl
  place_listed x (Seated s r w) e = of_in x (members_of s.0 b) (omega (arith, occ_members b s.0 x, rw (e, hit_same s.0) at (h.members s.0 x)))
  place_listed x (Observing s w) e =
      and_joins _ _ (of_in x (members_of s.0 b) (omega (arith, occ_members b s.0 x, rw (e, hit_same s.0) at (h.members s.0 x))))
      (yes_bit _ (omega (arith, holds_bit (λ r. is_kind split r and stands x r.seats) (sitting x) (sits_bit x) s.0 b.reshapes, rw (e, hit_same s.0) at (h.watchers s.0 x))))
  place_listed x Short e = refl
  place_listed x (Other m) e = refl

  machines_listed : machines_are_listed b ≡ true
  unfolding machines_are_listed
  machines_listed = at_every _ 0 b.machines wf.ids place_listed

  cohorts_watch_lem : cohorts_watch b ≡ true
  unfolding cohorts_watch keys_of tally
  cohorts_watch_lem = at_every _ 0 b.reshapes wf.targets (λ s r e. go s r e (is_kind split r) refl)
    where
      sits : (s : Shard) (r : Reshape) (x : Id) → at s b.reshapes ≡ some r → is_kind split r ≡ true → 1 ≤ occ x (keys_of r.seats) → sitting x r ≡ 1
      sits s r x e k m =
          sym (sits_bit x r) ∙ bit_yes _ (and_joins _ _ k (yes_bit (stands x r.seats) (omega (arith, stands_bit x r.seats, occ_keys_where (λ v. true) x 0 r.seats (wf.sound s r e).rows))))

      go : (s : Shard) (r : Reshape) → at s b.reshapes ≡ some r → (c : Bool) → is_kind split r ≡ c → (not c or every (says (observes s) b) (keys_of r.seats)) ≡ true
      go s r e true k = or_right _ _ (has_every _ _ (λ x m. told_says (observes s) (watches_at s) (watches_bit s) b x (omega (arith, sits s r x e k m, rw e at (h.watchers s x)))))
      go s r e false k = or_left _ _ refl

  rotations_fit_lem : rotations_fit b ≡ true
  unfolding rotations_fit parties_fit
  rotations_fit_lem = every_all _ (λ r. fits r.shard) b.rotations
    where
      fits : (s : Shard) → (distinct (parties_on s b.rotations) and every (says (is_seated_on s) b) (parties_on s b.rotations)) ≡ true
      fits s = and_joins _ _ (once_distinct _ (λ x. omega (arith, occ_parties s x b.rotations, h.parties s x, seats_most s (at x b.machines))))
          (has_every _ _ (λ x m. told_says (is_seated_on s) (seats_at s) (seats_bit s) b x (omega (arith, occ_parties s x b.rotations, h.parties s x, m))))

  parties_no : (s : Shard) (l : List Rotation) → ((x : Id) → party s x l ≡ 0) → any (is_on s) l ≡ false
  unfolding any total ◌or◌
  parties_no s [] k = refl
  parties_no s (r ∷ l) k = go (alike r.shard s) (parties_no s l (λ x. omega (arith, k x)))
    where
      go : Alike r.shard s → any (is_on s) l ≡ false → (is_on s r or any (is_on s) l) ≡ false
      go (same p v) ih = absurd (omega (arith, simp (p, hit_same) at (k r.victim)))
      go (apart p v) ih = rw v ih

  half_fits : (s : Shard) (r : Reshape) → at s b.reshapes ≡ some r → 1 ≤ sched_at r → (x : Id) (p : Place) → at x b.machines ≡ some p → is_in_one_half s r (entry x p) ≡ true
  unfolding is_in_one_half tally
  half_fits s r e k x p f = go (is_seated_on s p) refl
    where
      go : (c : Bool) → is_seated_on s p ≡ c → (not c or eqb (bit_of (has x r.left) + bit_of (has x r.right)) 1) ≡ true
      go true z =
          let n : half_at x r ≡ 1 = rw e at (h.halved s x (rw e k) (rw f (omega (arith, seats_bit s p, bit_yes (is_seated_on s p) z)))) in
          or_right _ _ (of_eq (bit_of (has x r.left) + bit_of (has x r.right)) 1 (omega (arith, n, has_bit x r.left (omega arith), has_bit x r.right (omega arith))))
      go false z = or_left _ _ refl

  scheduled_fits : scheduled_fit b ≡ true
  unfolding scheduled_fit tally
  scheduled_fits = at_every _ 0 b.reshapes wf.targets (λ s r e. go s r e (is_scheduled_split r) refl)
    where
      go : (s : Shard) (r : Reshape) → at s b.reshapes ≡ some r → (c : Bool) → is_scheduled_split r ≡ c → (not c or (not (any (is_on s) b.rotations) and every (is_in_one_half s r) b.machines)) ≡ true
      go s r e true k =
          let n : 1 ≤ sched_at r = omega (arith, sched_bit r, bit_yes (is_scheduled_split r) k) in
          or_right _ _ (and_joins _ _ (not_of _ (parties_no s b.rotations (λ x. h.calm s x (rw e n)))) (at_every _ 0 b.machines wf.ids (half_fits s r e n)))
      go s r e false k = or_left _ _ refl

  families_fit : families_apart (keys_of b.reshapes) ≡ true
  unfolding keys_of
  families_fit =
      apart_families (keys_of b.reshapes) (λ t. omega (arith, keys t, known_most (at t b.reshapes)))
      (λ t u c m n. let p = known_kind t m in let q = known_kind u n in h.frame.families t u c p.0 q.0 p.1 q.1)
    where
      keys : (t : Shard) → occ t (keys_of b.reshapes) ≡ tally unit (at t b.reshapes)
      keys t = occ_keys_where (λ v. true) t 0 b.reshapes wf.targets

      known_kind : (t : Shard) → 1 ≤ occ t (keys_of b.reshapes) → (k : Kind) × (kind_at b t ≡ some k)
      known_kind t m = let q = at_keys_where _ t b.reshapes wf.targets m in (q.0.kind, rw q.1)

  reshapes_fit : reshapes_stand b ≡ true
  unfolding reshapes_stand
  reshapes_fit = at_every _ 0 b.reshapes wf.targets (λ t r e.
      let k : kind_at b t ≡ some r.kind = rw e in
      and_joins _ _ (committees_fit_lem r.kind t b (λ c. h.frame.homes t c r.kind k) (λ c. h.frame.gaps t c r.kind k)) (bounds_stand_lem r.kind t b (λ c. h.frame.edges t c r.kind k)))

pub seat_clauses← : (b : Board) → well_formed b ≡ true → Seats b → seat_check b ≡ true
unfolding seat_check
seat_clauses← b w h =
    let wf = formed b w in
    all_joins _ (w, (members_there b wf h, (machines_listed b wf h, (cohorts_watch_lem b wf h, (rotations_fit_lem b wf h, (scheduled_fits b wf h, (families_fit b wf h, (reshapes_fit b wf h, tt))))))))
