-- One machine comes to a shard: what is asked before, and its move, as the code has it at the machine's row.
use Prim.Native.Nat.{ℕ, ◌<◌}
use mathlib.Core.Path.{◌≡◌, refl, ap, sym, ◌∙◌}
use mathlib.Core.Logic.{◌≢◌}
use mathlib.Core.List.{List, [], ◌∷◌}
use mathlib.Core.Option.{Option, none, some}
use mathlib.Core.Bool.{true, false}
use native.Mathlib.Omega.{arith}
use borrow.Author.Tests.{lt-leb, lt-ltb}
use lib.Dec.{ltb}
use lib.ListN.{length, get_or, set}
use Rattle.types.specs.Numbers.{Shard, Id}
use Rattle.types.specs.Places.{is_seated_on}
use Rattle.types.specs.declared.Place.{Place}
use Rattle.types.specs.declared.Place.TheVariants.{Pooled, Seated, Observing, Short, Other}
use Rattle.rules.specs.Lists.{◌and◌, ◌or◌, every, has}
use Rattle.rules.specs.Table.{entry, Table, is_some, at, stands}
use Rattle.rules.specs.Board.{Reshape, Board, most_machines, most_committees, on_machines, on_reshapes}
use Rattle.rules.specs.WellFormed.{well_formed}
use Rattle.rules.specs.Moves.{members_of, place, join, put_on, may_join, height_of}
use Rattle.rules.proofs.Counts.{eqb_apart, hit_same, occ, occ_single}
use Rattle.rules.proofs.Tests.{and_joins, or_left, or_right, of_le, eq_of, has_occ, not_of}
use Rattle.rules.proofs.KeptBoard.{Fit, Good, good_of_lem, fit_at}
use Rattle.rules.proofs.KeptMoves.{Joins}
use Rattle.tables.proofs.Keys.{at_is}
use Rattle.board.specs.Held.{Holds, no_machine, no_boundary, no_reshape}
use Rattle.board.proofs.Fitting.{held_as}
use Rattle.board.proofs.Keyed.{machines_rise, bounds_rise, reshapes_rise}
use Rattle.board.proofs.Moves.{place_at}
use Rattle.recasting.proofs.Sizes.{put_length, lack_none}
use Rattle.arriving.specs.Coming.{reshape_in, MayCome}

-- what 11 asks, of one that is known to have room
pub joins_may : {b : Board} {c : Shard} {x : Id} → Good b → Joins c (x ∷ []) b → may_join c (x ∷ []) b ≡ true
unfolding may_join every ◌and◌ stands is_some
joins_may {b} {c} {x} h j = and_joins _ _ (stood (at c b.committees) refl) (and_joins _ _ (and_joins _ _ (not_of _ absent) refl) (of_le _ _ j.few))
  where
    absent : has x (members_of c b) ≡ false
    absent = has_occ x (members_of c b) ∙ lt-leb 1 (occ x (members_of c b)) (omega (arith, j.once x, occ_single x x, hit_same x))

    stood : (o : Option (List Id)) → at c b.committees ≡ o → (stands c b.committees or ltb (length b.committees) most_committees) ≡ true
    stood none q = or_right _ _ (lt-ltb (length b.committees) most_committees (omega (arith, j.opens [], put_length c b.committees h.committees.rising [], lack_none c b.committees q)))
    stood (some l) q = or_left _ _ (ap is_some q)

-- ---- one that is not seated there yet

pub not_both : (c t : Shard) (p : Place) → c ≢ t → is_seated_on t p ≡ true → is_seated_on c p ≡ false
not_both c t Pooled n h = refl
not_both c t (Seated s r w) n h = eqb_apart s.0 c (λ e. n (sym e ∙ eq_of s.0 t h))
not_both c t (Observing s w) n h = refl
not_both c t Short n h = refl
not_both c t (Other m) n h = refl

pub comes_at : (b : Board) → well_formed b ≡ true → (c : Shard) (x : Id) (row : ℕ) → row < length b.machines → (get_or b.machines row no_machine).key ≡ x → MayCome c x b
    → is_seated_on c (get_or b.machines row no_machine).val ≡ false → may_join c ((get_or b.machines row no_machine).key ∷ []) b ≡ true
comes_at b ok c x row l e m n = rw e (m _ (at_is b.machines (machines_rise b ok) x row no_machine l e) n)

-- the place that the code computed is the move's
pub put_as : (b : Board) → well_formed b ≡ true → (s : Shard) (x : Id) (move : Place → Place) (p : Place) (i : ℕ) → i < length b.machines → (get_or b.machines i no_machine).key ≡ x
    → p ≡ move (get_or b.machines i no_machine).val → (after : List ℕ) → Holds after (put_on s (λ q. p) (get_or b.machines i no_machine).key b) → Holds after (put_on s move x b)
unfolding put_on
put_as b ok s x move p i l e v after h =
    let r = machines_rise b ok in
    let same : place x (λ q. p) b ≡ place x move b =
    place_at b x (λ q. p) i r l e ∙ ap (λ (n : Place). on_machines (λ t. set t i (entry (get_or t i no_machine).key n)) b) v ∙ sym (place_at b x move i r l e) in
    held_as after _ _ (ap (join s x) same) (rw e at h)

pub put_held : (after : List ℕ) (b : Board) (s x id : ℕ) (p : Place) → id ≡ x → Holds after (join s id (place x (λ q. p) b)) → Holds after (put_on s (λ q. p) x b)
unfolding put_on
put_held after b s x id p e h = rw e at h

-- what is known of the reshape at a row
pub row_fit : (b : Board) → well_formed b ≡ true → (i : ℕ) → i < length b.reshapes → Fit (get_or b.reshapes i no_reshape).key (reshape_in i b)
row_fit b ok i l = fit_at (good_of_lem b ok) _ _ (at_is b.reshapes (reshapes_rise b ok) _ i no_reshape l refl)

-- the reshapes have no part in it
pub put_elsewhere : (s : Shard) (f : Table Reshape → Table Reshape) (move : Place → Place) (x : Id) (b : Board) → put_on s move x (on_reshapes f b) ≡ on_reshapes f (put_on s move x b)
unfolding put_on join place members_of
put_elsewhere s f move x b = refl

pub height_is : (b : Board) → well_formed b ≡ true → (s : Shard) (v : ℕ) → v < length b.bounds → (get_or b.bounds v no_boundary).key ≡ s
    → height_of s b ≡ (get_or b.bounds v no_boundary).val.height
unfolding height_of
height_is b ok s v m k = rw (at_is b.bounds (bounds_rise b ok) s v no_boundary m k, height_of)
