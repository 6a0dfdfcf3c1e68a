-- All of a list taken off a shard: one after another, and in one pass.
use mathlib.Core.Path.{◌≡◌, refl, ap, sym, ◌∙◌}
use mathlib.Core.List.{List, [], ◌∷◌}
use mathlib.Core.Option.{some, none-ne-some}
use mathlib.Core.Bool.{Bool, true, false, cond, not}
use Prim.Native.Nat.{ℕ, suc}
use native.Mathlib.Omega.{arith}
use lib.Dec.{eqb}
use Rattle.types.specs.Numbers.{Shard, Id}
use Rattle.types.specs.Places.{pooled}
use Rattle.types.specs.declared.Place.{Place}
use Rattle.rules.specs.Lists.{◌and◌, ◌or◌, any, has, keep, strike}
use Rattle.rules.specs.Table.{entry, Table, at, each, update}
use Rattle.rules.specs.Board.{Board, on_machines, on_committees}
use Rattle.rules.specs.Moves.{place, quit, take_off, for_all, pooled_from}
use Rattle.rules.proofs.Counts.{Alike, same, apart, alike, eqb_same, eqb_apart}
use Rattle.rules.proofs.Tables.{From, at_below, cond_const}

-- ---- passes over tables and lists

module _ {A : Type 0} where
  -- a pass that changes nothing
  each_none : (f : ℕ → A → A) → ((k : ℕ) (v : A) → f k v ≡ v) → (s : Table A) → each f s ≡ s
  unfolding each
  each_none f e [] = refl
  each_none f e (d ∷ s) = rw (e d.key d.val) (ap (λ u. d ∷ u) (each_none f e s))

  -- two passes are one
  each_each : (f g h : ℕ → A → A) → ((k : ℕ) (v : A) → f k (g k v) ≡ h k v) → (s : Table A) → each f (each g s) ≡ each h s
  unfolding each
  each_each f g h e [] = refl
  each_each f g h e (d ∷ s) = rw (e d.key d.val) (ap (λ u. entry d.key (h d.key d.val) ∷ u) (each_each f g h e s))

  -- two passes that agree on what stands in the table
  pub each_alike : (f g : ℕ → A → A) (n : ℕ) (s : Table A) → From n s → ((k : ℕ) (v : A) → at k s ≡ some v → f k v ≡ g k v) → each f s ≡ each g s
  unfolding each at From
  each_alike f g n [] r e = refl
  each_alike f g n (d ∷ s) r e = rw (e d.key d.val (rw eqb_same)) (ap (λ u. entry d.key (g d.key d.val) ∷ u) (each_alike f g (suc d.key) s r.1 (λ k v a. e k v (skip k v a (alike k d.key)))))
    where
      skip : (k : ℕ) (v : A) → at k s ≡ some v → Alike k d.key → at k (d ∷ s) ≡ some v
      skip k v a (same p q) = absurd (none-ne-some v (sym (at_below k (suc d.key) s r.1 (omega arith)) ∙ a))
      skip k v a (apart p q) = rw q a

  update_none : (k : ℕ) (f : A → A) → ((v : A) → f v ≡ v) → (s : Table A) → update k f s ≡ s
  unfolding update
  update_none k f e = each_none _ (λ j v. rw (e v) (cond_const (eqb j k) v))

  -- twice at one key
  update_update : (k : ℕ) (f g h : A → A) → ((v : A) → f (g v) ≡ h v) → (s : Table A) → update k f (update k g s) ≡ update k h s
  unfolding update
  update_update k f g h e = each_each _ _ _ (λ j v. go v (eqb j k))
    where
      go : (v : A) (c : Bool) → cond c (f (cond c (g v) v)) (cond c (g v) v) ≡ cond c (h v) v
      go v true = e v
      go v false = refl

pub keep_all : (f : ℕ → Bool) → ((y : ℕ) → f y ≡ true) → (l : List ℕ) → keep f l ≡ l
unfolding keep
keep_all f e [] = refl
keep_all f e (y ∷ l) = rw (e y) (ap (λ m. y ∷ m) (keep_all f e l))

pub keep_keep : (f g h : ℕ → Bool) → ((y : ℕ) → h y ≡ (g y and f y)) → (l : List ℕ) → keep f (keep g l) ≡ keep h l
unfolding keep ◌and◌
keep_keep f g h e [] = refl
keep_keep f g h e (y ∷ l) = go (g y) refl (keep_keep f g h e l)
  where
    go : (c : Bool) → g y ≡ c → keep f (keep g l) ≡ keep h l → keep f (keep g (y ∷ l)) ≡ keep h (y ∷ l)
    go true p ih = rw (e y, p, ih)
    go false p ih = rw (e y, p, ih)

-- ---- all of a list taken off a shard, in one pass

-- a committee after one of the list, then after the others
pub struck : (x : Id) (l members : List Id) → keep (λ y. not (has y l)) (strike x members) ≡ keep (λ y. not (has y (x ∷ l))) members
unfolding strike has any ◌or◌ ◌and◌
struck x l = keep_keep _ _ _ (λ y. go y (alike y x))
  where
    go : (y : Id) → Alike y x → not (has y (x ∷ l)) ≡ (not (eqb y x) and not (has y l))
    go y (same u v) = rw (u, eqb_same)
    go y (apart u v) = rw (v, eqb_apart x y (λ e. u (sym e)))

module _ (move : Place → Place) where
  -- places do not look at committees
  places_apart : (f : Table (List Id) → Table (List Id)) (ids : List Id) (b : Board) → for_all (λ x. place x move) ids (on_committees f b) ≡ on_committees f (for_all (λ x. place x move) ids b)
  unfolding for_all place
  places_apart f [] b = refl
  places_apart f (x ∷ l) b = places_apart f l (place x move b)

  -- all places first, and then all struck at once
  pub taken_apart : (t : Shard) (ids : List Id) (b : Board)
      → for_all (take_off t move) ids b ≡ on_committees (update t (keep (λ x. not (has x ids)))) (for_all (λ x. place x move) ids b)
  unfolding for_all take_off quit has any
  taken_apart t [] b = ap (λ (k : Table (List Id)). on_committees (λ s. k) b) (sym (update_none t _ (keep_all _ (λ y. refl)) b.committees))
  taken_apart t (x ∷ l) b =
      let c = for_all (λ y. place y move) l (place x move b) in
      taken_apart t l (take_off t move x b)
      ∙ ap (on_committees (update t (keep (λ y. not (has y l))))) (places_apart (update t (strike x)) l (place x move b))
      ∙ ap (λ (k : Table (List Id)). on_committees (λ s. k) c) (update_update t _ _ _ (struck x l) c.committees)

module _ (move : Place → Place) (again : (p : Place) → move (move p) ≡ move p) where
  -- a machine after one of the list, then after the others
  moved : (x : Id) (l : List Id) (y : Id) (p : Place) → cond (has y l) (move (cond (eqb y x) (move p) p)) (cond (eqb y x) (move p) p) ≡ cond (has y (x ∷ l)) (move p) p
  unfolding has any ◌or◌
  moved x l y p = go (alike y x) (has y l)
    where
      go : Alike y x → (c : Bool) → cond c (move (cond (eqb y x) (move p) p)) (cond (eqb y x) (move p) p) ≡ cond (eqb x y or c) (move p) p
      go (same u v) true = rw (u, eqb_same) (again p)
      go (same u v) false = rw (u, eqb_same)
      go (apart u v) c = rw (v, eqb_apart x y (λ e. u (sym e)))

  placed_all : (ids : List Id) (b : Board) → for_all (λ x. place x move) ids b ≡ on_machines (each (λ x p. cond (has x ids) (move p) p)) b
  unfolding for_all place update has any
  placed_all [] b = ap (λ (m : Table Place). on_machines (λ s. m) b) (sym (each_none _ (λ x p. refl) b.machines))
  placed_all (x ∷ l) b = placed_all l (place x move b) ∙ ap (λ (m : Table Place). on_machines (λ s. m) b) (each_each _ _ _ (moved x l) b.machines)

  pub taken_off : (t : Shard) (ids : List Id) (b : Board) → for_all (take_off t move) ids b ≡ on_committees (update t (keep (λ x. not (has x ids)))) (on_machines (each (λ x p. cond (has x ids) (move p) p)) b)
  taken_off t ids b = taken_apart move t ids b ∙ ap (on_committees (update t (keep (λ x. not (has x ids))))) (placed_all ids b)

-- who is pooled is not pooled again
pub pooled_again : (there : Place → Bool) (p : Place) → pooled_from there (pooled_from there p) ≡ pooled_from there p
pooled_again there p = go (there p) refl
  where
    go : (c : Bool) → there p ≡ c → pooled_from there (cond c (pooled p) p) ≡ cond c (pooled p) p
    go true e = cond_const (there (pooled p)) (pooled p)
    go false e = rw e
