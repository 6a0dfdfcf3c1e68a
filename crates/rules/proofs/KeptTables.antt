-- Tables that stay good: within their limit, every entry good, keys strictly rising.
use mathlib.Core.Path.{◌≡◌, refl, ap, sym, subst, ◌∙◌}
use mathlib.Core.Logic.{◌≢◌}
use mathlib.Core.List.{[], ◌∷◌}
use mathlib.Core.Option.{Option, none, some, map, none-ne-some, some-injective}
use mathlib.Core.Bool.{Bool, true, false, cond, false≢true}
use Prim.Native.Nat.{ℕ, suc, ◌≤◌, ◌<◌, zero-le}
use native.Mathlib.Omega.{arith}
use lib.Dec.{eqb, ltb}
use lib.ListN.{length}
use Rattle.rules.specs.Lists.{bit_of}
use Rattle.rules.specs.Table.{Entry, entry, Table, at, holds_at, put, remove, each, update, keys_where}
use Rattle.rules.specs.WellFormed.{good_list, good_table}
use Rattle.rules.proofs.Counts.{Alike, same, apart, eqb_same, alike, eqb_apart, occ}
use Rattle.rules.proofs.Tables.{From, at_each, at_put, at_remove, From-each, From-remove, From-put, at_below, tally, occ_keys_where}
use Rattle.rules.proofs.KeptLists.{Part, end, kept, gone, part_length}
use Rattle.rules.proofs.Tests.{by_cases, all_parts, all_joins, le_of, of_le, every_at, at_every, from_rising, rising_table}

-- ---- lengths

module _ {A : Type 0} where
  pub length_each : (f : ℕ → A → A) (t : Table A) → length (each f t) ≡ length t
  unfolding each
  length_each f [] = refl
  length_each f (e ∷ t) = ap suc (length_each f t)

  part_remove : (k : ℕ) (t : Table A) → Part (remove k t) t
  unfolding remove
  part_remove k [] = end
  part_remove k (e ∷ t) = by_cases (λ u. Part u (e ∷ t)) (eqb k e.key) (remove k t) (e ∷ remove k t) (λ q. gone (part_remove k t)) (λ q. kept (part_remove k t))

  pub length_put : (k : ℕ) (v : A) (t : Table A) → length (put k v t) ≤ suc (length t)
  unfolding put
  length_put k v [] = omega arith
  length_put k v (e ∷ t) =
      let h = length_put k v t in
      by_cases (λ u. length u ≤ suc (suc (length t))) (ltb k e.key) (entry k v ∷ e ∷ t) (cond (eqb k e.key) (entry k v ∷ t) (e ∷ put k v t)) (λ q. omega arith)
      (λ q. by_cases (λ u. length u ≤ suc (suc (length t))) (eqb k e.key) (entry k v ∷ t) (e ∷ put k v t) (λ r. omega arith) (λ r. omega arith))

  -- an entry replaced
  pub length_replace : (k n : ℕ) (v w : A) (t : Table A) → From n t → at k t ≡ some w → length (put k v t) ≡ length t
  unfolding put at From
  length_replace k n v w [] r h = absurd (none-ne-some w h)
  length_replace k n v w (e ∷ t) r h = go (alike k e.key) (ltb k e.key) refl (length_replace k (suc e.key) v w t r.1)
    where
      go : Alike k e.key → (c : Bool) → ltb k e.key ≡ c → (at k t ≡ some w → length (put k v t) ≡ length t) → length (cond c (entry k v ∷ e ∷ t) (cond (eqb k e.key) (entry k v ∷ t) (e ∷ put k v t))) ≡ suc (length t)
      go (same p q) true u ih = absurd (let l : k < e.key = le_of _ _ u in omega arith)
      go (same p q) false u ih = rw q
      go (apart p q) true u ih = absurd (let l : k < e.key = le_of _ _ u in none-ne-some w (sym (at_below k (suc e.key) t r.1 (omega arith)) ∙ (rw q at h)))
      go (apart p q) false u ih = rw q (ap suc (ih (rw q at h)))

  pub length_keys_where : (f : A → Bool) (t : Table A) → length (keys_where f t) ≤ length t
  unfolding keys_where
  length_keys_where f [] = omega arith
  length_keys_where f (e ∷ t) =
      let h = length_keys_where f t in
      by_cases (λ l. length l ≤ suc (length t)) (f e.val) (e.key ∷ keys_where f t) (keys_where f t) (λ q. omega arith) (λ q. omega arith)

-- ---- what `good_table` says

module _ {A : Type 0} where
  pub record Rows (most : ℕ) (good : Entry A → Bool) (t : Table A) : Type 0 where
    pub room : length t ≤ most
    pub each_good : (k : ℕ) (v : A) → at k t ≡ some v → good (entry k v) ≡ true
    pub rising : From 0 t

  pub rows_of : (most : ℕ) (good : Entry A → Bool) (t : Table A) → good_table most good t ≡ true → Rows most good t
  unfolding good_list
  rows_of most good t h = let p = all_parts _ h in record { room = le_of _ _ p.0; each_good = λ k v. every_at good t k v p.1.0; rising = rising_table t p.1.1.0 }

  pub of_rows : {most : ℕ} {good : Entry A → Bool} {t : Table A} → Rows most good t → good_table most good t ≡ true
  unfolding good_list
  of_rows {good} {t} h = all_joins _ (of_le _ _ h.room, (at_every good 0 t h.rising h.each_good, (from_rising 0 t h.rising, tt)))

  pub Rows-none : (most : ℕ) (good : Entry A → Bool) → Rows most good []
  unfolding at From
  Rows-none most good = record { room = omega arith; each_good = λ k v e. absurd (none-ne-some v e); rising = tt }

  -- another limit
  pub Rows-within : {m n : ℕ} {good : Entry A → Bool} {t : Table A} → length t ≤ n → Rows m good t → Rows n good t
  Rows-within r h = record { room = r; each_good = h.each_good; rising = h.rising }

  pub Rows-put : {most : ℕ} {good : Entry A → Bool} {t : Table A} (k : ℕ) (v : A) → good (entry k v) ≡ true → Rows most good t → Rows (suc most) good (put k v t)
  Rows-put {good} {t} k v g h = record { room = omega (arith, length_put k v t, h.room); each_good = λ j w e. go j w (alike j k) (rw (at_put j k v t) at e); rising = From-put k v 0 t zero-le h.rising }
    where
      go : (j : ℕ) (w : A) → Alike j k → cond (eqb j k) (some v) (at j t) ≡ some w → good (entry j w) ≡ true
      go j w (same p q) e = rw p (subst (λ u. good (entry k u) ≡ true) (some-injective v w (rw q at e)) g)
      go j w (apart p q) e = h.each_good j w (rw q at e)

  pub Rows-remove : {most : ℕ} {good : Entry A → Bool} {t : Table A} (k : ℕ) → Rows most good t → Rows most good (remove k t)
  Rows-remove {good} {t} k h = record { room = omega (arith, part_length (part_remove k t), h.room); each_good = λ j w e. go j w (eqb j k) (rw (at_remove j k t) at e); rising = From-remove k 0 t h.rising }
    where
      go : (j : ℕ) (w : A) (c : Bool) → cond c none (at j t) ≡ some w → good (entry j w) ≡ true
      go j w true e = absurd (none-ne-some w e)
      go j w false e = h.each_good j w e

  pub Rows-each : {most : ℕ} {good : Entry A → Bool} {t : Table A} (f : ℕ → A → A)
      → ((k : ℕ) (v : A) → at k t ≡ some v → good (entry k v) ≡ true → good (entry k (f k v)) ≡ true)
      → Rows most good t → Rows most good (each f t)
  Rows-each {good} {t} f g h = record { room = rw (length_each f t) h.room; each_good = λ k v e. go k v (at k t) refl (rw (at_each f k t) at e); rising = From-each f 0 t h.rising }
    where
      go : (k : ℕ) (v : A) (o : Option A) → at k t ≡ o → map (f k) o ≡ some v → good (entry k v) ≡ true
      go k v none a e = absurd (none-ne-some v e)
      go k v (some w) a e = subst (λ u. good (entry k u) ≡ true) (some-injective (f k w) v e) (g k w a (h.each_good k w a))

  pub Rows-update : {most : ℕ} {good : Entry A → Bool} {t : Table A} (k : ℕ) (f : A → A)
      → ((v : A) → at k t ≡ some v → good (entry k v) ≡ true → good (entry k (f v)) ≡ true)
      → Rows most good t → Rows most good (update k f t)
  unfolding update
  Rows-update {good} {t} k f g h = Rows-each (λ j v. cond (eqb j k) (f v) v) (λ j v. go j v (alike j k)) h
    where
      go : (j : ℕ) (v : A) → Alike j k → at j t ≡ some v → good (entry j v) ≡ true → good (entry j (cond (eqb j k) (f v) v)) ≡ true
      go j v (same p q) e u = rw (q, p) (g v (rw p at e) (rw p at u))
      go j v (apart p q) e u = rw q u

  -- keys are distinct
  pub once_keys_where : (f : A → Bool) (x : ℕ) (t : Table A) → From 0 t → occ x (keys_where f t) ≤ 1
  unfolding tally
  once_keys_where f x t r = rw (occ_keys_where f x 0 t r) (go (at x t))
    where
      bit : (c : Bool) → bit_of c ≤ 1
      bit true = omega arith
      bit false = omega arith

      go : (o : Option A) → tally (λ v. bit_of (f v)) o ≤ 1
      go none = omega arith
      go (some v) = bit (f v)

  -- a key whose value passes stands in the table
  pub at_keys_where : (f : A → Bool) (x : ℕ) (t : Table A) → From 0 t → 1 ≤ occ x (keys_where f t) → (v : A) × (at x t ≡ some v) × (f v ≡ true)
  unfolding tally
  at_keys_where f x t r o = go (at x t) refl (rw (occ_keys_where f x 0 t r) at o)
    where
      bit : (c : Bool) → 1 ≤ bit_of c → c ≡ true
      bit true h = refl
      bit false h = absurd (omega arith)

      go : (q : Option A) → at x t ≡ q → 1 ≤ tally (λ v. bit_of (f v)) q → (v : A) × (at x t ≡ some v) × (f v ≡ true)
      go none e h = absurd (omega arith)
      go (some v) e h = (v, e, bit (f v) h)

  -- a test of what stands at a key
  pub at_holds : (k : ℕ) (f : A → Bool) (t : Table A) → holds_at k f t ≡ true → (v : A) × (at k t ≡ some v) × (f v ≡ true)
  unfolding holds_at
  at_holds k f t h = go (at k t) refl h
    where
      go : (o : Option A) → at k t ≡ o → (elim o as (λ u. Bool) [ none ↦ false | some v ↦ f v ]) ≡ true → (v : A) × (at k t ≡ some v) × (f v ≡ true)
      go none e u = absurd (false≢true u)
      go (some v) e u = (v, e, u)

  pub holds_at_lem : (k : ℕ) (f : A → Bool) (t : Table A) (v : A) → at k t ≡ some v → holds_at k f t ≡ f v
  unfolding holds_at
  holds_at_lem k f t v e = rw (e, holds_at)

  pub at_update : (k : ℕ) (f : A → A) (t : Table A) → at k (update k f t) ≡ map f (at k t)
  unfolding update
  at_update k f t = at_each (λ j v. cond (eqb j k) (f v) v) k t ∙ simp eqb_same

  pub at_other : (j k : ℕ) (f : A → A) (t : Table A) → j ≢ k → at j (update k f t) ≡ at j t
  unfolding update
  at_other j k f t n = at_each (λ i v. cond (eqb i k) (f v) v) j t ∙ rw (eqb_apart j k n) (go (at j t))
    where
      go : (o : Option A) → map (λ v. v) o ≡ o
      go none = refl
      go (some v) = refl

  -- a test reads the table at one key
  pub holds_same : (k : ℕ) (f : A → Bool) (t u : Table A) → at k t ≡ at k u → holds_at k f t ≡ holds_at k f u
  unfolding holds_at
  holds_same k f t u e = rw (e, holds_at)
