-- A table: entries with a key. On a well-formed board the keys rise strictly.
use Rattle.std.specs.Prelude.{ℕ, List, [], ◌∷◌, Bool, true, false, cond, eqb, ltb}
use Rattle.std.proofs.Math.Option.{Option, none, some}
use Rattle.rules.specs.Lists.{count}

pub record Entry (A : Type 0) : Type 0 where
  pub key : ℕ
  pub val : A

abbrev pub entry : {A : Type 0} → ℕ → A → Entry A
entry k v = record { key = k; val = v }

abbrev pub Table : Type 0 → Type 0
Table A = List (Entry A)

module _ {A : Type 0} where
  -- something is there
  unfoldable pub is_some : Option A → Bool
  is_some none = false
  is_some (some a) = true

module _ {A : Type 0} where
  -- what stands at a key
  unfoldable pub at : ℕ → Table A → Option A
  at k [] = none
  at k (e ∷ t) = cond (eqb k e.key) (some e.val) (at k t)

  unfoldable pub stands : ℕ → Table A → Bool
  stands k t = is_some (at k t)

  -- what stands at a key passes a test
  unfoldable pub holds_at : ℕ → (A → Bool) → Table A → Bool
  holds_at k f t = elim (at k t) [ none ↦ false | some v ↦ f v ]

  -- an entry made or replaced, in order
  unfoldable pub put : ℕ → A → Table A → Table A
  put k v [] = entry k v ∷ []
  put k v (e ∷ t) = cond (ltb k e.key) (entry k v ∷ e ∷ t) (cond (eqb k e.key) (entry k v ∷ t) (e ∷ put k v t))

  -- an entry removed
  unfoldable pub remove : ℕ → Table A → Table A
  remove k [] = []
  remove k (e ∷ t) = cond (eqb k e.key) (remove k t) (e ∷ remove k t)

  -- every value changed by a rule
  unfoldable pub each : (ℕ → A → A) → Table A → Table A
  each f [] = []
  each f (e ∷ t) = entry e.key (f e.key e.val) ∷ each f t

  -- the value at one key changed, where there is one
  unfoldable pub update : ℕ → (A → A) → Table A → Table A
  update k f = each (λ j v. cond (eqb j k) (f v) v)

  -- the keys whose values pass a test, rising
  unfoldable pub keys_where : (A → Bool) → Table A → List ℕ
  keys_where f [] = []
  keys_where f (e ∷ t) = cond (f e.val) (e.key ∷ keys_where f t) (keys_where f t)

  unfoldable pub keys_of : Table A → List ℕ
  keys_of = keys_where (λ v. true)

  -- how many values pass a test
  unfoldable pub count_where : (A → Bool) → Table A → ℕ
  count_where f t = count (λ e. f e.val) t
