-- THE HINGE: with rising keys, what the definitions do at a key is what the words do at its row.
use Prim.Native.Nat.{ℕ, zero, suc, ◌+◌, ◌≤◌, ◌<◌}
use mathlib.Core.Path.{◌≡◌, refl, ap, sym, ◌∙◌}
use mathlib.Core.List.{List, [], ◌∷◌}
use Rattle.std.specs.Prelude.{Some, None}
use mathlib.Core.Option.{none, some, none-ne-some}
use mathlib.Core.Bool.{Bool, true, false, cond}
use native.Mathlib.Omega.{arith}
use native.Mathlib.Numerals.{add-one}
use borrow.Author.Tests.{ltb-true, ltb-false, lt-ltb, le-ltb, le-leb, lt-leb, leb-true, leb-false, eq-eqb, ne_eqb}
use lib.Dec.{eqb, leb, ltb}
use lib.ListN.{length, get_or, set, drop, drop_of_length-le}
use lib.Seq.{drop-cons}
use Rattle.rules.specs.Table.{Entry, entry, Table, at, put, remove, each, update}
use Rattle.rules.specs.WellFormed.{rising, rotation_before}
use Rattle.rules.specs.Board.{Rotation}
use Rattle.rules.specs.Moves.{open_rotation, drop_first}
use Rattle.rules.proofs.Counts.{Alike, same, apart, alike}
use Rattle.rules.proofs.Tables.{From, at_below}
use Rattle.rules.proofs.Tests.{and_parts, eq_of, rising_table}
use Rattle.tables.specs.Rows.{insert_at, remove_at, Rising, first_where, place_of, find_row, key_of}

-- ---- the first row that passes a test

module _ {A : Type 0} (f : A → Bool) where
  pub first_most : (l : List A) → first_where f l ≤ length l
  unfolding first_where
  first_most [] = omega arith
  first_most (x ∷ l) = go (f x) (first_most l)
    where
      go : (c : Bool) → first_where f l ≤ length l → cond c 0 (suc (first_where f l)) ≤ suc (length l)
      go true p = omega arith
      go false p = omega arith

  pub first_passes : (l : List A) (d : A) → first_where f l < length l → f (get_or l (first_where f l) d) ≡ true
  unfolding first_where
  first_passes [] d h = absurd (omega arith)
  first_passes (x ∷ l) d h = go (f x) refl h (first_passes l d)
    where
      go : (c : Bool) → f x ≡ c → cond c 0 (suc (first_where f l)) < suc (length l) → (first_where f l < length l → f (get_or l (first_where f l) d) ≡ true)
          → f (get_or (x ∷ l) (cond c 0 (suc (first_where f l))) d) ≡ true
      go true e m p = e
      go false e m p = p (omega arith)

  first_before : (l : List A) (i : ℕ) (d : A) → i < length l → f (get_or l i d) ≡ true → first_where f l ≤ i
  unfolding first_where
  first_before [] i d h e = absurd (omega arith)
  first_before (x ∷ l) zero d h e = rw e (omega arith)
  first_before (x ∷ l) (suc i) d h e = go (f x) (first_before l i d (omega arith) e)
    where
      go : (c : Bool) → first_where f l ≤ i → cond c 0 (suc (first_where f l)) ≤ suc i
      go true m = omega arith
      go false m = omega arith

  -- the search from row i on, as a loop goes: a row that passes, one that does not, and the end
  pub first_here : (l : List A) (i : ℕ) (d : A) → i < length l → f (get_or l i d) ≡ true → first_where f (drop i l) ≡ 0
  unfolding first_where
  first_here l i d h e = ap (first_where f) (drop-cons l i d h) ∙ rw e

  pub first_later : (l : List A) (i : ℕ) (d : A) → i < length l → f (get_or l i d) ≡ false → first_where f (drop i l) ≡ suc (first_where f (drop (i + 1) l))
  unfolding first_where
  first_later l i d h e = rw (add-one i) (ap (first_where f) (drop-cons l i d h) ∙ rw e)

-- a loop's search: found, passed, and at the end

module _ {A : Type 0} (f : A → Bool) (l : List A) (i n : ℕ) (e : i + first_where f (drop i l) ≡ n) where
  pub search_found : (d : A) → i < length l → f (get_or l i d) ≡ true → i ≡ n
  search_found d h t = omega (arith, first_here f l i d h t)

  pub search_passed : (d : A) → i < length l → f (get_or l i d) ≡ false → i + 1 + first_where f (drop (i + 1) l) ≡ n
  search_passed d h t = omega (arith, first_later f l i d h t)

  pub search_ended : length l ≤ i → i ≡ n
  unfolding first_where
  search_ended h = let z : first_where f (drop i l) ≡ 0 = ap (first_where f) (drop_of_length-le l {i = i} h) in omega arith

-- ---- a key's place among rising keys

module _ {A : Type 0} (key : A → ℕ) where
  rises : (x : A) (l : List A) (i : ℕ) (d : A) → Rising key (x ∷ l) → i < length l → key x < key (get_or l i d)
  unfolding rising
  rises x [] i d r h = absurd (omega arith)
  rises x (y ∷ l) zero d r h = ltb-true (key x) (key y) (and_parts _ _ r).0
  rises x (y ∷ l) (suc i) d r h =
      let p = and_parts _ _ r in
      let m = rises y l i d p.1 (omega arith) in
      let n = ltb-true (key x) (key y) p.0 in
      omega arith

  rest : (x : A) (l : List A) → Rising key (x ∷ l) → Rising key l
  unfolding rising
  rest x [] r = refl
  rest x (y ∷ l) r = (and_parts _ _ r).1

  -- a search by halves: what one key tells of the place
  pub place_above : (l : List A) (i : ℕ) (d : A) (k : ℕ) → Rising key l → i < length l → key (get_or l i d) < k → i < place_of key k l
  unfolding first_where
  place_above [] i d k r h m = absurd (omega arith)
  place_above (x ∷ l) zero d k r h m = rw (lt-leb k (key x) m) (omega arith)
  place_above (x ∷ l) (suc i) d k r h m =
      let n = rises x l i d r (omega arith) in
      let p = place_above l i d k (rest x l r) (omega arith) m in
      rw (lt-leb k (key x) (omega arith)) (omega arith)

  place_least : (l : List A) (i : ℕ) (d : A) (k : ℕ) → Rising key l → i < length l → key (get_or l i d) ≡ k → i ≤ place_of key k l
  unfolding first_where
  place_least l zero d k r h e = omega arith
  place_least [] (suc i) d k r h e = absurd (omega arith)
  place_least (x ∷ l) (suc i) d k r h e =
      let n = rises x l i d r (omega arith) in
      let p = place_least l i d k (rest x l r) (omega arith) e in
      rw (lt-leb k (key x) (omega arith)) (omega arith)

  pub place_under : (l : List A) (i : ℕ) (d : A) (k : ℕ) → i < length l → k ≤ key (get_or l i d) → place_of key k l ≤ i
  unfolding first_where
  place_under [] i d k h m = absurd (omega arith)
  place_under (x ∷ l) zero d k h m = rw (le-leb k (key x) m) (omega arith)
  place_under (x ∷ l) (suc i) d k h m = go (leb k (key x)) (place_under l i d k (omega arith) m)
    where
      go : (c : Bool) → place_of key k l ≤ i → cond c 0 (suc (place_of key k l)) ≤ suc i
      go true p = omega arith
      go false p = omega arith

  pub keys_rise : (l : List A) (i j : ℕ) (d : A) → Rising key l → i < j → j < length l → key (get_or l i d) < key (get_or l j d)
  keys_rise l i j d r h m = go (ltb (key (get_or l i d)) (key (get_or l j d))) refl
    where
      go : (c : Bool) → ltb (key (get_or l i d)) (key (get_or l j d)) ≡ c → key (get_or l i d) < key (get_or l j d)
      go true e = ltb-true _ _ e
      go false e =
          let u = place_under l i d (key (get_or l j d)) (omega arith) (ltb-false _ _ e) in
          let v = place_least l j d (key (get_or l j d)) r m refl in
          absurd (omega arith)

  -- a search for the row of a key: on which side of row m it is
  module _ (l : List A) (m i : ℕ) (d : A) (k : ℕ) (r : Rising key l) (lm : m < length l) (li : i < length l) (e : key (get_or l i d) ≡ k) where
    pub row_above : key (get_or l m d) < k → m < i
    row_above n = let a = place_above l m d k r lm n in let u = place_under l i d k li (omega arith) in omega arith

    pub row_under : k < key (get_or l m d) → i < m
    row_under n = let a = place_above l i d (key (get_or l m d)) r li (omega arith) in let u = place_under l m d (key (get_or l m d)) lm (omega arith) in omega arith

  -- a key that has a row: no other has it
  pub finds_here : (l : List A) (i : ℕ) (d : A) (k : ℕ) → Rising key l → i < length l → key (get_or l i d) ≡ k → find_row key k l ≡ Some i
  finds_here l i d k r h e =
      let f : A → Bool = λ x. eqb (key x) k in
      let m = first_before f l i d h (eq-eqb (key (get_or l i d)) k e) in
      let p : key (get_or l (first_where f l) d) ≡ k = eq_of _ _ (first_passes f l d (omega arith)) in
      let u = place_least l i d k r h e in
      let v = place_under l (first_where f l) d k (omega arith) (omega arith) in
      let q : first_where f l ≡ i = omega arith in
      rw (lt-ltb (first_where f l) (length l) (omega arith)) (ap Some q)

  pub finds_nowhere : (l : List A) (d : A) (k : ℕ) → ((i : ℕ) → i < length l → key (get_or l i d) ≡ k → ⊥) → find_row key k l ≡ None
  finds_nowhere l d k n = go (ltb (first_where f l) (length l)) refl
    where
      f : A → Bool
      f x = eqb (key x) k

      go : (c : Bool) → ltb (first_where f l) (length l) ≡ c → cond c (Some (first_where f l)) None ≡ None
      go true e = let h = ltb-true (first_where f l) (length l) e in absurd (n (first_where f l) h (eq_of _ _ (first_passes f l d h)))
      go false e = refl

-- ---- a key that stands at row i

-- a test that says no, and an equation that says otherwise
skip : {P : Type 0} (a b : ℕ) → (a ≡ b → ⊥) → (eqb a b ≡ false → eqb b a ≡ false → P) → P
skip a b n g = g (ne_eqb a b n) (ne_eqb b a (λ e. n (sym e)))

module _ {A : Type 0} where
  key_above : (n : ℕ) (t : Table A) (i : ℕ) (d : Entry A) → From n t → i < length t → n ≤ (get_or t i d).key
  unfolding From
  key_above n [] i d r h = absurd (omega arith)
  key_above n (e ∷ t) zero d r h = r.0
  key_above n (e ∷ t) (suc i) d r h = let m = key_above (suc e.key) t i d r.1 (omega arith) in omega (arith, r.0)

  -- nothing at the key: it changes nothing
  pub update_none : (k : ℕ) (f : A → A) (t : Table A) → at k t ≡ none → update k f t ≡ t
  unfolding at each update
  update_none k f [] q = refl
  update_none k f (e ∷ t) q = go (alike k e.key) (update_none k f t)
    where
      go : Alike k e.key → (at k t ≡ none → update k f t ≡ t) → update k f (e ∷ t) ≡ e ∷ t
      go (same p u) ih = absurd (none-ne-some e.val (sym (rw u at q)))
      go (apart p u) ih = skip k e.key p (λ x y. rw y (ap (λ (l : Table A). e ∷ l) (ih (rw u at q))))

  pub remove_none : (k : ℕ) (t : Table A) → at k t ≡ none → remove k t ≡ t
  unfolding at remove
  remove_none k [] q = refl
  remove_none k (e ∷ t) q = go (alike k e.key) (remove_none k t)
    where
      go : Alike k e.key → (at k t ≡ none → remove k t ≡ t) → remove k (e ∷ t) ≡ e ∷ t
      go (same p u) ih = absurd (none-ne-some e.val (sym (rw u at q)))
      go (apart p u) ih = rw u (ap (λ (l : Table A). e ∷ l) (ih (rw u at q)))

  module _ (k : ℕ) (d : Entry A) where
    at_row : (n : ℕ) (t : Table A) (i : ℕ) → From n t → i < length t → (get_or t i d).key ≡ k → at k t ≡ some (get_or t i d).val
    unfolding From at
    at_row n [] i r h e = absurd (omega arith)
    at_row n (x ∷ t) zero r h e = rw (eq-eqb k x.key (sym e))
    at_row n (x ∷ t) (suc i) r h e =
        let m = key_above (suc x.key) t i d r.1 (omega arith) in
        rw (ne_eqb k x.key (λ q. omega arith)) (at_row (suc x.key) t i r.1 (omega arith) e)

    update_row : (f : A → A) (n : ℕ) (t : Table A) (i : ℕ) → From n t → i < length t → (get_or t i d).key ≡ k → update k f t ≡ set t i (entry k (f (get_or t i d).val))
    unfolding From each update
    update_row f n [] i r h e = absurd (omega arith)
    update_row f n (x ∷ t) zero r h e =
        rw (eq-eqb x.key k e, e)
        (ap (λ (l : Table A). entry k (f x.val) ∷ l) (update_none k f t (at_below k (suc x.key) t r.1 (omega arith))))
    update_row f n (x ∷ t) (suc i) r h e =
        let m = key_above (suc x.key) t i d r.1 (omega arith) in
        rw (ne_eqb x.key k (λ q. omega arith)) (ap (λ (l : Table A). x ∷ l) (update_row f (suc x.key) t i r.1 (omega arith) e))

    put_row : (v : A) (n : ℕ) (t : Table A) (i : ℕ) → From n t → i < length t → (get_or t i d).key ≡ k → put k v t ≡ set t i (entry k v)
    unfolding From put
    put_row v n [] i r h e = absurd (omega arith)
    put_row v n (x ∷ t) zero r h e = rw (le-ltb k x.key (omega arith), eq-eqb k x.key (sym e))
    put_row v n (x ∷ t) (suc i) r h e =
        let m = key_above (suc x.key) t i d r.1 (omega arith) in
        rw (le-ltb k x.key (omega arith), ne_eqb k x.key (λ q. omega arith)) (ap (λ (l : Table A). x ∷ l) (put_row v (suc x.key) t i r.1 (omega arith) e))

    remove_row : (n : ℕ) (t : Table A) (i : ℕ) → From n t → i < length t → (get_or t i d).key ≡ k → remove k t ≡ remove_at t i
    unfolding From remove
    remove_row n [] i r h e = absurd (omega arith)
    remove_row n (x ∷ t) zero r h e = rw (eq-eqb k x.key (sym e)) (remove_none k t (at_below k (suc x.key) t r.1 (omega arith)))
    remove_row n (x ∷ t) (suc i) r h e =
        let m = key_above (suc x.key) t i d r.1 (omega arith) in
        rw (ne_eqb k x.key (λ q. omega arith)) (ap (λ (l : Table A). x ∷ l) (remove_row (suc x.key) t i r.1 (omega arith) e))

-- ---- a key that stands nowhere

module _ {A : Type 0} (k : ℕ) where
  -- the row at the key's place has another key, or there is none
  at_gone : (n : ℕ) (t : Table A) (d : Entry A) → From n t → (place_of key_of k t < length t → (get_or t (place_of key_of k t) d).key ≡ k → ⊥) → at k t ≡ none
  unfolding From at first_where
  at_gone n [] d r z = refl
  at_gone n (x ∷ t) d r z = go (leb k x.key) refl (at_gone (suc x.key) t d r.1)
    where
      go : (c : Bool) → leb k x.key ≡ c → ((place_of key_of k t < length t → (get_or t (place_of key_of k t) d).key ≡ k → ⊥) → at k t ≡ none) → at k (x ∷ t) ≡ none
      go true u ih =
          let m = leb-true k x.key u in
          let w : x.key ≡ k → ⊥ = rw u at z (omega arith) in
          rw (ne_eqb k x.key (λ e. w (sym e))) (at_below k (suc x.key) t r.1 (omega arith))
      go false u ih =
          let m = leb-false k x.key u in
          rw (ne_eqb k x.key (λ e. omega arith)) (ih (λ h. rw u at z (omega arith)))

  put_gone : (v : A) (n : ℕ) (t : Table A) → From n t → at k t ≡ none → put k v t ≡ insert_at t (place_of key_of k t) (entry k v)
  unfolding From at put first_where
  put_gone v n [] r q = refl
  put_gone v n (x ∷ t) r q = go (alike k x.key) (leb k x.key) refl (put_gone v (suc x.key) t r.1)
    where
      go : Alike k x.key → (c : Bool) → leb k x.key ≡ c → (at k t ≡ none → put k v t ≡ insert_at t (place_of key_of k t) (entry k v))
          → put k v (x ∷ t) ≡ insert_at (x ∷ t) (place_of key_of k (x ∷ t)) (entry k v)
      go (same p u) c w ih = absurd (none-ne-some x.val (sym (rw u at q)))
      go (apart p u) true w ih = let m = leb-true k x.key w in rw (w, lt-ltb k x.key (omega arith))
      go (apart p u) false w ih =
          let m = leb-false k x.key w in
          rw (w, le-ltb k x.key (omega arith), u) (ap (λ (l : Table A). x ∷ l) (ih (rw u at q)))

  -- what stands at a key stands at its place
  place_some : (v : A) (n : ℕ) (t : Table A) (d : Entry A) → From n t → at k t ≡ some v → (place_of key_of k t < length t) × (get_or t (place_of key_of k t) d ≡ entry k v)
  unfolding From at first_where
  place_some v n [] d r q = absurd (none-ne-some v q)
  place_some v n (x ∷ t) d r q = go (alike k x.key) (leb k x.key) refl (place_some v (suc x.key) t d r.1)
    where
      go : Alike k x.key → (c : Bool) → leb k x.key ≡ c
          → (at k t ≡ some v → (place_of key_of k t < length t) × (get_or t (place_of key_of k t) d ≡ entry k v))
          → (place_of key_of k (x ∷ t) < length (x ∷ t)) × (get_or (x ∷ t) (place_of key_of k (x ∷ t)) d ≡ entry k v)
      go (same p u) c w ih =
          let e : x.val ≡ v = let s = rw u at q in cc in
          let m : leb k x.key ≡ true = le-leb k x.key (omega arith) in
          rw m (omega arith, rw (p, ← e))
      go (apart p u) true w ih =
          let m = leb-true k x.key w in
          absurd (none-ne-some v (sym (at_below k (suc x.key) t r.1 (omega arith)) ∙ rw u at q))
      go (apart p u) false w ih = let i = ih (rw u at q) in rw w (omega arith, i.1)

-- ---- the same of a table whose keys rise, as a well-formed board's do

module _ {A : Type 0} (t : Table A) (r : Rising key_of t) where
  module _ (k i : ℕ) (d : Entry A) (h : i < length t) (e : (get_or t i d).key ≡ k) where
    pub at_is : at k t ≡ some (get_or t i d).val
    at_is = at_row k d 0 t i (rising_table t r) h e

    pub update_is_set : (f : A → A) → update k f t ≡ set t i (entry k (f (get_or t i d).val))
    update_is_set f = update_row k d f 0 t i (rising_table t r) h e

    pub put_is_set : (v : A) → put k v t ≡ set t i (entry k v)
    put_is_set v = put_row k d v 0 t i (rising_table t r) h e

    pub remove_is_remove_at : remove k t ≡ remove_at t i
    remove_is_remove_at = remove_row k d 0 t i (rising_table t r) h e

  pub at_is_none : (k : ℕ) (d : Entry A) → (place_of key_of k t < length t → (get_or t (place_of key_of k t) d).key ≡ k → ⊥) → at k t ≡ none
  at_is_none k d z = at_gone k 0 t d (rising_table t r) z

  -- the key after one that has a row: in the next row, or nowhere
  pub next_is_none : (k i : ℕ) (d : Entry A) → i < length t → (get_or t i d).key + 1 ≡ k → (i + 1 < length t → (get_or t (i + 1) d).key ≡ k → ⊥) → at k t ≡ none
  next_is_none k i d h e n = at_is_none k d (λ m q. go m q (alike (place_of key_of k t) (i + 1)))
    where
      go : place_of key_of k t < length t → (get_or t (place_of key_of k t) d).key ≡ k → Alike (place_of key_of k t) (i + 1) → ⊥
      go m q (same p u) = n (omega arith) (rw (← p) q)
      go m q (apart p u) =
          let a = place_above key_of t i d k r h (omega arith) in
          let x = keys_rise key_of t i (i + 1) d r (omega arith) (omega arith) in
          let y = keys_rise key_of t (i + 1) (place_of key_of k t) d r (omega arith) m in
          omega arith

  pub put_is_insert_at : (k : ℕ) (v : A) → at k t ≡ none → put k v t ≡ insert_at t (place_of key_of k t) (entry k v)
  put_is_insert_at k v q = put_gone k v 0 t (rising_table t r) q

  pub place_is : (k : ℕ) (v : A) (d : Entry A) → at k t ≡ some v → (place_of key_of k t < length t) × (get_or t (place_of key_of k t) d ≡ entry k v)
  place_is k v d q = place_some k v 0 t d (rising_table t r) q

-- ---- rotations, by shard and victim

pub open_is_insert_at : (r : Rotation) (l : List Rotation) → open_rotation r l ≡ insert_at l (first_where (rotation_before r) l) r
unfolding open_rotation first_where
open_is_insert_at r [] = refl
open_is_insert_at r (q ∷ l) = go (rotation_before r q) (open_is_insert_at r l)
  where
    go : (c : Bool) → open_rotation r l ≡ insert_at l (first_where (rotation_before r) l) r
        → cond c (r ∷ q ∷ l) (q ∷ open_rotation r l) ≡ insert_at (q ∷ l) (cond c 0 (suc (first_where (rotation_before r) l))) r
    go true h = refl
    go false h = ap (λ (m : List Rotation). q ∷ m) h

pub drop_is_remove_at : (f : Rotation → Bool) (l : List Rotation) → drop_first f l ≡ remove_at l (first_where f l)
unfolding drop_first first_where
drop_is_remove_at f [] = refl
drop_is_remove_at f (q ∷ l) = go (f q) (drop_is_remove_at f l)
  where
    go : (c : Bool) → drop_first f l ≡ remove_at l (first_where f l) → cond c l (q ∷ drop_first f l) ≡ remove_at (q ∷ l) (cond c 0 (suc (first_where f l)))
    go true h = refl
    go false h = ap (λ (m : List Rotation). q ∷ m) h
