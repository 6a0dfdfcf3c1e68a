-- What a change of one section keeps: the board still has room for what it holds.
use Prim.Native.Nat.{ℕ, zero, suc, ◌≤◌, ◌<◌}
use mathlib.Core.Path.{◌≡◌, refl, ap, subst}
use mathlib.Core.List.{List, [], ◌∷◌}
use mathlib.Core.Bool.{Bool, true}
use native.Mathlib.Omega.{arith}
use lib.ListN.{length, get_or, set, length-set, length-append, length-drop}
use lib.Seq.{length-take-le}
use Rattle.types.specs.Numbers.{Id}
use Rattle.types.specs.declared.Place.{Place}
use Rattle.rules.specs.Lists.{every}
use Rattle.rules.specs.Table.{Table}
use Rattle.rules.specs.Board.{Settings, Boundary, Rotation, Reshape, Board, most_machines, most_committees, most_bounds, most_rotations, most_reshapes, on_settings, on_machines, on_committees, on_bounds, on_rotations, on_reshapes}
use Rattle.rules.proofs.Tests.{every_parts, every_join}
use Rattle.tables.specs.Rows.{insert_at, remove_at}
use Rattle.board.specs.Layout.{encode}
use Rattle.board.specs.Held.{roomy_committee, roomy_reshape, Holds}

-- ---- of every row

module _ {A : Type 0} (f : A → Bool) where
  pub every_at : (xs : List A) (i : ℕ) (d : A) → every f xs ≡ true → i < length xs → f (get_or xs i d) ≡ true
  every_at [] i d p h = absurd (omega arith)
  every_at (x ∷ xs) zero d p h = (every_parts f x xs p).0
  every_at (x ∷ xs) (suc i) d p h = every_at xs i d (every_parts f x xs p).1 (omega arith)

  pub every_set : (xs : List A) (i : ℕ) (y : A) → every f xs ≡ true → f y ≡ true → every f (set xs i y) ≡ true
  every_set [] i y p q = p
  every_set (x ∷ xs) zero y p q = every_join f y xs q (every_parts f x xs p).1
  every_set (x ∷ xs) (suc i) y p q = let r = every_parts f x xs p in every_join f x (set xs i y) r.0 (every_set xs i y r.1 q)

  pub every_insert : (xs : List A) (i : ℕ) (y : A) → every f xs ≡ true → f y ≡ true → every f (insert_at xs i y) ≡ true
  every_insert xs zero y p q = every_join f y xs q p
  every_insert [] (suc i) y p q = every_join f y [] q p
  every_insert (x ∷ xs) (suc i) y p q = let r = every_parts f x xs p in every_join f x (insert_at xs i y) r.0 (every_insert xs i y r.1 q)

  pub every_remove : (xs : List A) (i : ℕ) → every f xs ≡ true → every f (remove_at xs i) ≡ true
  every_remove [] zero p = p
  every_remove (x ∷ xs) zero p = (every_parts f x xs p).1
  every_remove [] (suc i) p = p
  every_remove (x ∷ xs) (suc i) p = let r = every_parts f x xs p in every_join f x (remove_at xs i) r.0 (every_remove xs i r.1)

-- the row that an insert makes, read and set
module _ {A : Type 0} where
  pub insert_at_lem : (xs : List A) (j : ℕ) (z d : A) → j ≤ length xs → get_or (insert_at xs j z) j d ≡ z
  insert_at_lem xs zero z d h = refl
  insert_at_lem [] (suc j) z d h = absurd (omega arith)
  insert_at_lem (x ∷ xs) (suc j) z d h = insert_at_lem xs j z d (omega arith)

  pub set_insert : (xs : List A) (j : ℕ) (z y : A) → j ≤ length xs → set (insert_at xs j z) j y ≡ insert_at xs j y
  set_insert xs zero z y h = refl
  set_insert [] (suc j) z y h = absurd (omega arith)
  set_insert (x ∷ xs) (suc j) z y h = ap (λ (l : List A). x ∷ l) (set_insert xs j z y (omega arith))

  pub insert_length : (xs : List A) (j : ℕ) (z : A) → j ≤ length xs → length (insert_at xs j z) ≡ suc (length xs)
  insert_length xs j z h = simp length-append (omega (arith, length-take-le j xs h, length-drop j xs))

module _ {A : Type 0} (most : ℕ) (xs : List A) where
  pub set_room : (i : ℕ) (y : A) → length xs ≤ most → length (set xs i y) ≤ most
  set_room i y h = rw length-set h

  pub insert_room : (i : ℕ) (y : A) → i ≤ length xs → length xs < most → length (insert_at xs i y) ≤ most
  insert_room i y l h = simp length-append (omega (arith, length-take-le i xs l, length-drop i xs))

  pub remove_room : (i : ℕ) → i < length xs → length xs ≤ most → length (remove_at xs i) ≤ most
  remove_room i l h = simp length-append (omega (arith, length-take-le i xs (omega arith), length-drop (suc i) xs))

pub held_as : (ws : List ℕ) (a b : Board) → a ≡ b → Holds ws a → Holds ws b
held_as ws a b e h = subst (λ c. Holds ws c) e h

-- ---- of the board: the words hold it with another section

module _ (ws : List ℕ) (b : Board) (h : Holds ws b) (vs : List ℕ) where
  pub held_settings : (s : Settings) → vs ≡ encode (on_settings (λ _. s) b) → Holds vs (on_settings (λ _. s) b)
  held_settings s e = record {
    words = e;
    fits = record {
      machines = h.fits.machines;
      committees = h.fits.committees;
      members = h.fits.members;
      bounds = h.fits.bounds;
      rotations = h.fits.rotations;
      reshapes = h.fits.reshapes;
      lists = h.fits.lists;
    };
  }

  pub held_machines : (t : Table Place) → vs ≡ encode (on_machines (λ _. t) b) → length t ≤ most_machines → Holds vs (on_machines (λ _. t) b)
  held_machines t e l = record {
    words = e;
    fits = record {
      machines = l;
      committees = h.fits.committees;
      members = h.fits.members;
      bounds = h.fits.bounds;
      rotations = h.fits.rotations;
      reshapes = h.fits.reshapes;
      lists = h.fits.lists;
    };
  }

  pub held_committees : (t : Table (List Id)) → vs ≡ encode (on_committees (λ _. t) b) → length t ≤ most_committees → every roomy_committee t ≡ true → Holds vs (on_committees (λ _. t) b)
  held_committees t e l m = record {
    words = e;
    fits = record {
      machines = h.fits.machines;
      committees = l;
      members = m;
      bounds = h.fits.bounds;
      rotations = h.fits.rotations;
      reshapes = h.fits.reshapes;
      lists = h.fits.lists;
    };
  }

  pub held_bounds : (t : Table Boundary) → vs ≡ encode (on_bounds (λ _. t) b) → length t ≤ most_bounds → Holds vs (on_bounds (λ _. t) b)
  held_bounds t e l = record {
    words = e;
    fits = record {
      machines = h.fits.machines;
      committees = h.fits.committees;
      members = h.fits.members;
      bounds = l;
      rotations = h.fits.rotations;
      reshapes = h.fits.reshapes;
      lists = h.fits.lists;
    };
  }

  pub held_rotations : (t : List Rotation) → vs ≡ encode (on_rotations (λ _. t) b) → length t ≤ most_rotations → Holds vs (on_rotations (λ _. t) b)
  held_rotations t e l = record {
    words = e;
    fits = record {
      machines = h.fits.machines;
      committees = h.fits.committees;
      members = h.fits.members;
      bounds = h.fits.bounds;
      rotations = l;
      reshapes = h.fits.reshapes;
      lists = h.fits.lists;
    };
  }

  pub held_reshapes : (t : Table Reshape) → vs ≡ encode (on_reshapes (λ _. t) b) → length t ≤ most_reshapes → every roomy_reshape t ≡ true → Holds vs (on_reshapes (λ _. t) b)
  held_reshapes t e l m = record {
    words = e;
    fits = record {
      machines = h.fits.machines;
      committees = h.fits.committees;
      members = h.fits.members;
      bounds = h.fits.bounds;
      rotations = h.fits.rotations;
      reshapes = l;
      lists = m;
    };
  }
