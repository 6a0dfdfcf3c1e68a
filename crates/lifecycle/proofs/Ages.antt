-- A machine at its deadline, as the code has it.
use mathlib.Core.Path.{◌≡◌, refl, ap, sym, subst, ◌∙◌}
use mathlib.Core.List.{List, [], ◌∷◌}
use mathlib.Core.Bool.{Bool, true, false, cond}
use Prim.Native.Nat.{ℕ, zero, suc, ◌+◌, ◌≤◌, ◌<◌}
use native.Mathlib.Omega.{arith}
use native.Mathlib.Numerals.{add-one}
use lib.ListN.{length, get_or, set, drop, drop_of_length-le}
use lib.Seq.{set-get_or, drop-cons}
use mir.Val.{bool_byte}
use Rattle.types.specs.Places.{is_overdue, made_ready}
use Rattle.types.specs.declared.Place.{Place}
use Rattle.types.specs.declared.Machine.{Machine}
use Rattle.types.specs.declared.Answer.TheVariants.{Done}
use Rattle.types.specs.declared.Outcome.{Outcome}
use Rattle.rules.specs.Lists.{bit_of, count}
use Rattle.rules.specs.Table.{Entry, entry, Table, each, count_where}
use Rattle.rules.specs.Board.{Board, machine_of, on_machines, epoch_of}
use Rattle.rules.specs.WellFormed.{well_formed}
use Rattle.rules.specs.Turns.{checked, alone}
use Rattle.rules.specs.Places.{time_out}
use Rattle.board.specs.Held.{Holds, no_machine}
use Rattle.steps.specs.Inner.{outcome, Step}
use Rattle.lifecycle.specs.Ages.{aged_place, aged_entry, aged}

-- each way of the code, up to what it owes; m is the machine read, and r says whether it is overdue
module _ (b : Board) (i epoch wait : ℕ) (m : Machine) (me : m ≡ machine_of (get_or b.machines i no_machine)) (r : Bool) (re : r ≡ is_overdue epoch wait m.place) (ws : List ℕ) where
  abbrev e : Entry Place
  e = get_or b.machines i no_machine

  is : (q : Bool) → r ≡ q → is_overdue epoch wait e.val ≡ q
  is q t = ap (λ (y : Machine). is_overdue epoch wait y.place) (sym me) ∙ sym re ∙ t

  pub age_yes : r ≡ true → (q : Place) → q ≡ made_ready m.place → Holds ws (on_machines (λ t. set t i (entry m.id.0 q)) b)
      → (true ≡ is_overdue epoch wait e.val) × Holds ws (on_machines (aged epoch wait i) b)
  age_yes t q qe h = (
    sym (is true t),
    subst (λ (y : Entry Place). Holds ws (on_machines (λ u. set u i y) b)) (ap (entry m.id.0) qe ∙ ap (λ (y : Machine). entry y.id.0 (made_ready y.place)) me ∙ ap (λ c. entry e.key (cond c (made_ready e.val) e.val)) (sym (is true t))) h,
  )

  pub age_no : r ≡ false → Holds ws b → (false ≡ is_overdue epoch wait e.val) × Holds ws (on_machines (aged epoch wait i) b)
  age_no t h = (
    sym (is false t),
    subst (λ (u : Table Place). Holds ws (on_machines (λ v. u) b)) (sym (ap (λ c. set b.machines i (entry e.key (cond c (made_ready e.val) e.val))) (is false t) ∙ set-get_or b.machines i no_machine)) h,
  )

-- ---- the machines before row i are aged, those from it on are to come

module _ {A : Type 0} (f : A → A) where
  abbrev pub map_to : ℕ → List A → List A
  map_to zero l = l
  map_to (suc i) [] = []
  map_to (suc i) (x ∷ l) = f x ∷ map_to i l

  pub map_to_length : (i : ℕ) (l : List A) → length (map_to i l) ≡ length l
  map_to_length zero l = refl
  map_to_length (suc i) [] = refl
  map_to_length (suc i) (x ∷ l) = ap suc (map_to_length i l)

  pub map_to_at : (i : ℕ) (l : List A) (d : A) → get_or (map_to i l) i d ≡ get_or l i d
  map_to_at zero l d = refl
  map_to_at (suc i) [] d = refl
  map_to_at (suc i) (x ∷ l) d = map_to_at i l d

  map_to_set : (i : ℕ) (l : List A) (d y : A) → i < length l → y ≡ f (get_or l i d) → set (map_to i l) i y ≡ map_to (suc i) l
  map_to_set i [] d y h e = absurd (omega arith)
  map_to_set zero (x ∷ l) d y h e = ap (λ (z : A). z ∷ l) e
  map_to_set (suc i) (x ∷ l) d y h e = ap (λ (k : List A). f x ∷ k) (map_to_set i l d y (omega arith) e)

  pub map_to_next : (i : ℕ) (l : List A) (d : A) → i < length l → set (map_to i l) i (f (get_or (map_to i l) i d)) ≡ map_to (i + 1) l
  map_to_next i l d h = rw (add-one i) (map_to_set i l d _ h (ap f (map_to_at i l d)))

-- all of them
pub map_to_each : (epoch wait i : ℕ) (t : Table Place) → length t ≤ i → map_to (aged_entry epoch wait) i t ≡ each (λ x p. aged_place epoch wait p) t
unfolding each
map_to_each epoch wait zero [] h = refl
map_to_each epoch wait (suc i) [] h = refl
map_to_each epoch wait zero (x ∷ t) h = absurd (omega arith)
map_to_each epoch wait (suc i) (x ∷ t) h = ap (λ (l : Table Place). aged_entry epoch wait x ∷ l) (map_to_each epoch wait i t (omega arith))

-- how many are still to be made ready
abbrev pub to_come : ℕ → ℕ → ℕ → Table Place → ℕ
to_come epoch wait i t = count_where (is_overdue epoch wait) (drop i t)

pub come_next : (epoch wait i : ℕ) (t : Table Place) → i < length t → to_come epoch wait i t ≡ bit_of (is_overdue epoch wait (get_or t i no_machine).val) + to_come epoch wait (i + 1) t
unfolding count_where count
come_next epoch wait i t h = rw (add-one i) (ap (count_where (is_overdue epoch wait)) (drop-cons t i no_machine h))

pub come_none : (epoch wait i : ℕ) (t : Table Place) → length t ≤ i → to_come epoch wait i t ≡ 0
unfolding count_where count
come_none epoch wait i t h = ap (count_where (is_overdue epoch wait)) (drop_of_length-le t h)

bit_is : (c : Bool) → bool_byte c ≡ bit_of c
bit_is true = refl
bit_is false = refl

pub bit_small : (c : Bool) → bool_byte c ≤ 1
bit_small true = omega arith
bit_small false = omega arith

-- the loop so far, of every board: i rows walked and k made ready
pub record SoFar (b : Board) (epoch wait n k i : ℕ) (ws : List ℕ) : Type 0 where
  pub epoch_is : epoch ≡ epoch_of b
  pub wait_is : wait ≡ b.settings.wait
  pub rows : n ≡ length b.machines
  pub held : Holds ws (on_machines (map_to (aged_entry epoch wait) i) b)
  pub counted : k + to_come epoch wait i b.machines ≡ to_come epoch wait 0 b.machines

module _ (b : Board) (epoch wait n k i : ℕ) (ws : List ℕ) (s : SoFar b epoch wait n k i ws) where
  -- what one turn reads and leaves
  pub age_turn : i < n → (made : Bool) (more : ℕ) (after : List ℕ) → more ≡ bool_byte made
      → ((c : Board) → Holds ws c → i < length c.machines → (made ≡ is_overdue epoch wait (get_or c.machines i no_machine).val) × Holds after (on_machines (aged epoch wait i) c))
      → SoFar b epoch wait n (k + more) (i + 1) after
  age_turn l made more after q step =
      let here : i < length b.machines = omega (arith, s.rows) in
      let r = step _ s.held (omega (arith, map_to_length (aged_entry epoch wait) i b.machines)) in
      let m : more ≡ bit_of (is_overdue epoch wait (get_or b.machines i no_machine).val) =
      q ∙ bit_is made ∙ ap bit_of r.0 ∙ ap (λ (y : Entry Place). bit_of (is_overdue epoch wait y.val)) (map_to_at (aged_entry epoch wait) i b.machines no_machine) in
      record {
        epoch_is = s.epoch_is;
        wait_is = s.wait_is;
        rows = s.rows;
        held = subst (λ (t : Table Place). Holds after (on_machines (λ u. t) b)) (map_to_next (aged_entry epoch wait) i b.machines no_machine here) r.1;
        counted = omega (arith, s.counted, come_next epoch wait i b.machines here);
      }

  -- past the last row
  pub age_end : well_formed b ≡ true → n ≤ i → (r : Outcome) → r ≡ outcome Done k 0 → Step time_out b ws r
  unfolding time_out alone checked
  age_end ok l r t =
      let all : length b.machines ≤ i = omega (arith, s.rows) in
      let done : count_where (is_overdue epoch wait) b.machines ≡ k = omega (arith, s.counted, come_none epoch wait i b.machines all) in
      record {
        told = rw ok (t ∙ ap (λ m. outcome Done m 0) (sym done ∙ rw (s.epoch_is, s.wait_is)));
        left = rw ok (subst (λ (u : Table Place). Holds ws (on_machines (λ v. u) b)) (map_to_each epoch wait i b.machines all ∙ rw (s.epoch_is, s.wait_is)) s.held);
      }
