-- Rows that move by one: the free row goes from j to k.
use Prim.Native.Nat.{ℕ, zero, suc, ◌+◌, ◌-◌, ◌≤◌, ◌<◌}
use mathlib.Core.Path.{◌≡◌, refl, ap, sym, subst, ◌∙◌}
use mathlib.Core.List.{List, [], ◌∷◌}
use native.Mathlib.Omega.{arith}
use native.Mathlib.Numerals.{add-one}
use lib.ListN.{length, get_or, set, length-append, length-drop}
use lib.Seq.{length-take-le}
use Rattle.types.specs.Numbers.{Id}
use Rattle.rules.specs.Table.{Entry, Table}
use Rattle.rules.specs.Board.{Board, on_committees}
use Rattle.tables.specs.Rows.{insert_at, remove_at}
use Rattle.board.specs.Held.{Holds, no_committee}
use Rattle.board.proofs.Fitting.{set_insert, insert_length, held_as}
use Rattle.folding.specs.Freed.{freed}

module _ {A : Type 0} where
  pub remove_length : (xs : List A) (j : ℕ) → j < length xs → suc (length (remove_at xs j)) ≡ length xs
  remove_length xs j h = simp length-append (omega (arith, length-take-le j xs (omega arith), length-drop (suc j) xs))

  -- what is taken out and put in again, and the other way round
  pub out_and_in : (xs : List A) (j : ℕ) (d : A) → j < length xs → insert_at (remove_at xs j) j (get_or xs j d) ≡ xs
  out_and_in [] j d h = absurd (omega arith)
  out_and_in (x ∷ xs) zero d h = refl
  out_and_in (x ∷ xs) (suc j) d h = ap (λ (l : List A). x ∷ l) (out_and_in xs j d (omega arith))

  pub in_and_out : (xs : List A) (j : ℕ) (z : A) → j ≤ length xs → remove_at (insert_at xs j z) j ≡ xs
  in_and_out xs zero z h = refl
  in_and_out [] (suc j) z h = absurd (omega arith)
  in_and_out (x ∷ xs) (suc j) z h = ap (λ (l : List A). x ∷ l) (in_and_out xs j z (omega arith))

  -- a row twice: the free one before or after
  twice : (xs : List A) (k : ℕ) (d : A) → k < length xs → insert_at xs (suc k) (get_or xs k d) ≡ insert_at xs k (get_or xs k d)
  twice [] k d h = absurd (omega arith)
  twice (x ∷ xs) zero d h = refl
  twice (x ∷ xs) (suc k) d h = ap (λ (l : List A). x ∷ l) (twice xs k d (omega arith))

  -- rows before and after the one put in, and the one taken out
  before_in : (xs : List A) (k : ℕ) (z d : A) → k < length xs → get_or (insert_at xs (suc k) z) k d ≡ get_or xs k d
  before_in [] k z d h = absurd (omega arith)
  before_in (x ∷ xs) zero z d h = refl
  before_in (x ∷ xs) (suc k) z d h = before_in xs k z d (omega arith)

  after_in : (xs : List A) (k : ℕ) (z d : A) → k ≤ length xs → get_or (insert_at xs k z) (suc k) d ≡ get_or xs k d
  after_in xs zero z d h = refl
  after_in [] (suc k) z d h = absurd (omega arith)
  after_in (x ∷ xs) (suc k) z d h = after_in xs k z d (omega arith)

  before_out : (xs : List A) (j k : ℕ) (d : A) → k < j → j < length xs → get_or (remove_at xs j) k d ≡ get_or xs k d
  before_out [] j k d l h = absurd (omega arith)
  before_out (x ∷ xs) zero k d l h = absurd (omega arith)
  before_out (x ∷ xs) (suc j) zero d l h = refl
  before_out (x ∷ xs) (suc j) (suc k) d l h = before_out xs j k d (omega arith) (omega arith)

  after_out : (xs : List A) (j k : ℕ) (d : A) → j ≤ k → j < length xs → get_or (remove_at xs j) k d ≡ get_or xs (suc k) d
  after_out [] j k d l h = absurd (omega arith)
  after_out (x ∷ xs) zero k d l h = refl
  after_out (x ∷ xs) (suc j) zero d l h = absurd (omega arith)
  after_out (x ∷ xs) (suc j) (suc k) d l h = after_out xs j k d (omega arith) (omega arith)

  -- a turn of each loop
  module _ (xs : List A) (j k : ℕ) (d : A) (in_rows : j < length xs) where
    abbrev left : List A
    left = remove_at xs j

    pub freed_lower : suc k ≤ j → (z : A) → set (insert_at left (suc k) z) (suc k) (get_or (insert_at left (suc k) z) k d) ≡ insert_at left k (get_or xs k d)
    freed_lower l z =
        let n = remove_length xs j in_rows in
        set_insert left (suc k) z _ (omega arith)
        ∙ ap (insert_at left (suc k)) (before_in left k z d (omega arith))
        ∙ twice left k d (omega arith)
        ∙ ap (insert_at left k) (before_out xs j k d (omega arith) in_rows)

    pub freed_higher : j ≤ k → suc k < length xs → (z : A) → set (insert_at left k z) k (get_or (insert_at left k z) (suc k) d) ≡ insert_at left (suc k) (get_or xs (suc k) d)
    freed_higher l h z =
        let n = remove_length xs j in_rows in
        set_insert left k z _ (omega arith)
        ∙ ap (insert_at left k) (after_in left k z d (omega arith))
        ∙ sym (twice left k d (omega arith))
        ∙ ap (insert_at left (suc k)) (after_out xs j k d l in_rows)

-- ---- of the board

module _ (b : Board) (j : ℕ) (in_rows : j < length b.committees) where
  abbrev cs : Table (List Id)
  cs = b.committees

  pub freed_length : (k : ℕ) → k < length cs → length (freed j k cs) ≡ length cs
  freed_length k l = let n = remove_length cs j in_rows in insert_length (remove_at cs j) k _ (omega arith) ∙ n

  pub none_moved : (ws : List ℕ) → Holds ws b → Holds ws (on_committees (freed j j) b)
  none_moved ws h = held_as ws _ _ (ap (λ (t : Table (List Id)). on_committees (λ _. t) b) (sym (out_and_in cs j no_committee in_rows))) h

  -- what copying one row makes of the words
  abbrev Copied : ℕ → ℕ → List ℕ → List ℕ → Type 0
  Copied i k ws vs = (c : Board) → Holds ws c → i < length c.committees → k < length c.committees → Holds vs (on_committees (λ t. set t k (get_or t i no_committee)) c)

  module _ (ws vs : List ℕ) (i : ℕ) (h : Holds ws (on_committees (freed j i) b)) where
    pub moved_lower : (m : ℕ) → m ≡ i → 0 < i → i ≤ j → Copied (i - 1) m ws vs → Holds vs (on_committees (freed j (i - 1)) b)
    moved_lower m s z l copied =
        let g : Copied (i - 1) i ws vs = subst (λ (k : ℕ). Copied (i - 1) k ws vs) s copied in
        let q : i ≡ suc (i - 1) = omega arith in
        let e : set (freed j i cs) i (get_or (freed j i cs) (i - 1) no_committee) ≡ freed j (i - 1) cs =
        ap (λ (k : ℕ). set (freed j k cs) k (get_or (freed j k cs) (i - 1) no_committee)) q ∙ freed_lower cs j (i - 1) no_committee in_rows (omega arith) _ in
        let n = freed_length i (omega arith) in
        held_as vs _ _ (ap (λ (t : Table (List Id)). on_committees (λ _. t) b) e) (g _ h (omega arith) (omega arith))

    pub moved_higher : j ≤ i → i + 1 < length cs → Copied (i + 1) i ws vs → Holds vs (on_committees (freed j (i + 1)) b)
    moved_higher l m g =
        let e : set (freed j i cs) i (get_or (freed j i cs) (i + 1) no_committee) ≡ freed j (i + 1) cs = rw add-one (freed_higher cs j i no_committee in_rows l (omega arith) _) in
        let n = freed_length i (omega arith) in
        held_as vs _ _ (ap (λ (t : Table (List Id)). on_committees (λ _. t) b) e) (g _ h (omega arith) (omega arith))

  module _ (ws vs : List ℕ) (k : ℕ) (l : k < length cs) (h : Holds ws (on_committees (freed j k) b)) where
    -- the free row is the last, and goes
    pub last_closed : ((c : Board) → Holds ws c → k < length c.committees → Holds vs (on_committees (λ t. remove_at t k) c)) → Holds vs (on_committees (λ t. remove_at t j) b)
    last_closed g =
        let n = remove_length cs j in_rows in
        held_as vs _ _ (ap (λ (t : Table (List Id)). on_committees (λ _. t) b) (in_and_out (remove_at cs j) k _ (omega arith))) (g _ h (rw (freed_length k l) l))

    -- the free row is another's
    pub one_replaced : (e : Entry (List Id)) → ((c : Board) → Holds ws c → k < length c.committees → Holds vs (on_committees (λ t. set t k e) c)) → Holds vs (on_committees (λ t. insert_at (remove_at t j) k e) b)
    one_replaced e g =
        let n = remove_length cs j in_rows in
        held_as vs _ _ (ap (λ (t : Table (List Id)). on_committees (λ _. t) b) (set_insert (remove_at cs j) k _ e (omega arith))) (g _ h (rw (freed_length k l) l))

-- a row was put in at n, and then replaced
pub one_opened : (b : Board) (vs : List ℕ) (n j : ℕ) (d e : Entry (List Id)) → n ≤ length b.committees → Holds vs (on_committees (λ t. insert_at (remove_at (insert_at t n d) n) j e) b) → Holds vs (on_committees (λ t. insert_at t j e) b)
one_opened b vs n j d e l h = held_as vs _ _ (ap (λ (t : Table (List Id)). on_committees (λ _. insert_at t j e) b) (in_and_out b.committees n d l)) h
