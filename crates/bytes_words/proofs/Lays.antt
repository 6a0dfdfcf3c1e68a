-- Words laid one after another.
use Prim.Native.Nat.{ℕ, suc, ◌+◌, ◌*◌, ◌≤◌, ◌<◌}
use mathlib.Core.Path.{◌≡◌, refl, ap, sym, ◌∙◌}
use mathlib.Core.List.{List, [], ◌∷◌, ◌++◌, append_assoc, append-nil}
use native.Mathlib.Omega.{arith}
use native.Mathlib.Numerals.{add-one}
use lib.ListN.{length, get_or, take, drop, length-append, length-drop, take-append-drop, drop_of_length-le}
use lib.Seq.{take_at, drop_at, drop-cons, drop-drop, length-take-le}
use Rattle.rules.specs.Snapshot.{rows_words, digits, bytes_of}
use Rattle.rules.proofs.SnapshotBytes.{bytes_length}
use Rattle.bytes_words.specs.Laid.{laid}

pub bytes_append : (x y : List ℕ) → bytes_of (x ++ y) ≡ bytes_of x ++ bytes_of y
unfolding bytes_of rows_words
bytes_append [] y = refl
bytes_append (w ∷ x) y = ap (λ (l : List ℕ). digits 8 w ++ l) (bytes_append x y) ∙ sym (append_assoc (digits 8 w) (bytes_of x) (bytes_of y))

pub laid_none : (at : ℕ) (out : List ℕ) → laid [] at out ≡ out
unfolding laid bytes_of rows_words
laid_none at out = let z : at + 0 ≡ at = omega arith in rw z (take-append-drop at out)

pub laid_length : (ws : List ℕ) (at : ℕ) (out : List ℕ) → at + length ws * 8 ≤ length out → length (laid ws at out) ≡ length out
unfolding laid
laid_length ws at out h =
    omega (arith, length-append (take at out) (bytes_of ws ++ drop (at + length ws * 8) out), length-append (bytes_of ws) (drop (at + length ws * 8) out), bytes_length ws, length-take-le at out (omega arith), length-drop (at + length ws * 8) out)

-- THE LAW OF A CHAIN OF WRITES: two runs of words, laid one after the other
pub laid_both : (x y : List ℕ) (at : ℕ) (out : List ℕ) → at + length x * 8 ≤ length out → laid y (at + length x * 8) (laid x at out) ≡ laid (x ++ y) at out
unfolding laid
laid_both x y at out h =
    let a : length (take at out) ≡ at = length-take-le at out (omega arith) in
    let l : length (take at out ++ bytes_of x) ≡ at + length x * 8 = omega (arith, length-append (take at out) (bytes_of x), bytes_length x) in
    let n : at + length x * 8 + length y * 8 ≡ at + length (x ++ y) * 8 = omega (arith, length-append x y) in
    let s : take at out ++ (bytes_of x ++ drop (at + length x * 8) out) ≡ (take at out ++ bytes_of x) ++ drop (at + length x * 8) out = sym (append_assoc (take at out) (bytes_of x) (drop (at + length x * 8) out)) in
    let d : drop (at + length x * 8 + length y * 8) (take at out ++ (bytes_of x ++ drop (at + length x * 8) out)) ≡ drop (at + length (x ++ y) * 8) out =
    sym (drop-drop (length y * 8) (at + length x * 8) _) ∙ ap (λ (z : List ℕ). drop (length y * 8) (drop (at + length x * 8) z)) s
    ∙ ap (drop (length y * 8)) (drop_at (take at out ++ bytes_of x) _ (at + length x * 8) l) ∙ drop-drop (length y * 8) (at + length x * 8) out ∙ ap (λ (i : ℕ). drop i out) n in
    rw d (ap (λ (z : List ℕ). take (at + length x * 8) z ++ (bytes_of y ++ drop (at + length (x ++ y) * 8) out)) s
    ∙ rw (take_at (take at out ++ bytes_of x) _ (at + length x * 8) l, bytes_append x y) (simp append_assoc))

-- one word
pub laid_one : (w at : ℕ) (out : List ℕ) → take at out ++ (digits 8 w ++ drop (at + 8) out) ≡ laid (w ∷ []) at out
unfolding laid bytes_of rows_words
laid_one w at out = rw (append-nil (digits 8 w))

-- a turn: the next word, and then the rest
pub laid_turn : (ws out o : List ℕ) (at a i : ℕ) → laid (drop i ws) a o ≡ laid ws at out → a + length (drop i ws) * 8 ≤ length o → i < length ws
    → laid (drop (i + 1) ws) (a + 8) (laid (get_or ws i 0 ∷ []) a o) ≡ laid ws at out
laid_turn ws out o at a i e h l =
    let d : drop i ws ≡ (get_or ws i 0 ∷ []) ++ drop (i + 1) ws = rw add-one (drop-cons ws i 0 l) in
    let s : length (drop i ws) ≡ suc (length (drop (i + 1) ws)) = ap length d in
    laid_both (get_or ws i 0 ∷ []) (drop (i + 1) ws) a o (omega arith) ∙ rw d at e

pub laid_end : (ws out o : List ℕ) (at a i : ℕ) → laid (drop i ws) a o ≡ laid ws at out → length ws ≤ i → o ≡ laid ws at out
laid_end ws out o at a i e h = sym (laid_none a o) ∙ ap (λ (z : List ℕ). laid z a o) (sym (drop_of_length-le ws h)) ∙ e
