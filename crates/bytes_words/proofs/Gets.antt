-- Words read one after another.
use Prim.Native.Nat.{ℕ, zero, suc, ◌+◌, ◌*◌, ◌≤◌, ◌<◌}
use mathlib.Core.Path.{◌≡◌, refl, ap, sym, ◌∙◌}
use mathlib.Core.List.{List, [], ◌∷◌, ◌++◌}
use native.Mathlib.Omega.{arith}
use native.Mathlib.Numerals.{add-one}
use lib.ListN.{length, set, take, drop, drop_of_length-le}
use lib.Seq.{drop-cons, drop-drop, set_at, append_snoc}
use mathlib.Core.List.{append-nil}
use Rattle.rules.specs.Snapshot.{value_of_bytes, read_words}

pub reads_length : (n : ℕ) (l : List ℕ) → length (read_words n l) ≡ n
unfolding read_words
reads_length zero l = refl
reads_length (suc n) l = ap suc (reads_length n (drop 8 l))

reads_more : (n : ℕ) (l : List ℕ) → read_words (suc n) l ≡ read_words n l ++ (value_of_bytes (take 8 (drop (n * 8) l)) ∷ [])
unfolding read_words
reads_more zero l = refl
reads_more (suc n) l =
    let e : suc n * 8 ≡ 8 + n * 8 = omega arith in
    ap (λ (z : List ℕ). value_of_bytes (take 8 l) ∷ z) (reads_more n (drop 8 l) ∙ rw (drop-drop (n * 8) 8 l, e))

-- i words read, and the others as they were
abbrev pub got : List ℕ → ℕ → List ℕ → ℕ → List ℕ
got bytes at out i = read_words i (drop at bytes) ++ drop i out

pub got_none : (bytes : List ℕ) (at : ℕ) (out : List ℕ) → out ≡ got bytes at out 0
unfolding read_words
got_none bytes at out = refl

pub got_turn : (bytes : List ℕ) (at : ℕ) (out o : List ℕ) (i a v : ℕ) → o ≡ got bytes at out i → i < length out → a ≡ at + i * 8 → v ≡ value_of_bytes (take 8 (drop a bytes))
    → set o i v ≡ got bytes at out (i + 1)
got_turn bytes at out o i a v e h f g =
    let W : List ℕ = read_words i (drop at bytes) in
    let d : value_of_bytes (take 8 (drop (i * 8) (drop at bytes))) ≡ v = ap (λ (z : List ℕ). value_of_bytes (take 8 z)) (drop-drop (i * 8) at bytes) ∙ rw (← f) (sym g) in
    ap (λ (z : List ℕ). set z i v) (e ∙ ap (λ (z : List ℕ). W ++ z) (drop-cons out i 0 h))
    ∙ set_at W _ _ v i (reads_length i (drop at bytes))
    ∙ rw (add-one, reads_more i (drop at bytes), d) (sym (append_snoc W v (drop (suc i) out)))

pub got_all : (bytes : List ℕ) (at : ℕ) (out : List ℕ) (i : ℕ) → i ≡ length out → got bytes at out i ≡ read_words (length out) (drop at bytes)
got_all bytes at out i e =
    let h : length out ≤ i = omega arith in
    ap (λ (z : List ℕ). read_words i (drop at bytes) ++ z) (drop_of_length-le out h) ∙ append-nil _ ∙ ap (λ (n : ℕ). read_words n (drop at bytes)) e
