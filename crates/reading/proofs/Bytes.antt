-- Any bytes, eight to a word, are those of words.
use Prim.Native.Nat.{ℕ, zero, suc, ◌+◌, ◌*◌, ◌/◌, ◌%◌, ◌<◌}
use mathlib.Core.Path.{◌≡◌, refl, ap, sym, ◌∙◌}
use mathlib.Core.List.{List, [], ◌∷◌, ◌++◌}
use mathlib.Core.Bool.{true}
use native.Mathlib.Omega.{arith}
use borrow.Author.Tests.{le-leb}
use lib.ListN.{length, get_or, take, drop, length-drop, take-append-drop}
use lib.Seq.{length-take-le, get_or-drop}
use Rattle.rules.specs.Lists.{every}
use Rattle.rules.specs.Board.{last_word}
use Rattle.rules.specs.WellFormed.{is_word}
use Rattle.rules.specs.Snapshot.{rows_words, digits, bytes_of, value_of_bytes, read_words, snapshot_of, words_of}
use Rattle.rules.proofs.Tests.{every_join, every_none}
use Rattle.rules.proofs.SnapshotBytes.{bytes_length}
use Rattle.bytes_words.proofs.Digits.{value_below, part_below}
use Rattle.unpacking.specs.AsWords.{AsWords}
use Rattle.reading.specs.Told.{Snapshot}

abbrev AreBytes : List ℕ → Type 0
AreBytes l = (i : ℕ) → get_or l i 0 < 256

digits_back : (l : List ℕ) → AreBytes l → digits (length l) (value_of_bytes l) ≡ l
unfolding digits value_of_bytes
digits_back [] h = refl
digits_back (x ∷ l) h =
    let b : x < 256 = h 0 in
    let r : (x + 256 * value_of_bytes l) % 256 ≡ x = omega arith in
    let q : (x + 256 * value_of_bytes l) / 256 ≡ value_of_bytes l = omega arith in
    rw (r, q, digits_back l (λ i. h (suc i)))

eight : (n : ℕ) (l : List ℕ) → length l ≡ suc n * 8 → length (take 8 l) ≡ 8
eight n l e = length-take-le 8 l (omega arith)

later : (n : ℕ) (l : List ℕ) → length l ≡ suc n * 8 → length (drop 8 l) ≡ n * 8
later n l e = omega (arith, length-drop 8 l)

bytes_later : (l : List ℕ) → AreBytes l → AreBytes (drop 8 l)
bytes_later l h i = rw (get_or-drop 8 l i 0) (h (8 + i))

bytes_back : (n : ℕ) (l : List ℕ) → length l ≡ n * 8 → AreBytes l → l ≡ bytes_of (read_words n l)
unfolding bytes_of rows_words read_words
bytes_back zero [] e h = refl
bytes_back zero (x ∷ l) e h = absurd (omega arith)
bytes_back (suc n) l e h =
    let d : digits 8 (value_of_bytes (take 8 l)) ≡ take 8 l =
    ap (λ (k : ℕ). digits k (value_of_bytes (take 8 l))) (sym (eight n l e)) ∙ digits_back (take 8 l) (part_below 8 l h) in
    sym (take-append-drop 8 l) ∙ ap (λ (u : List ℕ). u ++ drop 8 l) (sym d) ∙ ap (λ (u : List ℕ). digits 8 (value_of_bytes (take 8 l)) ++ u) (bytes_back n (drop 8 l) (later n l e) (bytes_later l h))

words_back : (n : ℕ) (l : List ℕ) → length l ≡ n * 8 → AreBytes l → every is_word (read_words n l) ≡ true
unfolding read_words
words_back zero l e h = every_none _
words_back (suc n) l e h =
    let b = value_below 8 (take 8 l) (omega (arith, eight n l e)) (part_below 8 l h) in
    every_join _ _ _ (le-leb (value_of_bytes (take 8 l)) last_word (omega arith)) (words_back n (drop 8 l) (later n l e) (bytes_later l h))

pub bytes_as : (l : List ℕ) → length l % 8 ≡ 0 → AreBytes l → AsWords l (read_words (length l / 8) l)
bytes_as l e h = let n : length l ≡ length l / 8 * 8 = omega arith in record { bytes = bytes_back (length l / 8) l n h; words = words_back (length l / 8) l n h }

-- a snapshot has eight bytes to a word
pub snapshot_eights : (l : List ℕ) → Snapshot l → length l % 8 ≡ 0
unfolding snapshot_of
snapshot_eights l h = omega (arith, ap length h.bytes, bytes_length (words_of h.board))
