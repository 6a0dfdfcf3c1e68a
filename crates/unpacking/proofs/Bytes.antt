-- Words that are read from the bytes of words are those words.
use Prim.Native.Nat.{ℕ, zero, suc, ◌+◌, ◌*◌, ◌/◌, ◌≤◌, ◌<◌}
use mathlib.Core.Path.{◌≡◌, refl, ap, sym, ◌∙◌}
use mathlib.Core.List.{List, [], ◌∷◌, ◌++◌}
use native.Mathlib.Omega.{arith}
use lib.ListN.{length, get_or, take, drop, length-drop, take-append-drop}
use lib.Seq.{drop_at, drop-cons, take-append-le, drop-append-le, length-take-le}
use Rattle.rules.specs.Snapshot.{bytes_of, value_of_bytes, read_words}
use Rattle.rules.proofs.SnapshotBytes.{bytes_length, words_back}
use Rattle.word_tests.proofs.Decides.{words_cut}
use Rattle.bytes_words.proofs.Lays.{bytes_append}
use Rattle.unpacking.specs.AsWords.{AsWords}

pub total : {bs ws : List ℕ} → AsWords bs ws → length bs / 8 ≡ length ws
total {bs} {ws} h = omega (arith, ap length h.bytes, bytes_length ws)

reads_front : (n : ℕ) (x y : List ℕ) → length x ≡ n * 8 → read_words n (x ++ y) ≡ read_words n x
unfolding read_words
reads_front zero x y l = refl
reads_front (suc n) x y l =
    let h : 8 ≤ length x = omega arith in
    let r : length (drop 8 x) ≡ n * 8 = length-drop 8 x ∙ omega arith in
    rw (take-append-le 8 x y h, drop-append-le 8 x y h, reads_front n (drop 8 x) y r)

bytes_from : (at : ℕ) (ws : List ℕ) → at ≤ length ws → drop (8 * at) (bytes_of ws) ≡ bytes_of (drop at ws)
bytes_from at ws h =
    let l : length (bytes_of (take at ws)) ≡ 8 * at = omega (arith, bytes_length (take at ws), length-take-le at ws h) in
    ap (drop (8 * at)) (ap bytes_of (sym (take-append-drop at ws)) ∙ bytes_append (take at ws) (drop at ws)) ∙ drop_at (bytes_of (take at ws)) (bytes_of (drop at ws)) (8 * at) l

module _ {bs ws : List ℕ} (h : AsWords bs ws) (at : ℕ) where
  pub words_are : (n : ℕ) → at + n ≤ length ws → read_words n (drop (8 * at) bs) ≡ take n (drop at ws)
  words_are n r =
      let d : List ℕ = drop at ws in
      let lt : length (take n d) ≡ n = length-take-le n d (omega (arith, length-drop at ws)) in
      let w = (words_cut n d (words_cut at ws h.words).1).0 in
      let s : drop (8 * at) bs ≡ bytes_of (take n d) ++ bytes_of (drop n d) =
      ap (drop (8 * at)) h.bytes ∙ bytes_from at ws (omega arith) ∙ ap bytes_of (sym (take-append-drop n d)) ∙ bytes_append (take n d) (drop n d) in
      ap (read_words n) s ∙ reads_front n (bytes_of (take n d)) (bytes_of (drop n d)) (omega (arith, bytes_length (take n d)))
      ∙ ap (λ (k : ℕ). read_words k (bytes_of (take n d))) (sym lt) ∙ words_back (take n d) w

  pub word_is : at < length ws → value_of_bytes (take 8 (drop (8 * at) bs)) ≡ get_or ws at 0
  unfolding read_words
  word_is r =
      let e : value_of_bytes (take 8 (drop (8 * at) bs)) ∷ [] ≡ take 1 (drop at ws) = words_are 1 (omega arith) in
      let f : take 1 (drop at ws) ≡ get_or ws at 0 ∷ [] = ap (take 1) (drop-cons ws at 0 r) in
      cc
