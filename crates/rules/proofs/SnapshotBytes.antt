-- '8-byte little-endian words': bytes that read back.
use Prim.Native.Nat.{ℕ, zero, suc, ◌*◌, ◌/◌, ◌%◌, ◌^◌, ◌<◌}
use mathlib.Core.Path.{◌≡◌, refl, ap}
use mathlib.Core.List.{List, [], ◌∷◌}
use mathlib.Core.Bool.{Bool, true}
use native.Mathlib.Omega.{arith}
use borrow.Author.Tests.{leb-true, lt-ltb}
use lib.Dec.{ltb}
use lib.ListN.{length, length-append}
use lib.Seq.{take_at, drop_at}
use Rattle.rules.specs.Lists.{every}
use Rattle.rules.specs.WellFormed.{is_word}
use Rattle.rules.specs.Snapshot.{rows_words, digits, bytes_of, value_of_bytes, read_words}
use Rattle.rules.proofs.Tests.{and_joins, every_parts, every_append}

abbrev pub is_byte : ℕ → Bool
is_byte n = ltb n 256

pub digits_length : (k n : ℕ) → length (digits k n) ≡ k
unfolding digits
digits_length zero n = refl
digits_length (suc k) n = ap suc (digits_length k (n / 256))

-- k digits say any number below 256 ^ k
digits_value : (k n : ℕ) → n < 256 ^ k → value_of_bytes (digits k n) ≡ n
unfolding digits value_of_bytes
digits_value zero n h = omega arith
digits_value (suc k) n h = omega (arith, digits_value k (n / 256) (omega arith))

digits_bytes : (k n : ℕ) → every is_byte (digits k n) ≡ true
unfolding digits every
digits_bytes zero n = refl
digits_bytes (suc k) n = and_joins (is_byte (n % 256)) (every is_byte (digits k (n / 256))) (lt-ltb (n % 256) 256 (omega arith)) (digits_bytes k (n / 256))

pub bytes_length : (ws : List ℕ) → length (bytes_of ws) ≡ length ws * 8
unfolding bytes_of rows_words
bytes_length [] = refl
bytes_length (w ∷ ws) = omega (arith, length-append (digits 8 w) (bytes_of ws), digits_length 8 w, bytes_length ws)

pub bytes_are_bytes : (ws : List ℕ) → every is_byte (bytes_of ws) ≡ true
unfolding bytes_of rows_words every
bytes_are_bytes [] = refl
bytes_are_bytes (w ∷ ws) = every_append is_byte (digits 8 w) (bytes_of ws) (digits_bytes 8 w) (bytes_are_bytes ws)

pub words_back : (ws : List ℕ) → every is_word ws ≡ true → read_words (length ws) (bytes_of ws) ≡ ws
unfolding bytes_of rows_words read_words
words_back [] h = refl
words_back (w ∷ ws) h =
    let p = every_parts is_word w ws h in
    let small : w < 256 ^ 8 = omega (arith, leb-true) in
    rw (take_at (digits 8 w) (bytes_of ws) 8 (digits_length 8 w), drop_at (digits 8 w) (bytes_of ws) 8 (digits_length 8 w), digits_value 8 w small, words_back ws p.1)
