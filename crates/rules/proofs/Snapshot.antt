-- The snapshot says the board, no more and no less, and has a largest size.
use Prim.Native.Nat.{ℕ, ◌/◌, ◌≤◌}
use mathlib.Core.Path.{◌≡◌, refl, ap, sym, ◌∙◌}
use mathlib.Core.List.{List, [], append-nil}
use mathlib.Core.Option.{Option, none, some, none-ne-some}
use mathlib.Core.Bool.{true}
use native.Mathlib.Omega.{arith}
use lib.ListN.{length}
use Rattle.rules.specs.Lists.{◌and◌, every}
use Rattle.rules.specs.Board.{Board}
use Rattle.rules.specs.WellFormed.{is_word, well_formed}
use Rattle.rules.specs.Snapshot.{words_of, read_board, board_of, bytes_of, words_of_bytes, snapshot_of, read_snapshot}
use Rattle.rules.proofs.Tests.{and_parts, equal_refl, equal_true, given_if}
use Rattle.rules.proofs.SnapshotRows.{board_encodes}
use Rattle.rules.proofs.SnapshotBytes.{is_byte, bytes_length, bytes_are_bytes, words_back}

-- ---- words

-- a well-formed board's words read back to it
pub words_read_back : (b : Board) → well_formed b ≡ true → board_of (words_of b) ≡ some b
unfolding ◌and◌ board_of
words_read_back b h = let e = rw append-nil at ((board_encodes b h).back []) in rw (e, h, equal_refl)

-- words that read as a board are that board's, and it is well-formed
pub board_read_writes : (ws : List ℕ) (b : Board) → board_of ws ≡ some b → (ws ≡ words_of b) × (well_formed b ≡ true)
unfolding board_of
board_read_writes ws b h =
    let p = given_if _ _ _ h in
    let q = and_parts (well_formed (read_board ws).0) _ p.0 in
    (sym (equal_true _ _ q.1) ∙ ap words_of p.1, rw p.1 at q.0)

-- every word of a well-formed board is a 64-bit number
pub words_are_words : (b : Board) → well_formed b ≡ true → every is_word (words_of b) ≡ true
words_are_words b h = (board_encodes b h).words

-- well-formed boards with the same words are one board
pub same_words_same_board : (a b : Board) → well_formed a ≡ true → well_formed b ≡ true → words_of a ≡ words_of b → a ≡ b
same_words_same_board a b p q e = let r = words_read_back a p in let s = words_read_back b q in cc

-- ---- bytes

-- words' bytes read back to them
pub bytes_read_back : (ws : List ℕ) → every is_word ws ≡ true → words_of_bytes (bytes_of ws) ≡ some ws
unfolding words_of_bytes
bytes_read_back ws h =
    let n : length (bytes_of ws) / 8 ≡ length ws = omega (arith, bytes_length ws) in
    rw (n, words_back ws h, equal_refl)

-- bytes that read as words are the bytes of those words
pub words_read_write : (bytes ws : List ℕ) → words_of_bytes bytes ≡ some ws → bytes ≡ bytes_of ws
unfolding words_of_bytes
words_read_write bytes ws h = let p = given_if _ _ _ h in sym (equal_true _ _ p.0) ∙ ap bytes_of p.1

-- 'a snapshot reads back as the board written'
pub snapshot_reads_back : (b : Board) → well_formed b ≡ true → read_snapshot (snapshot_of b) ≡ some b
unfolding read_snapshot snapshot_of
snapshot_reads_back b h = rw (bytes_read_back (words_of b) (words_are_words b h), read_snapshot) (words_read_back b h)

-- 'and a board read writes the same bytes': what reads is a well-formed board's snapshot
pub snapshot_read_writes : (bytes : List ℕ) (b : Board) → read_snapshot bytes ≡ some b → (bytes ≡ snapshot_of b) × (well_formed b ≡ true)
unfolding read_snapshot snapshot_of
snapshot_read_writes bytes b h = go (words_of_bytes bytes) refl h
  where
    go : (o : Option (List ℕ)) → words_of_bytes bytes ≡ o → elim o [ none ↦ none | some ws ↦ board_of ws ] ≡ some b → (bytes ≡ bytes_of (words_of b)) × (well_formed b ≡ true)
    go none e h = absurd (none-ne-some b h)
    go (some ws) e h = let p = board_read_writes ws b h in (words_read_write bytes ws e ∙ ap bytes_of p.0, p.1)

-- well-formed boards with the same bytes are one board
pub same_bytes_same_board : (a b : Board) → well_formed a ≡ true → well_formed b ≡ true → snapshot_of a ≡ snapshot_of b → a ≡ b
same_bytes_same_board a b p q e = let r = snapshot_reads_back a p in let s = snapshot_reads_back b q in cc

-- ---- size

-- 'at most 46,816 bytes'
pub snapshot_most : (b : Board) → well_formed b ≡ true → length (snapshot_of b) ≤ 46816
unfolding snapshot_of
snapshot_most b h = omega (arith, bytes_length (words_of b), (board_encodes b h).short)

-- every element of a snapshot is below 256
pub snapshot_is_bytes : (b : Board) → every is_byte (snapshot_of b) ≡ true
unfolding snapshot_of
snapshot_is_bytes b = bytes_are_bytes (words_of b)
