-- What a write leaves.
use Prim.Native.Nat.{ℕ, ◌+◌, ◌*◌, ◌≤◌, ◌<◌}
use mathlib.Core.Path.{◌≡◌, refl, ap, sym, ◌∙◌}
use mathlib.Core.List.{List, ◌++◌}
use mathlib.Core.Option.{some}
use mathlib.Core.Bool.{Bool, true, false}
use native.Mathlib.Omega.{arith}
use native.Mathlib.Nat.{zero-add}
use lib.ListN.{length, take, drop}
use lib.Seq.{take-append_seam}
use Rattle.types.specs.declared.Answer.{Answer}
use Rattle.types.specs.declared.Answer.TheVariants.{Done, NotWellFormed, NoRoom}
use Rattle.rules.specs.Board.{Board}
use Rattle.rules.specs.Snapshot.{bytes_of, words_of, snapshot_of, read_snapshot}
use Rattle.rules.specs.WellFormed.{well_formed}
use Rattle.rules.proofs.SnapshotBytes.{bytes_length}
use Rattle.rules.proofs.Snapshot.{snapshot_reads_back}
use Rattle.board.specs.Layout.{board_size}
use Rattle.board.specs.Held.{Holds}
use Rattle.board.specs.Permitted.{WellHeld}
use Rattle.board.proofs.Widths.{board_wide}
use Rattle.board.proofs.One.{one_board}
use Rattle.wellformed.specs.Tells.{Tells}
use Rattle.bytes_words.specs.Laid.{laid}
use Rattle.packing.specs.Packed.{packed}
use Rattle.packing.specs.Put.{Put}
use Rattle.packing.proofs.Packs.{packed_encode}
use Rattle.snapshot.specs.Written.{Written, not_board, no_room, written}

pub held_size : {ws : List ℕ} → WellHeld ws → length ws ≡ board_size
held_size h = ap length h.holds.words ∙ board_wide h.board

module _ {ws : List ℕ} {b : Board} (h : Holds ws b) where
  held_words : packed ws ≡ words_of b
  held_words = ap packed h.words ∙ packed_encode b h.fits

  pub held_long : length (packed ws) * 8 ≡ length (snapshot_of b)
  unfolding snapshot_of
  held_long = ap (λ (l : List ℕ). length l * 8) held_words ∙ sym (bytes_length (words_of b))

  pub held_bytes : (before after : List ℕ) (p : ℕ) → Put (packed ws) 0 before after p → after ≡ snapshot_of b ++ drop (length (snapshot_of b)) before
  unfolding laid snapshot_of
  held_bytes before after p u =
      let z : 0 + length (packed ws) * 8 ≡ length (bytes_of (words_of b)) = zero-add _ ∙ held_long in
      u.bytes ∙ rw (z, held_words)

module _ (ws before : List ℕ) (long : ℕ) {r : Bool} (t : Tells ws r) where
  pub write_refused : r ≡ false → Written ws before long before long NotWellFormed
  write_refused e = not_board (λ h. let y : r ≡ true = t.held h in let z : ◌≡◌ {A = ℕ} 0 1 = cc in omega arith) refl refl refl

  module _ (k : ℕ) (e : r ≡ true) (n : k ≡ length (packed ws)) where
    pub write_short : length before < 8 * k → Written ws before long before long NoRoom
    write_short h = let w = t.yes e in no_room w.board w.holds w.good (omega (arith, held_long w.holds)) refl refl refl

    pub write_done : {after : List ℕ} {p : ℕ} → 8 * k ≤ length before → Put (packed ws) 0 before after p → Written ws before long after (8 * k) Done
    write_done {after} {p} h u =
        let w = t.yes e in
        written w.board w.holds w.good (omega (arith, held_long w.holds)) refl (held_bytes w.holds before after p u) (omega (arith, held_long w.holds))

-- THE WRITE IS DETERMINED: two results permitted are equal, every byte and the length with them
module _ (ws before : List ℕ) (long : ℕ) (u v : List ℕ) (m n : ℕ) (r s : Answer) where
  same_length : (a b : Board) → Holds ws a → Holds ws b → length (snapshot_of a) ≡ length (snapshot_of b)
  same_length a b h k = ap (λ (x : Board). length (snapshot_of x)) (one_board ws a b h k)

  pub write_determined : Written ws before long u m r → Written ws before long v n s → (r ≡ s) × (u ≡ v) × (m ≡ n)
  write_determined (not_board x p q o) (not_board x' p' q' o') = (p ∙ sym p', q ∙ sym q', o ∙ sym o')
  write_determined (not_board x p q o) (no_room b h g l p' q' o') = absurd (x (record { board = b; holds = h; good = g }))
  write_determined (not_board x p q o) (written b h g l p' q' o') = absurd (x (record { board = b; holds = h; good = g }))
  write_determined (no_room b h g l p q o) (not_board x p' q' o') = absurd (x (record { board = b; holds = h; good = g }))
  write_determined (written b h g l p q o) (not_board x p' q' o') = absurd (x (record { board = b; holds = h; good = g }))
  write_determined (no_room a h g l p q o) (no_room b i j k p' q' o') = (p ∙ sym p', q ∙ sym q', o ∙ sym o')
  write_determined (no_room a h g l p q o) (written b i j k p' q' o') = absurd (omega (arith, same_length a b h i))
  write_determined (written a h g l p q o) (no_room b i j k p' q' o') = absurd (omega (arith, same_length a b h i))
  write_determined (written a h g l p q o) (written b i j k p' q' o') =
      let e = one_board ws a b h i in
      (p ∙ sym p', q ∙ ap (λ (x : Board). snapshot_of x ++ drop (length (snapshot_of x)) before) e ∙ sym q', o ∙ same_length a b h i ∙ sym o')

-- 'a snapshot reads back as the board written'
pub written_reads_back : (ws before after : List ℕ) (long longer : ℕ) (r : Answer) (b : Board) → Written ws before long after longer r → r ≡ Done → Holds ws b → well_formed b ≡ true
    → read_snapshot (take longer after) ≡ some b
written_reads_back ws before after long longer r b (not_board x p q o) d h g = absurd (x (record { board = b; holds = h; good = g }))
written_reads_back ws before after long longer r b (no_room a i j l p q o) d h g = absurd (let z : ◌≡◌ {A = Answer} NoRoom Done = sym p ∙ d in let y : ◌≡◌ {A = ℕ} 0 1 = cc in omega arith)
written_reads_back ws before after long longer r b (written a i j l p q o) d h g =
    let e = one_board ws a b i h in
    ap read_snapshot (rw (o, q) (take-append_seam (snapshot_of a) _)) ∙ snapshot_reads_back a j ∙ ap some e
