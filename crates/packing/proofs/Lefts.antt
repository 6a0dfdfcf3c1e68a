-- A chain of writes: what is left to lay, in the bytes as they are, is the whole laid in the bytes as they were.
use Prim.Native.Nat.{ℕ, ◌+◌, ◌*◌, ◌≤◌}
use mathlib.Core.Path.{◌≡◌, refl, sym, ◌∙◌}
use mathlib.Core.List.{List, [], ◌++◌}
use native.Mathlib.Omega.{arith}
use lib.ListN.{length, length-append}
use Rattle.bytes_words.specs.Laid.{laid}
use Rattle.bytes_words.proofs.Lays.{laid_none, laid_length, laid_both}
use Rattle.packing.specs.Put.{Put}

pub record Left (whole : List ℕ) (at : ℕ) (before rest : List ℕ) (p : ℕ) (out : List ℕ) : Type 0 where
  pub same : laid rest p out ≡ laid whole at before
  pub size : length out ≡ length before
  pub ends : p + length rest * 8 ≡ at + length whole * 8
  pub fits : at + length whole * 8 ≤ length before

pub start : (whole rest : List ℕ) (at : ℕ) (before : List ℕ) → whole ≡ rest → at + length whole * 8 ≤ length before → Left whole at before rest at before
start whole rest at before e h = record { same = rw e; size = refl; ends = rw e; fits = h }

module _ {whole : List ℕ} {at : ℕ} {before : List ℕ} {p : ℕ} {out : List ℕ} where
  pub room : (y z : List ℕ) → Left whole at before (y ++ z) p out → p + length y * 8 ≤ length out
  room y z l = omega (arith, length-append y z, l.ends, l.fits, l.size)

  pub next : (y z : List ℕ) {q : ℕ} {o : List ℕ} → Left whole at before (y ++ z) p out → Put y p out o q → Left whole at before z q o
  next y z {q} {o} l h = record {
    same = rw (h.next, h.bytes) (laid_both y z p out (room y z l) ∙ l.same);
    size = rw (h.bytes, laid_length y p out (room y z l)) l.size;
    ends = omega (arith, length-append y z, l.ends, h.next);
    fits = l.fits;
  }

  pub done : Left whole at before [] p out → Put whole at before out p
  done l = record { next = omega (arith, l.ends); bytes = sym (laid_none p out) ∙ l.same }

  pub last_room : (y : List ℕ) → Left whole at before y p out → p + length y * 8 ≤ length out
  last_room y l = omega (arith, l.ends, l.fits, l.size)

  pub last : (y : List ℕ) {q : ℕ} {o : List ℕ} → Left whole at before y p out → Put y p out o q → Put whole at before o q
  last y l h = record { next = omega (arith, l.ends, h.next); bytes = h.bytes ∙ l.same }
