use lib.Seq.{length-take-le}
use Prim.Native.Nat.{ℕ, ◌+◌, ◌*◌, ◌≤◌}
use mathlib.Core.Path.{sym, subst}
use mathlib.Core.List.{List}
use lib.ListN.{length}
use native.Mathlib.Omega.{arith}
use Rattle.packing.proofs.Sizes.{flat_within, flat_length}
use Rattle.packing.proofs.Puts.{flat_taken, flat_put}
use Rattle.packing.proofs.put_flat.Goals as goal

pub slice_bounds-put_words-end : goal.slice_bounds-put_words-end
slice_bounds-put_words-end c = let a = c.args in
    sym (length-take-le _ _ (omega (arith, c.flat_size-e.ensures, flat_length a.w a.cap a.t.now c.requires.0, flat_within a.w a.cap a.t.now c.requires.0)))

pub put_words-requires : goal.put_words-requires
put_words-requires c = let a = c.args in subst (λ (l : List ℕ). a.at + length l * 8 ≤ length a.out.now) (sym (flat_taken a.w a.cap a.t.now c.flat_size-e.result c.requires.0 c.flat_size-e.ensures)) c.requires.1

pub returns : goal.returns
returns c = let a = c.args in flat_put a.w a.cap a.t.now a.out.now _ a.at c.flat_size-e.result _ c.requires.0 c.flat_size-e.ensures c.put_words.ensures
