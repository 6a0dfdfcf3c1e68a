-- What `Reader::draw_index` tells is the draw at that position.
use Prim.Native.Nat.{ℕ, ◌+◌}
use mathlib.Core.Path.{◌≡◌, ap, sym, ◌∙◌}
use mathlib.Core.List.{List}
use native.Mathlib.Omega.{arith}
use lib.ListN.{length, drop, length-drop}
use Rattle.std.specs.Prelude.{Ok}
use Rattle.rules.specs.Draws.{draw_index}
use Rattle.sampling.specs.declared.Reader.{Reader}
use Rattle.sampling.specs.Reads.{Read}
use Rattle.sampling.proofs.Shuffles.{drawn_reads}
use Rattle.draw_readers.specs.Reads.{told, draw_at}

pub told_right : (draws : List ℕ) (at most j : ℕ) (left : Reader) → Read draws (draw_index most (drop at draws)) j left → Ok (j, left.at) ≡ draw_at draws at most
told_right draws at most j left r =
    let e = (drawn_reads most (drop at draws) j (drop left.at draws) r.drew).first in
    let n : left.at ≡ at + 1 = omega (arith, ap length e, length-drop at draws, length-drop left.at draws, r.within) in
    ap (λ k. Ok (j, k)) n ∙ sym (ap (told at) r.drew)
