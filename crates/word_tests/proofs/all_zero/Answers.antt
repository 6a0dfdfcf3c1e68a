use mathlib.Core.Path.{◌≡◌, ap, sym, ◌∙◌}
use mathlib.Core.Bool.{Bool, ◌&&◌}
use Prim.Native.Nat.{◌+◌, ◌-◌, ◌/◌}
use native.Mathlib.Omega.{arith}
use lib.Dec.{eqb}
use lib.ListN.{length, get_or, take, drop, length-drop}
use lib.Seq.{length-take-le}
use Rattle.word_tests.proofs.Loops.{halves_all, halves_and_one}
use Rattle.word_tests.proofs.all_zero.Goals as goal

pub slice_bounds-both_zero-end : goal.slice_bounds-both_zero-end
slice_bounds-both_zero-end c = sym (length-take-le _ c.args.t.now (omega arith))

pub both_zero-halves-requires : goal.both_zero-halves-requires
both_zero-halves-requires c = let t = c.args.t.now in
    let h = length t / 2 in
    let a : length (take h t) ≡ h = length-take-le h t (omega arith) in
    let b : length (take (h + h - h) (drop h t)) ≡ h + h - h = length-take-le (h + h - h) (drop h t) (omega (arith, length-drop h t)) in
    let z : h + h - h ≡ h = omega arith in
    a ∙ sym (b ∙ z)

pub returns-then-end-t : goal.returns-then-end-t
returns-then-end-t c = let t = c.args.t.now in
    ap (λ (b : Bool). b && eqb (get_or t (length t / 2 + length t / 2) 0) 0) c.both_zero-halves.ensures ∙ halves_and_one t (length t / 2) (length t / 2 + length t / 2) (omega arith) (omega arith)

pub returns : goal.returns
returns c = let t = c.args.t.now in c.both_zero-halves.ensures ∙ halves_all t (length t / 2) (length t / 2 + length t / 2) (omega arith) (omega arith)
