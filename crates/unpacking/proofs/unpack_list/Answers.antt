use Prim.Native.Nat.{ℕ, ◌+◌, ◌-◌, ◌*◌, ◌≤◌}
use mathlib.Core.Path.{ap, sym, ◌∙◌}
use mathlib.Core.List.{◌++◌}
use native.Mathlib.Omega.{arith}
use native.Mathlib.Nat.{mul-le-mul_right}
use lib.Seq.{length-take-le}
use lib.ListN.{length, replicate}
use Rattle.unpacking.proofs.Parts.{list_read, list_none, room_cleared}
use Rattle.unpacking.proofs.unpack_list.Goals as goal

pub returns-then-cap-n : goal.returns-then-cap-n
returns-then-cap-n c = λ ws h. let a = c.args in list_none a.w a.cap c.word-n.result a.at ws _ (c.word-n.ensures ws h) (omega arith)

pub overflow_mul-end : goal.overflow_mul-end
overflow_mul-end c = omega (arith, mul-le-mul_right c.args.w c.if-cap-n.false, c.requires)

pub overflow_add-end : goal.overflow_add-end
overflow_add-end c = omega (arith, mul-le-mul_right c.args.w c.if-cap-n.false, c.requires)

pub slice_bounds-wipe-start : goal.slice_bounds-wipe-start
slice_bounds-wipe-start c = omega (arith, mul-le-mul_right c.args.w c.if-cap-n.false, c.requires)

pub slice_bounds-unpack_words-end : goal.slice_bounds-unpack_words-end
slice_bounds-unpack_words-end c = omega (arith, mul-le-mul_right c.args.w c.if-cap-n.false, c.requires, c.out-1.given.1)

pub slice_bounds-unpack_words-end-2 : goal.slice_bounds-unpack_words-end-2
slice_bounds-unpack_words-end-2 c = sym (length-take-le _ _ (omega (arith, mul-le-mul_right c.args.w c.if-cap-n.false, c.requires, c.out-1.given.1)))

pub returns : goal.returns
returns c = λ ws h.
    let a = c.args in
    let n = c.word-n.result in
    let fits : 1 + n * a.w ≤ length a.out.now = omega (arith, mul-le-mul_right a.w c.if-cap-n.false, c.requires) in
    let t = c.unpack_words.new.out in
    let z = ap (λ u. t ++ u) (room_cleared (1 + n * a.w) a.out.now _ fits c.wipe.ensures) ∙ ap (λ (k : ℕ). t ++ replicate (k - (1 + n * a.w)) 0) c.requires in
    list_read a.w a.cap n a.at c.unpack_words.result ws _ t _ (c.word-n.ensures ws h) (omega arith) (omega (arith, c.out-1.given.1)) z c.out-2-1.given.0 (c.unpack_words.ensures ws h)
