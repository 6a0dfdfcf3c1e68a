use Prim.Native.Nat.{◌+◌, ◌*◌}
use mathlib.Core.Path.{◌≡◌, ap, ◌∙◌}
use mathlib.Core.List.{◌∷◌, []}
use native.Mathlib.Omega.{arith}
use lib.ListN.{length, get_or, length-drop}
use Rattle.bytes_words.proofs.Lays.{laid_length, laid_turn, laid_end}
use Rattle.bytes_words.proofs.put_words.Goals as goal

pub loop-i-preserved : goal.loop-i-preserved
loop-i-preserved c =
    let ws = c.args.ws.now in
    let i = c.loop-i.i in
    let at = c.args.at + i * 8 in
    let e : c.args.at + 8 * i ≡ at = omega arith in
    let n : c.args.at + (i + 1) * 8 ≡ at + 8 = omega arith in
    let l = length-drop i ws in
    let inv = c.loop-i.invariant in
    let p = rw e at c.put_word.ensures in (
      inv.0,
      ap length p ∙ laid_length (get_or ws i 0 ∷ []) at c.loop-i.out (omega arith) ∙ inv.1,
      rw (n, p) (laid_turn ws c.args.out.now c.loop-i.out c.args.at at i inv.2 (omega arith) (omega arith)),
    )

pub returns : goal.returns
returns c = (omega arith, laid_end c.args.ws.now c.args.out.now c.loop-i.out c.args.at _ c.loop-i.i c.loop-i.invariant.2 (omega arith))
