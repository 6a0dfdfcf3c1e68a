use Prim.Native.Nat.{◌+◌, ◌-◌}
use mathlib.Core.Path.{◌≡◌, ◌∙◌}
use native.Mathlib.Omega.{arith}
use lib.Seq.{drop-drop}
use Rattle.bytes_words.proofs.Digits.{le_digits}
use Rattle.bytes_words.proofs.Lays.{laid_one}
use Rattle.bytes_words.proofs.put_word.Goals as goal

pub returns : goal.returns
returns c =
    let a = c.args in
    let e : a.at + 8 - a.at ≡ 8 = omega arith in
    let d = c.copy_from_slice.ensures.after ∙ c.to_le_bytes.ensures ∙ le_digits a.w in
    rw (d, e, drop-drop 8 a.at a.out.now) (laid_one a.w a.at a.out.now)
