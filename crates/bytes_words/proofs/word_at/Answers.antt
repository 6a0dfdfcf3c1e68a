use Prim.Native.Nat.{ℕ, ◌+◌, ◌-◌}
use mathlib.Core.Path.{◌≡◌, ap, ◌∙◌}
use native.Mathlib.Omega.{arith}
use lib.ListN.{length, take, drop}
use Rattle.rules.specs.Snapshot.{value_of_bytes}
use Rattle.bytes_words.proofs.Digits.{le_value}
use Rattle.bytes_words.proofs.word_at.Goals as goal

pub returns : goal.returns
returns c =
    let a = c.args in
    let p = rw c.unwrap-eight.ensures at c.try_into.ensures.1 in
    let e : a.at + 8 - a.at ≡ 8 = omega arith in
    c.from_le_bytes.ensures ∙ le_value _ (ap length p.same ∙ p.long) ∙ ap value_of_bytes (p.same ∙ ap (λ (n : ℕ). take n (drop a.at a.bytes.now)) e)
