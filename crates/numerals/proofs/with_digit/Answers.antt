use Prim.Native.Nat.{◌+◌, ◌-◌, ◌*◌}
use mathlib.Core.Path.{sym, ◌∙◌}
use Rattle.numerals.proofs.Decimals.{word_or_none, no_digit, a_digit, none_fits}
use Rattle.numerals.proofs.with_digit.Goals as goal

pub returns-then-not-is_ascii_digit : goal.returns-then-not-is_ascii_digit
returns-then-not-is_ascii_digit c = no_digit c.args.v c.args.b (sym c.if-not-is_ascii_digit.ensures.value)

pub returns-in_err-checked_mul : goal.returns-in_err-checked_mul
returns-in_err-checked_mul c = c.from_residual.ensures ∙ none_fits c.args.v c.args.b (sym c.if-not-is_ascii_digit.ensures.value) c.in_err-checked_mul.ensures

pub returns : goal.returns
returns c =
    let sum = rw (c.in_ok-checked_mul.ensures.1, c.from.ensures) at c.checked_add.ensures in
    word_or_none c.checked_add.result (c.args.v * 10 + (c.args.b - 48)) sum ∙ sym (a_digit c.args.v c.args.b (sym c.if-not-is_ascii_digit.ensures.value))
