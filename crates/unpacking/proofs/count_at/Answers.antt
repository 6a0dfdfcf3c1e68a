use mathlib.Core.Path.{◌∙◌}
use mathlib.Core.Logic.{inl, inr}
use native.Mathlib.Omega.{arith}
use Rattle.unpacking.proofs.Bytes.{total, word_is}
use Rattle.unpacking.proofs.count_at.Goals as goal

pub returns-then-bytes-at-clause-read : goal.returns-then-bytes-at-clause-read
returns-then-bytes-at-clause-read c = λ ws h. record { yes = tt; no = inl (omega (arith, total h)) }

pub returns-then-cap-n-clause-read : goal.returns-then-cap-n-clause-read
returns-then-cap-n-clause-read c = λ ws h. let e = c.word_at-n.ensures ∙ word_is h c.args.at (omega (arith, total h)) in record { yes = tt; no = inr (omega (arith, e)) }

pub returns-clause-read : goal.returns-clause-read
returns-clause-read c = λ ws h.
    let e = c.word_at-n.ensures ∙ word_is h c.args.at (omega (arith, total h)) in
    record { yes = (omega (arith, total h), omega arith, e); no = tt }
