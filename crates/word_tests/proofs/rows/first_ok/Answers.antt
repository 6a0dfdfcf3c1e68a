use mathlib.Core.Path.{ap, ◌∙◌}
use mathlib.Core.Bool.{Bool}
use native.Mathlib.Omega.{arith}
use Rattle.word_tests.specs.Tests.{rises}
use Rattle.word_tests.proofs.Turns.{first_short, first_bad, first_last, first_next}
use Rattle.word_tests.proofs.rows.first_ok.Goals as goal

pub returns-then-t-WIDTH-clause-told : goal.returns-then-t-WIDTH-clause-told
returns-then-t-WIDTH-clause-told g c = first_short _ _ _ _ c.WIDTH.ensures _ c.args.t.now c.if-t-WIDTH.true

pub returns-then-not-passes-clause-told : goal.returns-then-not-passes-clause-told
returns-then-not-passes-clause-told g c =
    let cut = c.split_at.ensures in
    first_bad _ _ _ _ c.WIDTH-2.ensures _ c.args.t.now _ _ _ (omega (arith, c.WIDTH.ensures, c.WIDTH-2.ensures)) cut.front cut.back c.passes.ensures.told c.if-not-passes.true

pub returns-then-n-eq1-clause-told : goal.returns-then-n-eq1-clause-told
returns-then-n-eq1-clause-told g c =
    let cut = c.split_at.ensures in
    first_last _ _ _ _ c.WIDTH-2.ensures _ c.args.t.now _ _ _ (omega (arith, c.WIDTH.ensures, c.WIDTH-2.ensures)) cut.front cut.back c.passes.ensures.told c.if-not-passes.false c.if-n-eq1.true

pub returns-clause-told : goal.returns-clause-told
returns-clause-told g c =
    let cut = c.split_at.ensures in
    let below = c.rises.ensures ∙ ap (λ (p : Bool). rises p c.args.t.now c.split_at.result.1.now) c.PAIRED.ensures in
    first_next _ _ _ _ c.WIDTH-2.ensures _ c.args.t.now _ _ _ (omega (arith, c.WIDTH.ensures, c.WIDTH-2.ensures)) cut.front cut.back c.passes.ensures.told _ c.if-not-passes.false c.if-n-eq1.false below
