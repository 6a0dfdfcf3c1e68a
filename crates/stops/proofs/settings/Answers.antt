use Rattle.std.specs.Prelude.{Ok}
use mathlib.Core.Path.{◌≡◌, refl, ap, sym, ◌∙◌}
use mathlib.Core.Bool.{true}
use native.Mathlib.Omega.{arith}
use lib.ListN.{get_or}
use borrow.Author.Tests.{not-true, not-false}
use Rattle.unpacking.proofs.Bytes.{total}
use Rattle.stops.specs.Stop.{setting_tests}
use Rattle.stops.proofs.Heads.{test_missing, test_fails, test_passes, tests_done, seven_tests}
use Rattle.stops.proofs.settings.Goals as goal

pub loop-i-init : goal.loop-i-init
loop-i-init c = λ ws h. refl

pub returns-then-bytes-i : goal.returns-then-bytes-i
returns-then-bytes-i c = λ ws h.
    sym (test_missing setting_tests c.loop-i.i ws (omega (arith, seven_tests)) (omega (arith, total h))) ∙ c.loop-i.invariant ws h

pub returns-then-not-setting_ok : goal.returns-then-not-setting_ok
returns-then-not-setting_ok c = λ ws h.
    let e = ap (get_or setting_tests c.loop-i.i (λ _. true)) (sym (c.word.ensures ws h)) ∙ sym c.setting_ok.ensures ∙ not-true _ c.if-not-setting_ok.true-raw in
    sym (test_fails setting_tests c.loop-i.i ws (omega (arith, seven_tests)) (omega (arith, total h)) e) ∙ c.loop-i.invariant ws h

pub loop-i-preserved : goal.loop-i-preserved
loop-i-preserved c = λ ws h.
    let e = ap (get_or setting_tests c.loop-i.i (λ _. true)) (sym (c.word.ensures ws h)) ∙ sym c.setting_ok.ensures ∙ not-false _ c.if-not-setting_ok.false-raw in
    sym (test_passes setting_tests c.loop-i.i ws (omega (arith, seven_tests)) (omega (arith, total h)) e) ∙ c.loop-i.invariant ws h

pub returns : goal.returns
returns c = λ ws h.
    let e : 7 ≡ c.loop-i.i = omega arith in
    ap Ok e ∙ sym (tests_done setting_tests c.loop-i.i ws (omega (arith, seven_tests))) ∙ c.loop-i.invariant ws h
