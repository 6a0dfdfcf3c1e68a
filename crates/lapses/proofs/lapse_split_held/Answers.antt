use mathlib.Core.Path.{sym}
use Rattle.lapses.proofs.Lapses.{no_target, no_reshape_lem, a_merge, lapsed}
use Rattle.lapses.proofs.lapse_split_held.Goals as goal

pub returns-then-not-is_target : goal.returns-then-not-is_target
returns-then-not-is_target c = λ b h ok. no_target b ok _ _ _ (sym c.if-not-is_target.ensures) h c.refusal.ensures

pub returns-in_default : goal.returns-in_default
returns-in_default c = λ b h ok. no_reshape_lem b ok _ _ _ (sym c.if-not-is_target.ensures) (c.in_default.ensures.found b h ok) h c.refusal-in_default.ensures

pub returns-then-is_merge : goal.returns-then-is_merge
returns-then-is_merge c = λ b h ok.
    let f = c.in-Some.ensures.found b h ok in
    a_merge b ok _ _ _ (sym c.if-not-is_target.ensures) _ f.0 f.1 (sym (c.if-is_merge.ensures b h f.0)) h c.refusal-then-is_merge.ensures

pub returns : goal.returns
returns c = λ b h ok.
    let f = c.in-Some.ensures.found b h ok in
    let r = c.release_cohort-n.ensures b h ok f.0 f.1 in
    lapsed b ok _ _ _ (sym c.if-not-is_target.ensures) _ f.0 f.1 (sym (c.if-is_merge.ensures b h f.0)) _ r.0 r.1 c.done.ensures
