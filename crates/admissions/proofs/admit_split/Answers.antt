use mathlib.Core.Path.{refl, sym, ◌∙◌}
use Rattle.std.proofs.lemmas.Result.{err_from_is_err_and}
use Rattle.rules.proofs.Tests.{le_of, lt_of_no}
use Rattle.admissions.proofs.Admitting.{split_refused, split_full, split_admitted}
use Rattle.admissions.proofs.admit_split.Goals as goal

pub returns-in_err-admission_faults : goal.returns-in_err-admission_faults
returns-in_err-admission_faults c =
    let p = err_from_is_err_and c.from_residual.result c.from_residual.ensures.1 in
    rw (p.1, p.2) (λ b h ok. split_refused _ b _ _ _ (c.in_err-admission_faults.ensures.tells b h ok) h refl)

pub returns-then-is_full : goal.returns-then-is_full
returns-then-is_full c = λ b h ok. split_full _ b _ _ (c.in_ok-admission_faults.ensures.tells b h ok) (le_of _ _ (sym (c.is_full.ensures b h) ∙ c.if-is_full.true)) h refl

pub returns : goal.returns
returns c = λ b h ok.
    let g = c.in_ok-admission_faults.ensures.tells b h ok in
    let l = lt_of_no _ _ (sym (c.is_full.ensures b h) ∙ c.if-is_full.false) in
    split_admitted _ b _ _ g ok l (c.open_reshape.ensures.1 b h ok l g.free).0 c.done.ensures
