use mathlib.Core.Path.{refl}
use Rattle.std.proofs.lemmas.Result.{err_from_is_err_and}
use Rattle.admissions.proofs.Admitting.{merge_refused, merge_passed}
use Rattle.admissions.proofs.admit_merge.Goals as goal

pub returns-in_err-admission_faults : goal.returns-in_err-admission_faults
returns-in_err-admission_faults c =
    let p = err_from_is_err_and c.from_residual.result c.from_residual.ensures.1 in
    rw (p.1, p.2) (λ b h ok. merge_refused _ _ b _ _ _ (c.in_err-admission_faults.ensures.tells b h ok) h refl)

pub returns : goal.returns
returns c = λ b h ok.
    let g = c.in_ok-admission_faults.ensures.tells b h ok in
    merge_passed _ _ b _ _ g (c.merge_granted.ensures b h ok g.free)
