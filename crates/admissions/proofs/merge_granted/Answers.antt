use mathlib.Core.Path.{refl}
use Rattle.std.proofs.lemmas.Result.{err_from_is_err_and}
use Rattle.admissions.proofs.Admitting.{merge_fails, merge_drew}
use borrow.Author.Rules.{rules}
use Rattle.admissions.proofs.merge_granted.Goals as goal

pub admit_kept-requires : goal.admit_kept-requires
admit_kept-requires c = let p = c.requires in (p.0, p.1, c.in_ok-kept.ensures.within.0, search rules)

pub returns-in_err-kept : goal.returns-in_err-kept
returns-in_err-kept c =
    let p = err_from_is_err_and c.from_residual.result c.from_residual.ensures.1 in
    rw (p.1, p.2) (λ b h ok free. merge_fails _ _ b _ _ _ (c.in_err-kept.ensures.tells b h ok) h refl)

pub returns : goal.returns
returns c = λ b h ok free.
    merge_drew _ _ b _ _ c.draw_merge_keepers.new.out c.in_ok-kept.kept.from_left c.in_ok-kept.kept.from_right _ (c.in_ok-kept.ensures.tells b h ok) (c.admit_kept.ensures b h ok free _ c.in_ok-kept.ensures.within.1)
