use mathlib.Core.Path.{◌∙◌, ap}
use Rattle.rules.specs.Table.{stands}
use Rattle.families.proofs.Refusing.{merge_fits, split_fits_lem}
use Rattle.families.proofs.committees_fit.Goals as goal

pub returns-then-merging : goal.returns-then-merging
returns-then-merging c = λ b h ok.
    merge_fits _ b _ _ _ _ (c.has_committee-parent.ensures b h ok) (c.has_committee-left.ensures b h ok ∙ ap (λ s. stands s b.committees) c.left.ensures) (c.has_committee-right.ensures b h ok ∙ ap (λ s. stands s b.committees) c.right.ensures) c.if-merging.true

pub returns : goal.returns
returns c = λ b h ok.
    split_fits_lem _ b _ _ _ _ (c.has_committee-parent.ensures b h ok) (c.has_committee-left.ensures b h ok ∙ ap (λ s. stands s b.committees) c.left.ensures) (c.has_committee-right.ensures b h ok ∙ ap (λ s. stands s b.committees) c.right.ensures) c.if-merging.false
