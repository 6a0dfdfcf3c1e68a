use mathlib.Core.Path.{refl, ◌∙◌}
use native.Mathlib.Omega.{arith}
use Rattle.committee.proofs.Aborts.{none_left, one_left, all_left}
use Rattle.committee.proofs.abort.abort_rotations.Goals as goal

pub loop-i-init : goal.loop-i-init
loop-i-init c = (omega arith, c.rows-n.ensures.0, refl, λ b h ok. (c.rows-n.ensures.1 b h, none_left _ b _ h ok))

pub take_off_entrant-requires : goal.take_off_entrant-requires
take_off_entrant-requires c = (c.loop-i.invariant.2 ∙ c.requires, omega arith)

pub loop-i-preserved : goal.loop-i-preserved
loop-i-preserved c = let a = c.loop-i in (
  omega arith,
  a.invariant.1,
  c.take_off_entrant.auto.board ∙ a.invariant.2,
  λ b h ok.
      let t = a.invariant.3 b h ok in
      (t.0, one_left _ b _ _ t.1 (omega (arith, t.0)) _ c.take_off_entrant.ensures),
)

pub drop_of-requires : goal.drop_of-requires
drop_of-requires c = c.loop-i.invariant.2 ∙ c.requires

pub returns : goal.returns
returns c = λ b h ok. let t = c.loop-i.invariant.3 b h ok in all_left _ b _ _ t.1 (omega (arith, t.0)) _ c.drop_of.ensures
