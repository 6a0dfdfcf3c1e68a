use mathlib.Core.Path.{◌∙◌}
use native.Mathlib.Omega.{arith}
use Rattle.gathering.specs.Gathered.{Staying}
use Rattle.gathering.proofs.Gathers.{none_gathered, all_gathered}
use Rattle.gathering.proofs.gather_staying.Goals as goal

pub returns-in_default : goal.returns-in_default
returns-in_default c = (omega arith, c.requires.1, λ b h ok. none_gathered Staying _ b (c.in_default.ensures.found b h ok))

pub returns : goal.returns
returns c =
    let e = c.gather_staying_at.ensures in (
      e.0,
      e.1,
      λ b h ok.
          let f = c.in-Some.ensures.found b h ok in
          let l = f.0 in
          e.2 b h ok l ∙ all_gathered Staying _ b ok _ l (f.1),
    )
