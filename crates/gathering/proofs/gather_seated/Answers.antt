use mathlib.Core.Path.{◌∙◌}
use native.Mathlib.Omega.{arith}
use Rattle.gathering.specs.Gathered.{Ready, Waiting}
use Rattle.gathering.proofs.Gathers.{none_gathered, all_gathered}
use Rattle.gathering.proofs.gather_seated.Goals as goal

pub returns-in_default : goal.returns-in_default
returns-in_default c = (
  omega arith,
  c.requires.1,
  c.requires.2,
  λ b h ok.
      let n = c.in_default.ensures.found b h ok in
      (none_gathered Ready _ b n, none_gathered Waiting _ b n),
)

pub returns : goal.returns
returns c =
    let e = c.gather_seated_at.ensures in (
      e.0,
      e.1,
      e.2,
      λ b h ok.
          let f = c.in-Some.ensures.found b h ok in
          let l = f.0 in
          let k = f.1 in
          ((e.3 b h ok l).0 ∙ all_gathered Ready _ b ok _ l k, (e.3 b h ok l).1 ∙ all_gathered Waiting _ b ok _ l k),
    )
