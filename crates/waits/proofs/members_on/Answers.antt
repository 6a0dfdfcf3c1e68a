use mathlib.Core.Path.{sym}
use native.Mathlib.Omega.{arith}
use Rattle.board.proofs.Keyed.{committees_rise}
use Rattle.board.proofs.Moves.{members_at_lem, members_none}
use Rattle.waits.proofs.Counted.{mustered, none_mustered}
use Rattle.waits.proofs.members_on.Goals as goal

pub returns-in-None : goal.returns-in-None
returns-in-None c = (omega arith, omega arith, λ b h ok. none_mustered _ b (members_none b _ (c.in-None.ensures.found b h ok)))

pub returns-in-Some : goal.returns-in-Some
returns-in-Some c =
    let e = c.members_at.ensures in (
      e.0,
      e.1,
      λ b h ok.
          let f = c.in-Some.ensures.found b h ok in
          let t = e.2 b h ok f.0 in
          mustered _ b _ (sym (members_at_lem b _ _ (committees_rise b ok) f.0 f.1)) _ t.0 t.1,
    )
