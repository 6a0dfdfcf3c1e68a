use native.Mathlib.Omega.{arith}
use Rattle.board.proofs.OfCommittees.{members_room}
use Rattle.folding.proofs.most_members.Goals as goal

pub returns : goal.returns
returns c = (
  omega (arith, c.rows_within-m.ensures.0, c.rows_within-n.ensures.0),
  λ b h li lj.
      let x = c.member_count.ensures b h li in
      let y = c.member_count-2.ensures b h lj in
      let p = c.rows_within-m.ensures.1 (omega (arith, x, members_room _ b h _ li)) in
      let q = c.rows_within-n.ensures.1 (omega (arith, y, members_room _ b h _ lj)) in
      (omega (arith, x, p), omega (arith, y, q)),
)
