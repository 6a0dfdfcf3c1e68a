use mathlib.Core.Path.{sym, ◌∙◌}
use Rattle.board.proofs.Fitting.{held_as}
use Rattle.board.proofs.Moves.{join_at}
use Rattle.joining.proofs.Joins.{stands_row, joins_room}
use Rattle.arriving.proofs.join_near.Goals as goal

pub push_member-requires : goal.push_member-requires
push_member-requires c = (c.requires, c.stands_at.ensures.0 c.if-stands_at.true)

pub returns-then-stands_at : goal.returns-then-stands_at
returns-then-stands_at c =
    λ b h r m.
    let t = stands_row b _ _ (sym (c.stands_at.ensures.1 b h) ∙ c.if-stands_at.true) in
    held_as _ _ _ (sym (join_at b _ _ r t.0 t.1 _)) (c.push_member.ensures b h t.0 (joins_room b _ _ _ r t.0 t.1 m))
