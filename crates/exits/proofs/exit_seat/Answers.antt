use mathlib.Core.Path.{sym, ◌∙◌}
use Rattle.exits.proofs.Leaves.{party_row, turn_party, party_goes, turn_carved, turn_draws, left_rotations}
use Rattle.exits.proofs.exit_seat.Goals as goal

pub returns-in-Some : goal.returns-in-Some
returns-in-Some c = λ b h g u.
    let e = c.in-Some.ensures.found b h in
    record {
      board = _;
      read = c.requires.1;
      turn = turn_party _ _ b _ e _;
      holds = party_goes _ _ b _ e _ (c.close.ensures _ (c.leave_seat.ensures b h g) (rw left_rotations (party_row _ _ b _ e)));
    }

pub returns-then-is_carved : goal.returns-then-is_carved
returns-then-is_carved c = λ b h g u.
    let e = c.in_default.ensures.found b h in
    record {
      board = _;
      read = c.requires.1;
      turn = turn_carved _ _ b e _ (sym (c.is_carved.ensures b h g) ∙ c.if-is_carved.true);
      holds = c.leave_seat-then-is_carved.ensures b h g;
    }

pub returns : goal.returns
returns c = λ b h g u.
    let e = c.in_default.ensures.found b h in
    rw (turn_draws _ _ b e _ (sym (c.is_carved.ensures b h g) ∙ c.if-is_carved.false)) (c.refill.ensures b h g u)
