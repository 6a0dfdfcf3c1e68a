use Rattle.reading.proofs.Boards.{no_machines, no_committees, no_bounds, no_rotations, sections_told}
use Rattle.reading.proofs.sections_end.Goals as goal

pub returns-in_err-m : goal.returns-in_err-m
returns-in_err-m c = λ ws h. rw c.from_residual.ensures (no_machines ws _ (c.in_err-m.ensures ws h))

pub returns-in_err-c : goal.returns-in_err-c
returns-in_err-c c = λ ws h. rw c.from_residual-in_err-c.ensures (no_committees ws _ _ (c.in_ok-m.ensures ws h) (c.in_err-c.ensures ws h))

pub returns-in_err-b : goal.returns-in_err-b
returns-in_err-b c = λ ws h. rw c.from_residual-in_err-b.ensures (no_bounds ws _ _ (c.in_ok-m.ensures ws h) _ (c.in_ok-c.ensures ws h) (c.in_err-b.ensures ws h))

pub returns-in_err-o : goal.returns-in_err-o
returns-in_err-o c = λ ws h. rw c.from_residual-in_err-o.ensures (no_rotations ws _ _ (c.in_ok-m.ensures ws h) _ (c.in_ok-c.ensures ws h) _ (c.in_ok-b.ensures ws h) (c.in_err-o.ensures ws h))

pub returns : goal.returns
returns c = λ ws h.
    sections_told ws _ _ (c.in_ok-m.ensures ws h) _ (c.in_ok-c.ensures ws h) _ (c.in_ok-b.ensures ws h) _ (c.in_ok-o.ensures ws h) _ (c.section_end-4.ensures ws h)
