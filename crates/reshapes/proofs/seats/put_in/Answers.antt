use mathlib.Core.Path.{◌∙◌}
use Rattle.reshapes.specs.Changes.{seat_entry}
use Rattle.reshapes.proofs.OfSeats.{seat_put}
use Rattle.reshapes.proofs.seats.put_in.Goals as goal

pub returns : goal.returns
returns c = λ xs e l h. seat_put xs _ e l c.args.k h (seat_entry c.args.q) _ (c.copy_from_slice.ensures.after ∙ c.row.ensures)
