use mathlib.Core.Path.{ap, ◌∙◌}
use Rattle.stops.specs.Stop.{place_in}
use Rattle.stops.proofs.stopped_at.Goals as goal

pub returns : goal.returns
returns c = c.place.ensures ∙ ap place_in c.read_through.ensures
