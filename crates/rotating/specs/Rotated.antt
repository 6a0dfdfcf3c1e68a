-- What a step reads through a reader: the draws that are not yet read, and the reader moved on by those that it used.
use Rattle.std.specs.Prelude.{ℕ, ◌+◌, List, drop}
use Rattle.types.specs.declared.Outcome.{Outcome}
use Rattle.draw_readers.specs.declared.DrawReader.{DrawReader}

abbrev pub unread : DrawReader → List ℕ
unread r = drop r.at r.draws.now

abbrev pub draws_used_by : Outcome → ℕ
draws_used_by o = o.draws_used

abbrev pub advanced : DrawReader → ℕ → DrawReader
advanced r used = record { draws = r.draws; at = r.at + used }
