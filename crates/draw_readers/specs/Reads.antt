-- What a reader over lent draws gives: the rules' draw from what is not yet read, and the reader moved on by it.
use Rattle.std.specs.Prelude.{ℕ, ◌+◌, List, drop, Result, Ok, Err}
use Rattle.rules.specs.Draws.{Drawn, drew, missing, too_large, draw_index}
use Rattle.sampling.specs.declared.DrawError.{DrawError}
use Rattle.sampling.specs.declared.DrawError.TheVariants.{Missing, TooLarge}
use Rattle.draw_readers.specs.declared.DrawReader.{DrawReader}

-- one draw further; a refused draw is not read
abbrev pub moved_on : ℕ → Drawn ℕ → ℕ
moved_on at (drew j left) = at + 1
moved_on at missing = at
moved_on at too_large = at

-- the index that was drawn, or which refusal
abbrev pub index_of : Drawn ℕ → Result ℕ DrawError
index_of (drew j left) = Ok j
index_of missing = Err Missing
index_of too_large = Err TooLarge

-- the same with the position moved on beside the index
abbrev pub told : ℕ → Drawn ℕ → Result (ℕ × ℕ) DrawError
told at (drew j left) = Ok (j, at + 1)
told at missing = Err Missing
told at too_large = Err TooLarge

abbrev pub draw_at : List ℕ → ℕ → ℕ → Result (ℕ × ℕ) DrawError
draw_at draws at most = told at (draw_index most (drop at draws))

-- a reader's next draw
abbrev pub drawn_by : DrawReader → ℕ → Result ℕ DrawError
drawn_by r most = index_of (draw_index most (drop r.at r.draws.now))

-- the reader after it has the same list, at the new position
abbrev pub read_by : DrawReader → ℕ → DrawReader
read_by r most = record { draws = r.draws; at = moved_on r.at (draw_index most (drop r.at r.draws.now)) }
