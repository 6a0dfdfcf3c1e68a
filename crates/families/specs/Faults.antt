-- What the code tells of an admission's faults.
use Rattle.std.specs.Prelude.{◌≡◌, Result, MatchResult}
use Rattle.std.proofs.Math.Option.{none}
use Rattle.types.specs.Numbers.{Shard}
use Rattle.rules.specs.Table.{at}
use Rattle.rules.specs.Board.{Kind, Board}
use Rattle.rules.specs.Turns.{Turn, refused, checked}
use Rattle.rules.specs.Reshapes.{admission_faults}
use Rattle.types.specs.declared.Answer.{Answer}

pub record Grants (k : Kind) (t : Shard) (b : Board) : Type 0 where
  -- no reshape stands at the target
  pub free : at t b.reshapes ≡ none
  pub passes : (turn : Turn) → checked (admission_faults k t b) turn ≡ turn

abbrev pub TellsFaults : Kind → Shard → Board → Result Unit Answer → Type 0
TellsFaults k t b r = MatchResult r (λ _. Grants k t b) (λ a. (turn : Turn) → checked (admission_faults k t b) turn ≡ refused a)
