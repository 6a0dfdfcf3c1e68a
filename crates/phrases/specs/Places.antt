-- Where a machine is, in words.
use Rattle.std.specs.Prelude.{ℕ, ◌+◌, ◌%◌, ◌^◌, Bool, cond, List, [], ◌++◌}
use Rattle.types.specs.declared.Place.{Place}
use Rattle.types.specs.declared.Place.TheVariants.{Pooled, Seated, Observing, Short, Other}
use Rattle.phrases.specs.Texts.{bytes, named, column, either}

unfoldable pub place_text : Place → List ℕ
place_text Pooled = bytes "pooled"
place_text (Seated s r e) = named "seated on shard " s.0 ++ either r ", ready" ", waiting" ++ named ", stamp " e.0
place_text (Observing s e) = named "watching shard " s.0 ++ named ", stamp " e.0
place_text Short = bytes "short of stake"
place_text (Other m) = named "other, mark " m

-- when the wait is over; on a well-formed board the sum is far below 2 ^ 64
abbrev pub deadline : ℕ → ℕ → ℕ
deadline stamp wait = (stamp + wait) % 2 ^ 64

unfoldable pub seated_text : ℕ → Bool → ℕ → List ℕ
seated_text wait ready stamp =
    cond ready (column "seated    ready    stamp " 10 stamp) (column "seated    waiting  stamp " 10 stamp ++ column "  deadline " 10 (deadline stamp wait))

-- the place of a member of a committee, with the deadline of one that waits; nothing of a machine that is elsewhere
unfoldable pub member_text : ℕ → Place → List ℕ
member_text wait Pooled = []
member_text wait (Seated s r e) = seated_text wait r e.0
member_text wait (Observing s e) = column "watching           stamp " 10 e.0
member_text wait Short = []
member_text wait (Other m) = []
