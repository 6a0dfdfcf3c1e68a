-- What an answer's number means.
use Rattle.std.specs.Prelude.{ℕ, List, [], ◌∷◌, get_or}
use Rattle.phrases.specs.Texts.{bytes}

-- document 01's table, from 0 on
unfoldable pub answers : List (List ℕ)
answers =
    bytes "done"
    ∷ bytes "the board is not well-formed"
    ∷ bytes "tick at the last epoch"
    ∷ bytes "shard 0 or over 65535, a reshape's target over 32767, or a side over 1"
    ∷ bytes "the machine has no record"
    ∷ bytes "a boundary is missing"
    ∷ bytes "no such reshape, seat or side, no split to lapse, or a cohort's need is unmet"
    ∷ bytes "another reshape names a shard of the family, or its committees do not fit"
    ∷ bytes "the victim is not seated there, or is already in a rotation there"
    ∷ bytes "the next needed draw is missing"
    ∷ bytes "the next draw is larger than allowed"
    ∷ bytes "a limit would be passed, or an id would stand twice in a committee"
    ∷ bytes "a cohort is drawn from fewer than S pooled"
    ∷ []

unfoldable pub answer_text : ℕ → List ℕ
answer_text n = get_or answers n (bytes "the snapshot is not a well-formed board's")
