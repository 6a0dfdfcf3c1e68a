-- Where the reading of a snapshot stops: at the first word of the first setting, count or row that is not good.
-- A reading is `Ok a` where all is good up to a, and `Err a` where what begins at a is not.
use Rattle.std.specs.Prelude.{ℕ, zero, suc, ◌+◌, ◌*◌, ◌/◌, ◌%◌, Bool, true, false, cond, List, [], ◌∷◌, eqb, leb, ltb, length, get_or, take, drop, Option, None, Some, Result, Ok, Err}
use Rattle.rules.specs.Lists.{◌and◌, ◌or◌, equal}
use Rattle.rules.specs.Board.{last_epoch, most_machines, most_committees, most_bounds, most_rotations, most_reshapes}
use Rattle.rules.specs.WellFormed.{within}
use Rattle.rules.specs.Snapshot.{Reader, read_machine, read_committee, read_boundary, read_rotation, read_reshape, read_words}
use Rattle.row_tests.specs.declared.RowKind.{RowKind}
use Rattle.row_tests.specs.declared.RowKind.TheVariants.{Machines, Committees, Boundaries, Rotations, Reshapes}
use Rattle.word_tests.specs.Tests.{rises}
use Rattle.row_tests.specs.Rows.{in_pairs}
use Rattle.unpacking.specs.Unpacked.{RowOf, full_row, snap_row}
use Rattle.reading.specs.Stream.{good_of}

-- ---- rows

abbrev pub read_of : (k : RowKind) → Reader (RowOf k)
read_of Machines = read_machine
read_of Committees = read_committee
read_of Boundaries = read_boundary
read_of Rotations = read_rotation
read_of Reshapes = read_reshape

-- the row that is read at words ws
abbrev pub row_at : (k : RowKind) → List ℕ → RowOf k
row_at k ws = (read_of k ws).0

-- it is good, the words are its own, and it is below the next unless it is the last
unfoldable pub row_good : (k : RowKind) → Bool → RowOf k → List ℕ → Bool
row_good k last x ws =
    good_of k x
    and (equal (snap_row k x) (take (length (snap_row k x)) ws) and (last or rises (in_pairs k) (full_row k x) (drop (length (snap_row k x)) ws)))

-- where the good row at a place ends, if there is one
unfoldable pub row_end : RowKind → Bool → List ℕ → ℕ → Option ℕ
row_end k last ws at = cond (row_good k last (row_at k (drop at ws)) (drop at ws)) (Some (at + length (snap_row k (row_at k (drop at ws))))) None

-- ---- sections

-- the rows after the one at a, if it is good
abbrev pub from_row : Option ℕ → ℕ → (ℕ → Result ℕ ℕ) → Result ℕ ℕ
from_row None a others = Err a
from_row (Some e) a others = others e

-- n rows from a on
unfoldable pub rows_reading : RowKind → List ℕ → ℕ → ℕ → Result ℕ ℕ
rows_reading k ws zero a = Ok a
rows_reading k ws (suc n) a = from_row (row_end k (eqb (suc n) 1) ws a) a (rows_reading k ws n)

-- a count within its limit, and as many rows
unfoldable pub section_reading : RowKind → ℕ → List ℕ → ℕ → Result ℕ ℕ
section_reading k cap ws at = cond (ltb at (length ws) and leb (get_or ws at 0) cap) (rows_reading k ws (get_or ws at 0) (at + 1)) (Err at)

-- ---- the settings

-- what each of the first words must be: their count, and six settings in their ranges
unfoldable pub setting_tests : List (ℕ → Bool)
setting_tests =
    (λ n. eqb n 6) ∷ (λ n. leb n last_epoch) ∷ (λ n. within 4 32 n) ∷ (λ n. leb n 1000000) ∷ (λ n. leb n 1000000) ∷ (λ n. within 1 1000000 n) ∷ (λ n. leb n 48) ∷ []

unfoldable pub tests_reading : List (ℕ → Bool) → ℕ → List ℕ → Result ℕ ℕ
tests_reading [] i ws = Ok i
tests_reading (f ∷ fs) i [] = Err i
tests_reading (f ∷ fs) i (n ∷ ws) = cond (f n) (tests_reading fs (i + 1) ws) (Err i)

-- ---- the whole

-- what is read next, unless reading has stopped
unfoldable pub go_on : Result ℕ ℕ → (ℕ → Result ℕ ℕ) → Result ℕ ℕ
go_on (Ok a) next = next a
go_on (Err a) next = Err a

-- good as far as a, and that is the end or it is not
unfoldable pub ended_at : Bool → ℕ → Result ℕ ℕ
ended_at true a = Ok a
ended_at false a = Err a

unfoldable pub words_reading : List ℕ → Result ℕ ℕ
words_reading ws =
    let m = tests_reading setting_tests 0 ws in
    let c = go_on m (section_reading Machines most_machines ws) in
    let b = go_on c (section_reading Committees most_committees ws) in
    let o = go_on b (section_reading Boundaries most_bounds ws) in
    let r = go_on o (section_reading Rotations most_rotations ws) in
    let e = go_on r (section_reading Reshapes most_reshapes ws) in
    go_on e (λ a. ended_at (eqb a (length ws)) a)

-- the whole words of bytes
unfoldable pub whole_words : List ℕ → List ℕ
whole_words bytes = let whole = take (length bytes / 8 * 8) bytes in read_words (length whole / 8) whole

-- bytes after the last whole word are not good
unfoldable pub reading_of : List ℕ → Result ℕ ℕ
reading_of bytes = go_on (words_reading (whole_words bytes)) (λ a. ended_at (eqb (length bytes % 8) 0) a)

abbrev pub is_ended : Result ℕ ℕ → Bool
is_ended (Ok a) = true
is_ended (Err a) = false

abbrev pub place_in : Result ℕ ℕ → ℕ
place_in (Ok a) = a
place_in (Err a) = a
