-- READING ENDS EXACTLY WHERE THE BYTES ARE A SNAPSHOT: the definition of where it stops tells the same as the first pass.
use Prim.Native.Nat.{ℕ, ◌*◌, ◌/◌, ◌%◌, ◌<◌}
use mathlib.Core.Path.{◌≡◌, refl, sym, ◌∙◌}
use mathlib.Core.List.{List, [], ◌∷◌}
use mathlib.Core.Bool.{Bool, true, false, ◌&&◌}
use native.Mathlib.Omega.{arith}
use borrow.Author.Tests.{eqb-true, eqb-false}
use lib.Dec.{eqb}
use lib.ListN.{length, get_or, take}
use lib.Seq.{take_all, length-take-le}
use Rattle.rules.specs.Board.{most_machines, most_committees, most_bounds, most_rotations, most_reshapes}
use Rattle.rules.specs.Lists.{◌and◌, ◌or◌, equal}
use Rattle.rules.specs.WellFormed.{good_place, good_machine}
use Rattle.rules.specs.Snapshot.{place_words, machine_words, word, place_of, read_machine, read_words}
use Rattle.row_tests.specs.declared.RowKind.TheVariants.{Machines, Committees, Boundaries, Rotations, Reshapes}
use Rattle.word_tests.specs.Tests.{all_pass, any_pass}
use Rattle.bytes_words.proofs.Gets.{reads_length}
use Rattle.unpacking.specs.AsWords.{AsWords}
use Rattle.reading.specs.Told.{TellsSnapshot}
use Rattle.reading.proofs.Bytes.{bytes_as}
use Rattle.reading.specs.Stream.{TellsHead, TellsSections}
use Rattle.reading.proofs.Boards.{pass_odd, pass_none, pass_tells}
use Rattle.std.specs.Prelude.{Result, Ok, Err}
use Rattle.stops.specs.Stop.{row_good, row_end, rows_reading, section_reading, setting_tests, tests_reading, go_on, ended_at, words_reading, whole_words, reading_of, is_ended, place_in}
use Rattle.stops.proofs.Sections.{end_of, after_machines, sections_tell}
use Rattle.stops.proofs.Heads.{tests_end, head_tells}

-- ---- the words

-- what is read from each section on, of what was read before it
abbrev pub ends : List ℕ → Result ℕ ℕ → Result ℕ ℕ
ends ws e = go_on e (λ a. ended_at (eqb a (length ws)) a)

abbrev pub from_reshapes : List ℕ → Result ℕ ℕ → Result ℕ ℕ
from_reshapes ws o = ends ws (go_on o (section_reading Reshapes most_reshapes ws))

abbrev pub from_rotations : List ℕ → Result ℕ ℕ → Result ℕ ℕ
from_rotations ws b = from_reshapes ws (go_on b (section_reading Rotations most_rotations ws))

abbrev pub from_bounds : List ℕ → Result ℕ ℕ → Result ℕ ℕ
from_bounds ws c = from_rotations ws (go_on c (section_reading Boundaries most_bounds ws))

abbrev pub from_committees : List ℕ → Result ℕ ℕ → Result ℕ ℕ
from_committees ws m = from_bounds ws (go_on m (section_reading Committees most_committees ws))

abbrev pub from_machines : List ℕ → Result ℕ ℕ → Result ℕ ℕ
from_machines ws s = from_committees ws (go_on s (section_reading Machines most_machines ws))

-- whether they go to the end
whole : ℕ → Result ℕ ℕ → Result ℕ ℕ
whole n r = go_on r (λ a. ended_at (eqb a n) a)

whole_ok : (n a : ℕ) → is_ended (whole n (Ok a)) ≡ eqb a n
unfolding whole go_on ended_at
whole_ok n a = go (eqb a n)
  where
    go : (c : Bool) → is_ended (ended_at c a) ≡ c
    go true = refl
    go false = refl

-- the sections after the settings
sections : List ℕ → Result ℕ ℕ
sections ws = after_machines ws (section_reading Machines most_machines ws 7)

words_are : (ws : List ℕ) → is_ended (words_reading ws) ≡ (is_ended (tests_reading setting_tests 0 ws) && is_ended (whole (length ws) (sections ws)))
unfolding words_reading sections whole go_on setting_tests
words_are ws = go (tests_reading setting_tests 0 ws) refl
  where
    go : (m : Result ℕ ℕ) → tests_reading setting_tests 0 ws ≡ m
        → is_ended (whole (length ws) (after_machines ws (go_on m (section_reading Machines most_machines ws)))) ≡ (is_ended m && is_ended (whole (length ws) (sections ws)))
    go (Ok a) e =
        let p = tests_end setting_tests 0 ws a e in
        let q : a ≡ 7 = omega (arith, p.0) in
        rw q refl
    go (Err a) e = refl

words_tell : (bs ws : List ℕ) → AsWords bs ws → TellsSnapshot bs (is_ended (words_reading ws))
unfolding sections whole go_on
words_tell bs ws h = rw (words_are ws) (go (tests_reading setting_tests 0 ws) (head_tells ws h.words) (sections ws) (sections_tell ws 7))
  where
    go : (m : Result ℕ ℕ) → TellsHead ws (is_ended m) → (s : Result ℕ ℕ) → TellsSections ws 7 (end_of s) → TellsSnapshot bs (is_ended m && is_ended (whole (length ws) s))
    go m t (Ok r) q = pass_tells bs ws h r q (is_ended m) (is_ended (whole (length ws) (Ok r))) t (whole_ok (length ws) r)
    go (Ok a) t (Err r) q = pass_none bs ws h q
    go (Err a) t (Err r) q = pass_none bs ws h q

-- ---- the bytes

-- no byte is left over, or some are
pub all_whole : (r : Result ℕ ℕ) → go_on r (λ a. ended_at true a) ≡ r
unfolding go_on ended_at
all_whole (Ok a) = refl
all_whole (Err a) = refl

pub some_left : (r : Result ℕ ℕ) → go_on r (λ a. ended_at false a) ≡ Err (place_in r)
unfolding go_on ended_at
some_left (Ok a) = refl
some_left (Err a) = refl

pub reading_tells : (bs : List ℕ) → ((i : ℕ) → get_or bs i 0 < 256) → TellsSnapshot bs (is_ended (reading_of bs))
unfolding reading_of whole_words
reading_tells bs v = go (eqb (length bs % 8) 0) refl
  where
    go : (c : Bool) → eqb (length bs % 8) 0 ≡ c → TellsSnapshot bs (is_ended (go_on (words_reading (whole_words bs)) (λ a. ended_at c a)))
    go false e = rw (some_left (words_reading (whole_words bs))) (pass_odd bs (eqb-false (length bs % 8) 0 e))
    go true e =
        let z = eqb-true (length bs % 8) 0 e in
        let t : take (length bs / 8 * 8) bs ≡ bs = take_all (length bs / 8 * 8) bs (omega arith) in
        rw (all_whole (words_reading (whole_words bs)), t) (words_tell bs (read_words (length bs / 8) bs) (bytes_as bs z v))

-- ---- where it ends

whole_ends : (n a : ℕ) (r : Result ℕ ℕ) → whole n r ≡ Ok a → a ≡ n
unfolding whole go_on ended_at
whole_ends n a (Ok b) e = go (eqb b n) refl e
  where
    go : (c : Bool) → eqb b n ≡ c → ended_at c b ≡ Ok a → a ≡ n
    go true u e = let q : b ≡ a = cc in omega (arith, eqb-true b n u)
    go false u e = absurd (let z : ◌≡◌ {A = ℕ} 0 1 = cc in omega arith)
whole_ends n a (Err b) e = absurd (let z : ◌≡◌ {A = ℕ} 0 1 = cc in omega arith)

-- the number of words, where the bytes are a snapshot
pub reading_ends : (bs : List ℕ) (a : ℕ) → reading_of bs ≡ Ok a → a ≡ length bs / 8
unfolding reading_of whole_words words_reading whole
reading_ends bs a e = go (eqb (length bs % 8) 0) e
  where
    go : (c : Bool) → go_on (words_reading (whole_words bs)) (λ a. ended_at c a) ≡ Ok a → a ≡ length bs / 8
    go true e =
        let w = whole_ends (length (whole_words bs)) a _ (sym (all_whole _) ∙ e) in
        omega (arith, reads_length (length (take (length bs / 8 * 8) bs) / 8) (take (length bs / 8 * 8) bs), length-take-le (length bs / 8 * 8) bs (omega arith))
    go false e = absurd (let s = some_left (words_reading (whole_words bs)) in let z : ◌≡◌ {A = ℕ} 0 1 = cc in omega arith)

-- a committee of 3, a board cut off after its machines, an empty board, one with a word too many, and a machine of place 9
pub stops : (words_reading (6 ∷ 0 ∷ 3 ∷ 0 ∷ 0 ∷ 1 ∷ 0 ∷ []) ≡ Err 2)
    × (words_reading (6 ∷ 0 ∷ 4 ∷ 0 ∷ 0 ∷ 1 ∷ 0 ∷ 0 ∷ []) ≡ Err 8)
    × (words_reading (6 ∷ 0 ∷ 4 ∷ 0 ∷ 0 ∷ 1 ∷ 0 ∷ 0 ∷ 0 ∷ 0 ∷ 0 ∷ 0 ∷ []) ≡ Ok 12)
    × (words_reading (6 ∷ 0 ∷ 4 ∷ 0 ∷ 0 ∷ 1 ∷ 0 ∷ 0 ∷ 0 ∷ 0 ∷ 0 ∷ 0 ∷ 7 ∷ []) ≡ Err 12)
    × (words_reading (6 ∷ 0 ∷ 4 ∷ 0 ∷ 0 ∷ 1 ∷ 0 ∷ 2 ∷ 5 ∷ 0 ∷ 0 ∷ 0 ∷ 0 ∷ 8 ∷ 9 ∷ 0 ∷ 0 ∷ 0 ∷ 0 ∷ 0 ∷ 0 ∷ 0 ∷ []) ≡ Err 13)
unfolding words_reading setting_tests tests_reading go_on ended_at section_reading rows_reading row_end row_good read_machine place_of machine_words place_words good_machine good_place word equal ◌and◌ ◌or◌ all_pass any_pass
stops = (refl, refl, refl, refl, refl)
