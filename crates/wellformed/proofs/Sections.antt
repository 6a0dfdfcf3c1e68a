-- The sections of a board's words, each tested by itself.
use Prim.Native.Nat.{ℕ, ◌-◌, ◌≤◌, ◌<◌}
use mathlib.Core.Path.{◌≡◌}
use mathlib.Core.List.{List}
use mathlib.Core.Bool.{Bool, true, false, ◌&&◌}
use native.Mathlib.Omega.{arith}
use borrow.Author.Tests.{ne_eqb, eq-eqb}
use lib.Dec.{eqb}
use lib.ListN.{length, drop, length-drop}
use lib.Seq.{length-take-le}
use Rattle.rules.specs.Board.{most_machines, most_committees, most_bounds, most_rotations, most_reshapes}
use Rattle.board.specs.Layout.{machines_at, committees_at, bounds_at, rotations_at, reshapes_at, board_size}
use Rattle.word_tests.specs.Tests.{between, all_pass}
use Rattle.row_tests.specs.declared.RowKind.TheVariants.{Machines, Committees, Boundaries, Rotations, Reshapes}
use Rattle.row_tests.specs.Rows.{kind_ok}
use Rattle.wellformed.specs.Check.{settings_ok, shards_ok, underway_ok, well_formed_words}

-- a section has its count
pub section_there : (a e : ℕ) (t : List ℕ) → a < e → e ≤ board_size → length t ≡ board_size → 1 ≤ length (between a e t)
section_there a e t h m l = omega (arith, length-take-le (e - a) (drop a t) (omega (arith, length-drop a t)))

pub words_other : (t : List ℕ) → (length t ≡ board_size → ⊥) → false ≡ well_formed_words t
unfolding well_formed_words all_pass
words_other t h = let e : eqb (length t) board_size ≡ false = ne_eqb (length t) board_size h in rw e

pub shards_are : (t : List ℕ) (c b : Bool) → c ≡ kind_ok Committees most_committees (between committees_at bounds_at t) → b ≡ kind_ok Boundaries most_bounds (between bounds_at rotations_at t)
    → (c && b) ≡ shards_ok t
unfolding shards_ok all_pass
shards_are t c b hc hb = rw (hc, hb)

pub underway_are : (t : List ℕ) (o r : Bool) → o ≡ kind_ok Rotations most_rotations (between rotations_at reshapes_at t) → r ≡ kind_ok Reshapes most_reshapes (between reshapes_at board_size t)
    → (o && r) ≡ underway_ok t
unfolding underway_ok all_pass
underway_are t o r ho hr = rw (ho, hr)

pub words_are : (t : List ℕ) (s m c u : Bool) → length t ≡ board_size → s ≡ settings_ok (between 0 machines_at t) → m ≡ kind_ok Machines most_machines (between machines_at committees_at t)
    → c ≡ shards_ok t → u ≡ underway_ok t → (s && m && c && u) ≡ well_formed_words t
unfolding well_formed_words all_pass
words_are t s m c u l hs hm hc hu =
    let e : eqb (length t) board_size ≡ true = eq-eqb (length t) board_size l in
    rw (e, hs, hm, hc, hu)
