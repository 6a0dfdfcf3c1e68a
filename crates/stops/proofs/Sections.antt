-- A section ends where its reading does.
use Prim.Native.Nat.{ℕ, zero, suc, ◌+◌, ◌-◌, ◌≤◌, ◌<◌}
use mathlib.Core.Path.{◌≡◌, refl}
use mathlib.Core.List.{List}
use mathlib.Core.Logic.{◌⊎◌, inl, inr}
use mathlib.Core.Bool.{Bool, true, false, cond}
use native.Mathlib.Omega.{arith}
use borrow.Author.Tests.{ltb-true, ltb-false, leb-true, leb-false, lt-ltb, le-ltb, le-leb, lt-leb}
use Rattle.std.specs.Prelude.{Option, None, Some, Result, Ok, Err}
use lib.Dec.{eqb, leb, ltb}
use lib.ListN.{length, get_or}
use Rattle.rules.specs.Lists.{◌and◌}
use Rattle.rules.specs.Board.{most_machines, most_committees, most_bounds, most_rotations, most_reshapes}
use Rattle.row_tests.specs.declared.RowKind.{RowKind}
use Rattle.row_tests.specs.declared.RowKind.TheVariants.{Machines, Committees, Boundaries, Rotations, Reshapes}
use Rattle.unpacking.specs.Parts.{CountRead}
use Rattle.reading.specs.Stream.{TellsRow, TellsSection, TellsSections}
use Rattle.reading.proofs.Streams.{Left, counted, start, section_none, section_over, section_fails, section_more}
use Rattle.reading.proofs.Boards.{no_machines, no_committees, no_bounds, no_rotations, sections_told}
use Rattle.stops.specs.Stop.{row_end, from_row, rows_reading, section_reading, go_on}
use Rattle.stops.proofs.Rows.{row_end_tells}

-- where it ends, unless it stops
abbrev pub end_of : Result ℕ ℕ → Option ℕ
end_of (Ok a) = Some a
end_of (Err a) = None

-- ---- a turn of the loop over rows

module _ (k : RowKind) (ws : List ℕ) (n a : ℕ) (last : Bool) (z : 0 < n) (l : last ≡ eqb n 1) where
  turn : (o : Option ℕ) → o ≡ row_end k last ws a → rows_reading k ws n a ≡ from_row o a (rows_reading k ws (n - 1))
  unfolding rows_reading
  turn o r = go n z l
    where
      go : (m : ℕ) → 0 < m → last ≡ eqb m 1 → rows_reading k ws m a ≡ from_row o a (rows_reading k ws (m - 1))
      go zero z l = absurd (omega arith)
      go (suc m) z l = let p : suc m - 1 ≡ m = omega arith in rw (p, r, l) refl

  pub rows_stop : None ≡ row_end k last ws a → rows_reading k ws n a ≡ Err a
  rows_stop r = turn None r

  pub rows_go_on : (e : ℕ) → Some e ≡ row_end k last ws a → rows_reading k ws n a ≡ rows_reading k ws (n - 1) e
  rows_go_on e r = turn (Some e) r

pub rows_end : (k : RowKind) (ws : List ℕ) (n a : ℕ) → n ≡ 0 → Ok a ≡ rows_reading k ws n a
unfolding rows_reading
rows_end k ws zero a z = refl
rows_end k ws (suc n) a z = absurd (omega arith)

module _ (k : RowKind) (cap : ℕ) (ws : List ℕ) (at : ℕ) where
  -- ---- the count

  pub count_stops : CountRead cap ws at None → Err at ≡ section_reading k cap ws at
  unfolding section_reading ◌and◌
  count_stops c = go c.no
    where
      go : (length ws ≤ at) ⊎ (cap < get_or ws at 0) → Err at ≡ cond (ltb at (length ws) and leb (get_or ws at 0) cap) (rows_reading k ws (get_or ws at 0) (at + 1)) (Err at)
      go (inl h) = rw (le-ltb at (length ws) h)
      go (inr h) = many (ltb at (length ws))
        where
          many : (b : Bool) → Err at ≡ cond (b and leb (get_or ws at 0) cap) (rows_reading k ws (get_or ws at 0) (at + 1)) (Err at)
          many true = rw (lt-leb (get_or ws at 0) cap h)
          many false = refl

  pub count_good : (n : ℕ) → CountRead cap ws at (Some n) → rows_reading k ws n (at + 1) ≡ section_reading k cap ws at
  unfolding section_reading ◌and◌
  count_good n c =
      let y = c.yes in
      rw y.2 (rw (lt-ltb at (length ws) y.0, le-leb (get_or ws at 0) cap (omega (arith, y.1, y.2))))

  -- ---- the section that is told

  rows_tell : (n a : ℕ) → Left k cap ws at n a → TellsSection k cap ws at (end_of (rows_reading k ws n a))
  unfolding rows_reading
  rows_tell zero a l = section_over k cap ws at zero a l refl
  rows_tell (suc n) a l = go (row_end k (eqb (suc n) 1) ws a) (row_end_tells k (eqb (suc n) 1) ws a) (λ e m. rows_tell n e m)
    where
      go : (o : Option ℕ) → TellsRow k (eqb (suc n) 1) ws a o → ((e : ℕ) → Left k cap ws at n e → TellsSection k cap ws at (end_of (rows_reading k ws n e)))
          → TellsSection k cap ws at (end_of (from_row o a (rows_reading k ws n)))
      go None t rec = section_fails k cap ws at (suc n) a l (eqb (suc n) 1) (omega arith) refl t
      go (Some e) t rec =
          let p : suc n - 1 ≡ n = omega arith in
          rec e (rw p at (section_more k cap ws at (suc n) a l (eqb (suc n) 1) (omega arith) refl e t))

  pub section_tells : TellsSection k cap ws at (end_of (section_reading k cap ws at))
  unfolding section_reading ◌and◌
  section_tells = go (ltb at (length ws)) refl (leb (get_or ws at 0) cap) refl
    where
      go : (x : Bool) → ltb at (length ws) ≡ x → (y : Bool) → leb (get_or ws at 0) cap ≡ y
          → TellsSection k cap ws at (end_of (cond (x and y) (rows_reading k ws (get_or ws at 0) (at + 1)) (Err at)))
      go true a true b = rows_tell (get_or ws at 0) (at + 1) (start k cap ws at (ltb-true at (length ws) a) (leb-true (get_or ws at 0) cap b))
      go true a false b = section_none k cap ws at (λ e p. omega (arith, (counted k cap ws at e p).1, leb-false (get_or ws at 0) cap b))
      go false a y b = section_none k cap ws at (λ e p. omega (arith, (counted k cap ws at e p).0, ltb-false at (length ws) a))

-- ---- one section after another

-- the sections after the first
abbrev pub after_machines : List ℕ → Result ℕ ℕ → Result ℕ ℕ
after_machines ws m =
    go_on (go_on (go_on (go_on m (section_reading Committees most_committees ws)) (section_reading Boundaries most_bounds ws)) (section_reading Rotations most_rotations ws)) (section_reading Reshapes most_reshapes ws)

module _ (ws : List ℕ) (at : ℕ) where
  pub sections_tell : TellsSections ws at (end_of (after_machines ws (section_reading Machines most_machines ws at)))
  unfolding go_on
  sections_tell = machines (section_reading Machines most_machines ws at) (section_tells Machines most_machines ws at)
    where
      rotations : (m : ℕ) (tm : TellsSection Machines most_machines ws at (Some m)) (c : ℕ) (tc : TellsSection Committees most_committees ws m (Some c)) (b : ℕ) (tb : TellsSection Boundaries most_bounds ws c (Some b))
          → (o : Result ℕ ℕ) → TellsSection Rotations most_rotations ws b (end_of o) → TellsSections ws at (end_of (go_on o (section_reading Reshapes most_reshapes ws)))
      rotations m tm c tc b tb (Err a) t = no_rotations ws at m tm c tc b tb t
      rotations m tm c tc b tb (Ok o) t = sections_told ws at m tm c tc b tb o t _ (section_tells Reshapes most_reshapes ws o)

      bounds : (m : ℕ) (tm : TellsSection Machines most_machines ws at (Some m)) (c : ℕ) (tc : TellsSection Committees most_committees ws m (Some c))
          → (b : Result ℕ ℕ) → TellsSection Boundaries most_bounds ws c (end_of b)
          → TellsSections ws at (end_of (go_on (go_on b (section_reading Rotations most_rotations ws)) (section_reading Reshapes most_reshapes ws)))
      bounds m tm c tc (Err a) t = no_bounds ws at m tm c tc t
      bounds m tm c tc (Ok b) t = rotations m tm c tc b t (section_reading Rotations most_rotations ws b) (section_tells Rotations most_rotations ws b)

      committees : (m : ℕ) (tm : TellsSection Machines most_machines ws at (Some m)) → (c : Result ℕ ℕ) → TellsSection Committees most_committees ws m (end_of c)
          → TellsSections ws at (end_of (go_on (go_on (go_on c (section_reading Boundaries most_bounds ws)) (section_reading Rotations most_rotations ws)) (section_reading Reshapes most_reshapes ws)))
      committees m tm (Err a) t = no_committees ws at m tm t
      committees m tm (Ok c) t = bounds m tm c t (section_reading Boundaries most_bounds ws c) (section_tells Boundaries most_bounds ws c)

      machines : (m : Result ℕ ℕ) → TellsSection Machines most_machines ws at (end_of m) → TellsSections ws at (end_of (after_machines ws m))
      machines (Err a) t = no_machines ws at t
      machines (Ok m) t = committees m t (section_reading Committees most_committees ws m) (section_tells Committees most_committees ws m)
