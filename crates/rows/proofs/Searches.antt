-- What a search tells: the row of a key, or that nothing stands at it.
use Prim.Native.Nat.{ℕ, ◌+◌, ◌*◌, ◌≤◌, ◌<◌}
use mathlib.Core.Path.{◌≡◌, refl, sym}
use mathlib.Core.List.{List, [], ◌∷◌}
use mathlib.Core.Option.{none}
use Rattle.std.specs.Prelude.{Option, Some, None}
use mathlib.Core.Bool.{Bool, true, false, cond}
use native.Mathlib.Omega.{arith}
use borrow.Author.Tests.{ltb-true, ltb-false}
use lib.Dec.{eqb, ltb}
use lib.ListN.{length, get_or, take, drop}
use Rattle.rules.specs.Table.{Entry, Table, at}
use Rattle.rules.specs.Board.{Board}
use Rattle.rules.proofs.Counts.{Alike, same, apart, alike}
use Rattle.rules.proofs.Tests.{eq_of}
use Rattle.tables.specs.Rows.{table, Rising, first_where, find_row, Row, words_in, key_in, key_of}
use Rattle.tables.proofs.Keys.{first_passes}
use Rattle.tables.proofs.Typed.{found_as}
use Rattle.board.specs.Held.{Holds}
use Rattle.board.proofs.Sections.{Section, section_lent}
use Rattle.rows.specs.Finds.{FoundAt}

module _ {A : Type 0} (k : ℕ) where
  none_passes : (t : Table A) → length t ≤ first_where (λ e. eqb (key_of e) k) t → at k t ≡ none
  unfolding first_where at
  none_passes [] l = refl
  none_passes (e ∷ t) l = go (alike e.key k) (alike k e.key) (none_passes t)
    where
      go : Alike e.key k → Alike k e.key → (length t ≤ first_where (λ e. eqb (key_of e) k) t → at k t ≡ none) → at k (e ∷ t) ≡ none
      go (same p q) b ih = absurd (let z = rw q at l in omega arith)
      go (apart p q) (same u v) ih = absurd (p (sym u))
      go (apart p q) (apart u v) ih = rw v (ih (let z = rw q at l in omega arith))

  pub finds : (d : Entry A) (t : Table A) (r : Option ℕ) → r ≡ find_row key_of k t → FoundAt k d t r
  finds d t r is = rw is (go (ltb (first_where f t) (length t)) refl)
    where
      f : Entry A → Bool
      f e = eqb (key_of e) k

      go : (c : Bool) → ltb (first_where f t) (length t) ≡ c → FoundAt k d t (cond c (Some (first_where f t)) None)
      go true e = let l = ltb-true (first_where f t) (length t) e in (l, eq_of _ _ (first_passes f t d l))
      go false e = none_passes t (ltb-false (first_where f t) (length t) e)

-- what a search of a section tells
module _ {A : Type 0} {f : Entry A → List ℕ} {w cap o : ℕ} {get : Board → Table A} {put : Table A → Board → Board} (s : Section f w cap o get put) (ws : List ℕ) (b : Board) (h : Holds ws b) where
  pub section_finds : (first : (x : Entry A) → get_or (f x) 0 0 ≡ key_of x) (k : ℕ) (d : Entry A) (r : Option ℕ) → Rising key_of (get b)
      → ((rs : List (Row w)) → take (1 + cap * w) (drop o ws) ≡ table words_in w cap rs → length rs ≤ cap → Rising key_in rs → r ≡ find_row key_in k rs)
      → FoundAt k d (get b) r
  section_finds first k d r q g = finds k d (get b) r (found_as f w s.wide cap (get b) _ [] (section_lent s ws b h) key_of first k r (s.room b h.fits) q g)
