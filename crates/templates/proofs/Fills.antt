-- A template walked from the left: what is laid so far, and what is to come.
use Prim.Native.Nat.{ℕ, zero, suc, ◌+◌, ◌≤◌, ◌<◌}
use mathlib.Core.Path.{◌≡◌, refl, ◌∙◌}
use mathlib.Core.Bool.{false}
use mathlib.Core.List.{List, [], ◌∷◌, ◌++◌, append_assoc, append-nil}
use native.Mathlib.Omega.{arith}
use native.Mathlib.Numerals.{add-one}
use lib.Dec.{eqb}
use lib.ListN.{length, drop, get_or, drop_of_length-le}
use lib.Seq.{drop-cons, get_or-drop, drop-drop}
use Rattle.lines.specs.Says.{Puts}
use Rattle.lines.specs.Numeral.{numeral}
use Rattle.lines.proofs.Lays.{puts_none, puts_both}
use Rattle.templates.specs.Filled.{slot, past, filled_from, filled}

pub record Filling (l : List ℕ) (at : ℕ) (t ns m : List ℕ) (a k w i : ℕ) : Type 0 where
  pub done : List ℕ
  pub puts : Puts l at done m a
  pub rest : done ++ filled_from w (drop i t) (drop k ns) ≡ filled t ns
  pub within : i ≤ length t
  pub behind : k + w ≤ i

pub begins : (l : List ℕ) (at : ℕ) (t ns : List ℕ) → Filling l at t ns l at 0 0 0
begins l at t ns = record { done = []; puts = puts_none l at; rest = refl; within = omega arith; behind = omega arith }

-- ---- what the first byte is

hash : (w : ℕ) (t ns : List ℕ) → filled_from w (35 ∷ t) ns ≡ filled_from (suc w) t ns
unfolding filled_from
hash w t ns = refl

passed : (t ns : List ℕ) → filled_from 0 (126 ∷ t) ns ≡ filled_from 0 t (drop 1 ns)
unfolding filled_from slot past
passed t ns = refl

byte : (b : ℕ) (t ns : List ℕ) → eqb b 35 ≡ false → eqb b 126 ≡ false → filled_from 0 (b ∷ t) ns ≡ b ∷ filled_from 0 t ns
unfolding filled_from slot past
byte b t ns e f = rw (e, f)

-- a run ends before it, or with the template
run : (w b : ℕ) (t ns : List ℕ) → eqb b 35 ≡ false → 0 < w → filled_from w (b ∷ t) ns ≡ numeral w (get_or ns 0 0) ++ filled_from 0 (b ∷ t) (drop 1 ns)
unfolding filled_from slot past
run zero b t ns e h = absurd (omega arith)
run (suc w) b t ns e h = rw e

ending : (w : ℕ) (ns : List ℕ) → 0 < w → filled_from w [] ns ≡ numeral w (get_or ns 0 0)
unfolding filled_from slot
ending zero ns h = absurd (omega arith)
ending (suc w) ns h = refl

nothing : (ns : List ℕ) → filled_from 0 [] ns ≡ []
unfolding filled_from slot
nothing ns = refl

next_number : (ns : List ℕ) (k : ℕ) → get_or (drop k ns) 0 0 ≡ get_or ns k 0
next_number ns k = let z : k + 0 ≡ k = omega arith in get_or-drop k ns 0 0 ∙ rw z

-- ---- the turns of the walk

module _ {l : List ℕ} {at : ℕ} {t ns m : List ℕ} {a k w i : ℕ} (p : Filling l at t ns m a k w i) where
  pub in_run : i < length t → get_or t i 0 ≡ 35 → Filling l at t ns m a k (w + 1) (i + 1)
  in_run h e = record {
    done = p.done;
    puts = p.puts;
    rest = rw (add-one w, add-one i) (rw (drop-cons t i 0 h, e, hash w (drop (suc i) t) (drop k ns)) at p.rest);
    within = omega (arith, p.within);
    behind = omega (arith, p.behind);
  }

  pub passes : i < length t → get_or t i 0 ≡ 126 → w ≡ 0 → Filling l at t ns m a (k + 1) w (i + 1)
  passes h e z = record {
    done = p.done;
    puts = p.puts;
    rest = rw (z, add-one i, ← drop-drop 1 k ns) (rw (z, drop-cons t i 0 h, e, passed (drop (suc i) t) (drop k ns)) at p.rest);
    within = omega (arith, p.within);
    behind = omega (arith, p.behind);
  }

  pub in_text : {n : List ℕ} {b : ℕ} → i < length t → eqb (get_or t i 0) 35 ≡ false → eqb (get_or t i 0) 126 ≡ false → w ≡ 0 → Puts m a (get_or t i 0 ∷ []) n b → Filling l at t ns n b k w (i + 1)
  in_text h e f z q = record {
    done = p.done ++ get_or t i 0 ∷ [];
    puts = puts_both p.puts q;
    rest = rw (append_assoc, z, add-one i) (rw (z, drop-cons t i 0 h, byte (get_or t i 0) (drop (suc i) t) (drop k ns) e f) at p.rest);
    within = omega (arith, p.within);
    behind = omega (arith, p.behind);
  }

  pub run_ends : {n : List ℕ} {b : ℕ} → i < length t → eqb (get_or t i 0) 35 ≡ false → 0 < w → Puts m a (numeral w (get_or ns k 0)) n b → Filling l at t ns n b (k + 1) 0 i
  run_ends h e z q = record {
    done = p.done ++ numeral w (get_or ns k 0);
    puts = puts_both p.puts q;
    rest = rw (append_assoc, ← drop-drop 1 k ns, drop-cons t i 0 h)
        (rw (drop-cons t i 0 h, run w (get_or t i 0) (drop (suc i) t) (drop k ns) e z, next_number ns k) at p.rest);
    within = p.within;
    behind = omega (arith, p.behind);
  }

  pub ends_with_text : length t ≤ i → w ≡ 0 → Puts l at (filled t ns) m a
  ends_with_text h z = rw (← p.rest, drop_of_length-le t h, z, nothing (drop k ns), append-nil) p.puts

  pub ends_with_run : {n : List ℕ} {b : ℕ} → length t ≤ i → 0 < w → Puts m a (numeral w (get_or ns k 0)) n b → Puts l at (filled t ns) n b
  ends_with_run h z q = rw (← p.rest, drop_of_length-le t h, ending w (drop k ns) z, next_number ns k) (puts_both p.puts q)
