-- A part of a snapshot that is read: words, or a list and zeros after it.
use Rattle.std.specs.Prelude.{ℕ, ◌+◌, ◌*◌, ◌≤◌, ◌<◌, ◌≡◌, ◌⊎◌, List, ◌++◌, length, get_or, drop, Option, Some, IfSome, IfNone}
use Rattle.tables.specs.Rows.{pad}
use Rattle.packing.specs.Packed.{flat}

-- what a read at word `at` of the words ws leaves in t, and its answer r: the next part's place, or none where there is no part
-- pack: the part without its room; good: what the part may be
pub record PartRead (pack : List ℕ → List ℕ) (good : List ℕ → Type 0) (ws t : List ℕ) (at : ℕ) (r : Option ℕ) : Type 0 where
  pub read : IfSome r (λ e. (at ≤ e) × (e ≤ length ws) × (drop at ws ≡ pack t ++ drop e ws))
  pub whole : (v rest : List ℕ) → good v → drop at ws ≡ pack v ++ rest → (t ≡ v) × (r ≡ Some (at + length (pack v)))

abbrev pub plain : List ℕ → List ℕ
plain v = v

-- n words, and at least one
abbrev pub Wide : ℕ → List ℕ → Type 0
Wide n v = (0 < n) × (length v ≡ n)

-- a count within its limit, and zeros past that many rows
pub record Listed (w cap : ℕ) (v : List ℕ) : Type 0 where
  pub few : get_or v 0 0 ≤ cap
  pub words : v ≡ pad (1 + cap * w) (flat w cap v)

-- r is the count at word `at`, if one within its limit stands there
pub record CountRead (cap : ℕ) (ws : List ℕ) (at : ℕ) (r : Option ℕ) : Type 0 where
  pub yes : IfSome r (λ n. (at < length ws) × (n ≤ cap) × (n ≡ get_or ws at 0))
  pub no : IfNone r ((length ws ≤ at) ⊎ (cap < get_or ws at 0))
