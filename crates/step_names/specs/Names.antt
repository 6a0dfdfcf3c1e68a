-- When a clerk's word is a name.
use Rattle.std.specs.Prelude.{ℕ, suc, Bool, true, false, ◌&&◌, cond, List, [], ◌∷◌, eqb}
use Prim.Native.String.{String}
use Rattle.phrases.specs.Texts.{bytes}

-- a clerk may write '-' (45) for '_' (95)
abbrev pub underscored : ℕ → ℕ
underscored b = cond (eqb b 45) 95 b

unfoldable pub same_name : List ℕ → List ℕ → Bool
same_name [] [] = true
same_name [] (b ∷ l) = false
same_name (a ∷ w) [] = false
same_name (a ∷ w) (b ∷ l) = eqb (underscored a) b && same_name w l

-- where the word stands among the names, the first of which is at n; 0 where it is none
unfoldable pub place_among : List ℕ → ℕ → List String → ℕ
place_among w n [] = 0
place_among w n (s ∷ l) = cond (same_name w (bytes s)) n (place_among w (suc n) l)
