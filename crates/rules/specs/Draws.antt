-- Draws from a lent list: the index draw, the shuffle, the draw from the pool.
use Rattle.std.specs.Prelude.{ℕ, zero, suc, ◌-◌, List, [], ◌∷◌, cond, leb, length, get_or, set}
use Rattle.std.proofs.Math.Option.{Option, none, some}
use Rattle.types.specs.Numbers.{Id}

-- what was drawn, with the draws that are left; or which draw was refused
pub data Drawn (A : Type 0) : Type 0 where
  drew : A → List ℕ → Drawn A
  missing : Drawn A
  too_large : Drawn A

unfoldable pub and_then : {A B : Type 0} → Drawn A → (A → List ℕ → Drawn B) → Drawn B
and_then (drew a left) f = f a left
and_then missing f = missing
and_then too_large f = too_large

-- the next draw, 'at most i'
unfoldable pub draw_index : ℕ → List ℕ → Drawn ℕ
draw_index i [] = missing
draw_index i (j ∷ draws) = cond (leb j i) (drew j draws) too_large

-- 'exchanges places i and j'
unfoldable pub exchange : ℕ → ℕ → List Id → List Id
exchange i j l = set (set l i (get_or l j 0)) j (get_or l i 0)

-- 'for i from n-1 down to 1, one draw j at most i'
unfoldable pub shuffle_from : ℕ → List Id → List ℕ → Drawn (List Id)
shuffle_from zero l draws = drew l draws
shuffle_from (suc i) l draws = and_then (draw_index (suc i) draws) (λ j left. shuffle_from i (exchange (suc i) j l) left)

unfoldable pub shuffle : List Id → List ℕ → Drawn (List Id)
shuffle l draws = shuffle_from (length l - 1) l draws

-- 'one index below the pool's size'; 'an empty pool takes no draw'
unfoldable pub draw_from : List Id → List ℕ → Drawn (Option Id)
draw_from [] draws = drew none draws
draw_from (x ∷ l) draws = and_then (draw_index (length l) draws) (λ k left. drew (some (get_or (x ∷ l) k 0)) left)
