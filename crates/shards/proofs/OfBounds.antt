-- A boundary's row.
use Prim.Native.Nat.{ℕ}
use mathlib.Core.Path.{◌≡◌, refl, ap}
use mathlib.Core.List.{List}
use lib.ListN.{get_or, set, replicate}
use Rattle.rules.specs.Table.{Entry, entry}
use Rattle.rules.specs.Board.{Boundary}
use Rattle.rules.specs.Moves.{marked_boundary}
use Rattle.rules.specs.Snapshot.{boundary_words, flag_of, value_of}
use Rattle.board.specs.Layout.{boundary_width}
use Rattle.board.specs.Held.{no_boundary}

pub boundary_key : (e : Entry Boundary) → get_or (boundary_words e) 0 0 ≡ e.key
unfolding boundary_words
boundary_key e = refl

pub boundary_height : (e : Entry Boundary) → get_or (boundary_words e) 1 0 ≡ e.val.height
unfolding boundary_words
boundary_height e = refl

pub no_boundary_lem : boundary_words no_boundary ≡ replicate boundary_width 0
unfolding boundary_words flag_of value_of
no_boundary_lem = refl

pub boundary_marked : (t : List ℕ) (e : Entry Boundary) (terminal admitted : ℕ) → t ≡ boundary_words e
    → set (set (set (set t 4 1) 5 terminal) 6 1) 7 admitted ≡ boundary_words (entry e.key (marked_boundary terminal admitted e.val))
unfolding boundary_words flag_of value_of
boundary_marked t e terminal admitted q = ap (λ (l : List ℕ). set (set (set (set l 4 1) 5 terminal) 6 1) 7 admitted) q
