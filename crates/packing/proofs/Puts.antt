-- What each function lays, and what it begins with.
use Prim.Native.Nat.{ℕ, ◌+◌, ◌*◌, ◌≤◌}
use mathlib.Core.Path.{◌≡◌, refl, ap, ◌∙◌, subst}
use mathlib.Core.List.{List, ◌++◌}
use lib.ListN.{length, take, drop}
use Rattle.rules.specs.Board.{most_members, most_seats, most_half}
use Rattle.board.specs.Layout.{members_at, committee_width, seat_width, seats_at, left_at, right_at, reshape_width}
use Rattle.bytes_words.specs.Laid.{laid}
use Rattle.row_tests.specs.declared.RowKind.{RowKind}
use Rattle.row_tests.specs.declared.RowKind.TheVariants.{Machines, Committees, Boundaries, Rotations, Reshapes}
use Rattle.packing.specs.Packed.{between, count_of, flat, committee, reshape, row_of, rows_of, nested}
use Rattle.packing.specs.Put.{Put}
use Rattle.packing.proofs.Sizes.{flat_length}
use Rattle.packing.proofs.Lefts.{Left, start}

pub words_put : {ws out o : List ℕ} {at r : ℕ} → (r ≡ at + length ws * 8) × (o ≡ laid ws at out) → Put ws at out o r
words_put h = record { next = h.0; bytes = h.1 }

pub flat_taken : (w cap : ℕ) (t : List ℕ) (e : ℕ) → length t ≡ 1 + cap * w → e ≡ length (flat w cap t) → take e t ≡ flat w cap t
unfolding flat
flat_taken w cap t e l h = ap (λ (n : ℕ). take n t) (h ∙ flat_length w cap t l)

pub flat_put : (w cap : ℕ) (t out o : List ℕ) (at e r : ℕ) → length t ≡ 1 + cap * w → e ≡ length (flat w cap t) → (r ≡ at + length (take e t) * 8) × (o ≡ laid (take e t) at out)
    → Put (flat w cap t) at out o r
flat_put w cap t out o at e r l h p = subst (λ (ws : List ℕ). Put ws at out o r) (flat_taken w cap t e l h) (words_put p)

pub committee_start : (t out : List ℕ) (at : ℕ) → at + length (committee t) * 8 ≤ length out
    → Left (committee t) at out (take members_at t ++ flat 1 most_members (between members_at committee_width t)) at out
unfolding committee
committee_start t out at h = start _ _ at out refl h

pub reshape_start : (t out : List ℕ) (at : ℕ) → at + length (reshape t) * 8 ≤ length out
    → Left (reshape t) at out
    (take seats_at t ++ (flat seat_width most_seats (between seats_at left_at t) ++ (flat 1 most_half (between left_at right_at t) ++ flat 1 most_half (between right_at reshape_width t))))
    at out
unfolding reshape
reshape_start t out at h = start _ _ at out refl h

pub nested_start : (k : RowKind) (cap : ℕ) (t out : List ℕ) (at : ℕ) → at + length (nested k cap t) * 8 ≤ length out
    → Left (nested k cap t) at out (take 1 t ++ rows_of k (count_of cap t) (drop 1 t)) at out
unfolding nested
nested_start k cap t out at h = start _ _ at out refl h

pub put_as : {ws vs out o : List ℕ} {at r : ℕ} → ws ≡ vs → Put ws at out o r → Put vs at out o r
put_as {ws} {vs} {out} {o} {at} {r} e p = subst (λ (l : List ℕ). Put l at out o r) e p

pub room_as : {ws vs : List ℕ} (out : List ℕ) (at : ℕ) → ws ≡ vs → at + length ws * 8 ≤ length out → at + length vs * 8 ≤ length out
room_as {ws} {vs} out at e p = subst (λ (l : List ℕ). at + length l * 8 ≤ length out) e p

pub row_committee : (k : RowKind) (t : List ℕ) → k ≡ Committees → row_of k t ≡ committee t
row_committee k t e = ap (λ (j : RowKind). row_of j t) e

pub row_reshape : (k : RowKind) (t : List ℕ) → k ≡ Reshapes → row_of k t ≡ reshape t
row_reshape k t e = ap (λ (j : RowKind). row_of j t) e

-- a row without lists is as it was
pub row_plain : (k : RowKind) (t : List ℕ) → (k ≡ Committees → ⊥) → (k ≡ Reshapes → ⊥) → t ≡ row_of k t
row_plain Machines t c r = refl
row_plain Committees t c r = absurd (c refl)
row_plain Boundaries t c r = refl
row_plain Rotations t c r = refl
row_plain Reshapes t c r = absurd (r refl)
