-- What a row says of a reshape, and whether a step takes it.
use mathlib.Core.Path.{◌≡◌, refl, ap, sym, ◌∙◌}
use mathlib.Core.Bool.{Bool, true, false, cond, not, ◌&&◌}
use mathlib.Core.Option.{Option, none, some}
use Prim.Native.Nat.{ℕ, ◌+◌, ◌<◌}
use mathlib.Core.List.{List, [], ◌∷◌, ◌++◌, append_assoc, append-nil}
use native.Mathlib.Numerals.{add-one}
use lib.ListN.{length, get_or, take, drop, set, length-set}
use lib.Seq.{take-suc, take-set-le, get_or-set_same}
use native.Mathlib.Omega.{arith}
use lib.Dec.{leb}
use Rattle.types.specs.Numbers.{Epoch}
use Rattle.rules.specs.Lists.{◌and◌}
use Rattle.rules.specs.Table.{Entry, Table, is_some, keys_where}
use Rattle.rules.specs.Board.{Kind, split, merge, Reshape, Board, epoch_of}
use Rattle.rules.specs.Moves.{is_kind}
use Rattle.rules.specs.Cut.{is_terminal}
use Rattle.rules.specs.Snapshot.{value_of}
use Rattle.board.specs.Held.{no_reshape}
use Rattle.pool.proofs.Pools.{keys_here, keys_past}
use Rattle.batches.specs.declared.Which.{Which}
use Rattle.batches.specs.Targets.{merges_of, due_of, is_ripe, is_wanted, taken, targets_of}

pub ripe_unscheduled : (due scheduled : Bool) (epoch : Epoch) (r : Reshape) → not due ≡ true → scheduled ≡ is_some r.terminal → not scheduled ≡ is_ripe due epoch r
ripe_unscheduled true scheduled epoch r h e = absurd (let z : ◌≡◌ {A = ℕ} 0 1 = cc in omega arith)
ripe_unscheduled false scheduled epoch r h e = ap not e

pub ripe_due : (due scheduled : Bool) (terminal epoch : Epoch) (r : Reshape) → not due ≡ false → scheduled ≡ is_some r.terminal → terminal ≡ value_of r.terminal
    → (scheduled && leb terminal epoch) ≡ is_ripe due epoch r
unfolding is_terminal is_some value_of
ripe_due false scheduled terminal epoch r h e v = absurd (let z : ◌≡◌ {A = ℕ} 0 1 = cc in omega arith)
ripe_due true scheduled terminal epoch r h e v = rw (e, v) (go r.terminal)
  where
    go : (o : Option Epoch) → (is_some o && leb (value_of o) epoch) ≡ elim o [ none ↦ false | some t ↦ leb t epoch ]
    go none = refl
    go (some t) = refl

and_is : (a b : Bool) → (a && b) ≡ (a and b)
unfolding ◌and◌
and_is true b = refl
and_is false b = refl

split_is : (r : Reshape) → not (is_kind merge r) ≡ is_kind split r
unfolding is_kind
split_is r = go r.kind
  where
    go : (k : Kind) → not (elim k [ split ↦ false | merge ↦ true ]) ≡ elim k [ split ↦ true | merge ↦ false ]
    go split = refl
    go merge = refl

module _ (which : Which) (epoch : Epoch) (r : Reshape) (merging ripe due : Bool) (m : merging ≡ is_kind merge r) (d : due ≡ due_of which) (p : ripe ≡ is_ripe due epoch r) where
  pub wanted_merge : (w : Bool) → w ≡ merges_of which → w ≡ true → (merging && ripe) ≡ is_wanted which epoch r
  wanted_merge w e t = and_is merging ripe ∙ rw (m, p, d, sym e ∙ t)

  pub wanted_split : (w : Bool) → w ≡ merges_of which → w ≡ false → (not merging && ripe) ≡ is_wanted which epoch r
  wanted_split w e t = and_is (not merging) ripe ∙ rw (m, p, d, sym e ∙ t, split_is r)

-- ---- the list, as a loop fills it

put_next : (out : List ℕ) (k x : ℕ) → k < length out → take (k + 1) (set out k x) ≡ take k out ++ (x ∷ [])
put_next out k x l =
    rw (add-one k) (take-suc (set out k x) k 0 (omega (arith, length-set out k x)) ∙ rw (take-set-le k out k x (omega arith), get_or-set_same out k x 0 l))

-- what a row that is wanted adds, and one that is not
pub added : (w : Which) (epoch : Epoch) (e : Entry Reshape) (out : List ℕ) (k x : ℕ) → true ≡ is_wanted w epoch e.val → x ≡ e.key → k < length out
    → take (k + 1) (set out k x) ≡ take k out ++ taken w epoch e
added w epoch e out k x q i l = rw (sym q) (put_next out k x l ∙ rw i)

pub passed : (w : Which) (epoch : Epoch) (e : Entry Reshape) (out : List ℕ) (k : ℕ) → false ≡ is_wanted w epoch e.val → take k out ≡ take k out ++ taken w epoch e
passed w epoch e out k q = rw (sym q) (sym (append-nil (take k out)))

-- a row of the table, and those after it
keys_next : (w : Which) (epoch : Epoch) (t : Table Reshape) (i : ℕ) (d : Entry Reshape) → i < length t
    → keys_where (is_wanted w epoch) (drop i t) ≡ taken w epoch (get_or t i d) ++ keys_where (is_wanted w epoch) (drop (i + 1) t)
keys_next w epoch t i d l = go (is_wanted w epoch (get_or t i d).val) refl
  where
    go : (c : Bool) → is_wanted w epoch (get_or t i d).val ≡ c → keys_where (is_wanted w epoch) (drop i t) ≡ cond c ((get_or t i d).key ∷ []) [] ++ keys_where (is_wanted w epoch) (drop (i + 1) t)
    go true e = keys_here (is_wanted w epoch) t i d l e
    go false e = keys_past (is_wanted w epoch) t i d l e

pub one_more : (w : Which) (b : Board) (epoch : Epoch) → epoch ≡ epoch_of b → (i : ℕ) → i < length b.reshapes → (s u : List ℕ) → u ≡ s ++ taken w epoch (get_or b.reshapes i no_reshape)
    → s ++ keys_where (is_wanted w (epoch_of b)) (drop i b.reshapes) ≡ targets_of w b → u ++ keys_where (is_wanted w (epoch_of b)) (drop (i + 1) b.reshapes) ≡ targets_of w b
one_more w b epoch e i l s u p q =
    let rest = keys_where (is_wanted w (epoch_of b)) (drop (i + 1) b.reshapes) in
    let f : u ≡ s ++ taken w (epoch_of b) (get_or b.reshapes i no_reshape) = p ∙ rw e in
    ap (λ v. v ++ rest) f ∙ append_assoc s (taken w (epoch_of b) (get_or b.reshapes i no_reshape)) rest
    ∙ ap (λ v. s ++ v) (sym (keys_next w (epoch_of b) b.reshapes i no_reshape l)) ∙ q
