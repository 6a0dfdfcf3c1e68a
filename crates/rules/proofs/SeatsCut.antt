-- The cuts keep the seat check, shard after shard.
use mathlib.Core.Path.{◌≡◌, refl, ap, sym, ◌∙◌}
use mathlib.Core.List.{List, []}
use mathlib.Core.Option.{Option, none, some, none-ne-some, some-injective}
use mathlib.Core.Bool.{Bool, true, false, cond, false≢true}
use Prim.Native.Nat.{ℕ, ◌≤◌}
use lib.Dec.{eqb, leb}
use Rattle.types.specs.Numbers.{Shard, Id, Epoch}
use Rattle.types.specs.Shards.{left_of, right_of}
use Rattle.types.specs.Places.{is_seated_on, is_observing, moved_to, kept_on}
use Rattle.types.specs.declared.Place.{Place}
use Rattle.rules.specs.Lists.{◌or◌}
use Rattle.rules.specs.Table.{Table, at, remove}
use Rattle.rules.specs.Board.{Kind, split, merge, Seat, Reshape, Board, epoch_of}
use Rattle.rules.specs.Moves.{place, join, put_on, height_of}
use Rattle.rules.specs.Turns.{finished}
use Rattle.rules.specs.Cut.{is_terminal, due, settle, seated_by, settle_child, cut_split_of, cut_split, cut_splits, rejoin, larger, cut_merge_of, cut_merge, cut_merges}
use Rattle.rules.proofs.Counts.{occ}
use Rattle.rules.proofs.Tables.{at_remove, tally}
use Rattle.rules.proofs.Tests.{and_parts}
use Rattle.rules.proofs.KeptTables.{at_keys_where}
use Rattle.rules.proofs.SeatsFormed.{Sound, Formed}
use Rattle.rules.proofs.Seats.{unit, of_split, Seats}
use Rattle.rules.proofs.SeatsMoves.{kind_is}
use Rattle.rules.proofs.Turns.{for_all_keeps, Finishes, checked_finishes, batch_keeps}
use Rattle.rules.proofs.SeatsRecast.{recast_reshapes}
use Rattle.rules.proofs.SeatsSplit.{cut_split_keeps}
use Rattle.rules.proofs.SeatsMerge.{cut_merge_keeps}

-- a reshape that was due when the call began
record Due (k : Kind) (t : Shard) (r : Reshape) : Type 0 where
  sound : Sound t r
  kind : r.kind ≡ k
  set : tally unit r.terminal ≡ 1

terminal_set : (epoch : Epoch) (r : Reshape) → is_terminal epoch r ≡ true → tally unit r.terminal ≡ 1
unfolding is_terminal tally
terminal_set epoch r h = go r.terminal h
  where
    go : (o : Option Epoch) → (elim o [ none ↦ false | some e ↦ leb e epoch ]) ≡ true → tally unit o ≡ 1
    go none z = absurd (false≢true z)
    go (some e) z = refl

was_due : (k : Kind) (b : Board) → Formed b → (t : Shard) → 1 ≤ occ t (due k b) → (r : Reshape) → at t b.reshapes ≡ some r → Due k t r
unfolding due
was_due k b wf t o r e =
    let q = at_keys_where _ t b.reshapes wf.targets o in
    let f = and_parts _ _ q.2 in
    let same_one : q.0 ≡ r = some-injective q.0 r (sym q.1 ∙ e) in
    record { sound = wf.sound t r e; kind = sym (ap (λ v. v.kind) same_one) ∙ kind_is k q.0 f.0; set = sym (ap (λ v. tally unit v.terminal) same_one) ∙ terminal_set (epoch_of b) q.0 f.1 }

-- of a batch of cuts: reshapes only go
record Shrunk (b c : Board) : Type 0 where
  seats : Seats c
  less : (t : Shard) (r : Reshape) → at t c.reshapes ≡ some r → at t b.reshapes ≡ some r

shrunk : (b c d : Board) (t : Shard) → Shrunk b c → d.reshapes ≡ remove t c.reshapes → Seats d → Shrunk b d
shrunk b c d t h e k = record { seats = k; less = λ u r p. h.less u r (go u r (eqb u t) (rw (e, at_remove u t c.reshapes) at p)) }
  where
    go : (u : Shard) (r : Reshape) (z : Bool) → cond z none (at u c.reshapes) ≡ some r → at u c.reshapes ≡ some r
    go u r true p = absurd (none-ne-some r p)
    go u r false p = p

-- a move leaves the reshapes
abbrev OnReshapes : Board → Board → Type 0
OnReshapes b c = c.reshapes ≡ b.reshapes

-- ---- CUT SPLITS

settle_reshapes : (t c : Shard) (seats : Table Seat) (x : Id) (b : Board) → (settle t c seats x b).reshapes ≡ b.reshapes
unfolding settle put_on join place
settle_reshapes t c seats x b = go (at x b.machines)
  where
    pick : (z : Bool) (move : Place → Place) (d : Board) → d.reshapes ≡ b.reshapes → (cond z (put_on c move x b) d).reshapes ≡ b.reshapes
    pick true move d e = refl
    pick false move d e = e

    look : (p : Place) (o : Option Seat) → OnReshapes b (elim o [ none ↦ b | some q ↦ cond (is_observing p) (put_on c (seated_by c q (epoch_of b)) x b) b ])
    look p none = refl
    look p (some q) = pick (is_observing p) (seated_by c q (epoch_of b)) b refl

    go : (o : Option Place) → OnReshapes b (elim o [
      | none ↦ b
      | some p ↦ cond (is_seated_on t p) (put_on c (moved_to c) x b) (elim (at x seats) [ none ↦ b | some q ↦ cond (is_observing p) (put_on c (seated_by c q (epoch_of b)) x b) b ])
    ])
    go none = refl
    go (some p) = pick (is_seated_on t p) (moved_to c) _ (look p (at x seats))

split_turn : (b : Board) (t : Shard) (draws : List ℕ) (c : Board) → ((r : Reshape) → at t b.reshapes ≡ some r → Due split t r) → Shrunk b c → Finishes (Shrunk b) (cut_split t draws c)
unfolding cut_split cut_split_of settle_child of_split
split_turn b t draws c was h = go (at t c.reshapes) refl
  where
    cut : (r : Reshape) → at t c.reshapes ≡ some r → Finishes (Shrunk b) (cut_split_of t r draws c)
    cut r e =
        let d = was r (h.less t r e) in
        checked_finishes (Shrunk b) _ _ (λ p. shrunk b c _ t h
        (for_all_keeps (λ v. v.reshapes ≡ remove t c.reshapes) _ (λ x v k. settle_reshapes t (right_of t) r.seats x v ∙ k) _ _
        (for_all_keeps (λ v. v.reshapes ≡ remove t c.reshapes) _ (λ x v k. settle_reshapes t (left_of t) r.seats x v ∙ k) _ _ (recast_reshapes split t (height_of t c) c)))
        (cut_split_keeps t r c e d.kind h.seats d.sound (rw d.kind d.set)))

    go : (o : Option Reshape) → at t c.reshapes ≡ o → Finishes (Shrunk b) (elim o [ none ↦ finished 0 draws c | some r ↦ cut_split_of t r draws c ])
    go none e = h
    go (some r) e = cut r e

pub cut_splits_kept : (b : Board) → Formed b → Seats b → Seats (cut_splits b).board
unfolding cut_splits
cut_splits_kept b wf h = (batch_keeps (Shrunk b) cut_split (due split b) [] b (λ w t o ds c. split_turn b t ds c (was_due split b wf t o)) (record { seats = h; less = λ t r e. e })).seats

-- ---- CUT MERGES

rejoin_reshapes : (t : Shard) (keepers : Table Seat) (x : Id) (b : Board) → (rejoin t keepers x b).reshapes ≡ b.reshapes
unfolding rejoin put_on join place
rejoin_reshapes t keepers x b = go (at x b.machines)
  where
    pick : (z : Bool) (move : Place → Place) → (cond z (put_on t move x b) b).reshapes ≡ b.reshapes
    pick true move = refl
    pick false move = refl

    look : (p : Place) (o : Option Seat) → OnReshapes b (elim o [ none ↦ b | some q ↦ cond (is_seated_on (left_of t) p or is_seated_on (right_of t) p) (put_on t (kept_on t q.ready) x b) b ])
    look p none = refl
    look p (some q) = pick (is_seated_on (left_of t) p or is_seated_on (right_of t) p) (kept_on t q.ready)

    go : (o : Option Place) → OnReshapes b (elim o [
      | none ↦ b
      | some p ↦ elim (at x keepers) [ none ↦ b | some q ↦ cond (is_seated_on (left_of t) p or is_seated_on (right_of t) p) (put_on t (kept_on t q.ready) x b) b ]
    ])
    go none = refl
    go (some p) = look p (at x keepers)

merge_turn : (b : Board) (t : Shard) (draws : List ℕ) (c : Board) → ((r : Reshape) → at t b.reshapes ≡ some r → Due merge t r) → Shrunk b c → Finishes (Shrunk b) (cut_merge t draws c)
unfolding cut_merge cut_merge_of place
merge_turn b t draws c was h = go (at t c.reshapes) refl
  where
    cut : (r : Reshape) → at t c.reshapes ≡ some r → Finishes (Shrunk b) (cut_merge_of t r draws c)
    cut r e =
        let d = was r (h.less t r e) in
        let height = larger (height_of (left_of t) c) (height_of (right_of t) c) in
        checked_finishes (Shrunk b) _ _ (λ p. shrunk b c _ t h
        (for_all_keeps (λ v. v.reshapes ≡ remove t c.reshapes) _ (λ x v k. rejoin_reshapes t r.seats x v ∙ k) _ _
        (for_all_keeps (λ v. v.reshapes ≡ remove t c.reshapes) _ (λ x v k. k) _ _ (recast_reshapes merge t height c)))
        (cut_merge_keeps t r c e d.kind d.sound h.seats height))

    go : (o : Option Reshape) → at t c.reshapes ≡ o → Finishes (Shrunk b) (elim o [ none ↦ finished 0 draws c | some r ↦ cut_merge_of t r draws c ])
    go none e = h
    go (some r) e = cut r e

pub cut_merges_kept : (b : Board) → Formed b → Seats b → Seats (cut_merges b).board
unfolding cut_merges
cut_merges_kept b wf h = (batch_keeps (Shrunk b) cut_merge (due merge b) [] b (λ w t o ds c. merge_turn b t ds c (was_due merge b wf t o)) (record { seats = h; less = λ t r e. e })).seats
