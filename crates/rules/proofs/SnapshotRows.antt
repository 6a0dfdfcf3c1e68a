-- Each section's rows read back, and so does a board.
use Prim.Native.Nat.{ℕ, ◌≤◌}
use mathlib.Core.Path.{◌≡◌, refl}
use mathlib.Core.List.{[], ◌∷◌}
use mathlib.Core.Option.{Option, none, some}
use mathlib.Core.Bool.{Bool, true, false, cond}
use native.Mathlib.Omega.{arith}
use mathlib.Core.Logic.{⊎_elim}
use borrow.Author.Tests.{leb-true, eqb-true}
use lib.Dec.{eqb, leb}
use Rattle.types.specs.Numbers.{Shard, Epoch}
use Rattle.types.specs.Shards.{left_of, right_of}
use Rattle.types.specs.declared.Place.{Place}
use Rattle.types.specs.declared.Place.TheVariants.{Pooled, Seated, Observing, Short, Other}
use Rattle.rules.specs.Lists.{◌and◌, ◌or◌, bit_of}
use Rattle.rules.specs.Table.{entry}
use Rattle.rules.specs.Board.{Kind, split, merge, most_machines, most_committees, most_members, most_bounds, most_rotations, most_reshapes, most_seats, most_half, last_stamp, last_shard, last_target, last_word}
use Rattle.rules.specs.WellFormed.{within, is_word, is_shard, is_stamp, key_before, rotation_before, good_ids, good_option, good_settings, good_place, good_machine, good_committee, good_boundary, good_rotation, good_seat, good_reshape, well_formed}
use Rattle.rules.specs.Snapshot.{◌>>=◌, give, flag_of, value_of, settings_words, place_words, machine_words, committee_words, boundary_words, rotation_words, kind_word, seat_words, reshape_words, words_of, word, option_of, is_one, read_settings, place_of, read_machine, read_committee, read_boundary, read_rotation, read_seat, read_reshape, read_board}
use Rattle.rules.proofs.Tests.{and_parts, or_cases, all_parts}
use Rattle.rules.proofs.SnapshotEncodes.{Reads, Encodes, flat, one, ◌then◌, made, list_encodes, ids_encode}

-- ---- what a word says

within_high : (low high n : ℕ) → within low high n ≡ true → n ≤ high
within_high low high n h = leb-true n high (and_parts (leb low n) (leb n high) h).1

bit_reads : (c : Bool) → Reads (do n ← word; give (is_one n)) c (bit_of c ∷ []) 1
unfolding word
bit_reads true = flat _ (λ rest. refl) (omega arith)
bit_reads false = flat _ (λ rest. refl) (omega arith)

-- 'kind (0 split, 1 merge)'
kind_reads : (k : Kind) → Reads (do n ← word; give (cond (is_one n) merge split)) k (kind_word k ∷ []) 1
unfolding kind_word word
kind_reads split = flat _ (λ rest. refl) (omega arith)
kind_reads merge = flat _ (λ rest. refl) (omega arith)

-- 'each a flag and a value'
option_reads : (o : Option Epoch) → good_option o ≡ true → Reads (do f ← word; n ← word; give (option_of f n)) o (flag_of o ∷ value_of o ∷ []) 2
unfolding good_option option_of flag_of value_of word
option_reads none h = flat _ (λ rest. refl) (omega arith)
option_reads (some e) h = flat _ (λ rest. refl) (omega (arith, leb-true))

-- ---- rows

settings_encode : Encodes good_settings settings_words read_settings 7
unfolding good_settings settings_words read_settings word
settings_encode s h = let p = all_parts _ h in flat _ (λ rest. refl) (omega (arith, leb-true, within_high))

stamped_most : (s w : ℕ) → (is_shard s and is_stamp w) ≡ true → (s ≤ last_shard) × (w ≤ last_stamp)
stamped_most s w h = let p = and_parts (is_shard s) (is_stamp w) h in omega (arith, leb-true, within_high)

machine_reads : (k : ℕ) (p : Place) → k ≤ last_word → good_place p ≡ true → Reads read_machine (entry k p) (k ∷ place_words p) 5
unfolding good_place place_words read_machine place_of word
machine_reads k Pooled w h = flat _ (λ rest. refl) (omega arith)
machine_reads k (Seated s true e) w h = flat _ (λ rest. refl) (omega (arith, stamped_most s.0 e.0 h))
machine_reads k (Seated s false e) w h = flat _ (λ rest. refl) (omega (arith, stamped_most s.0 e.0 h))
machine_reads k (Observing s e) w h = flat _ (λ rest. refl) (omega (arith, stamped_most s.0 e.0 h))
machine_reads k Short w h = flat _ (λ rest. refl) (omega arith)
machine_reads k (Other m) w h = flat _ (λ rest. refl) (omega (arith, within_high))

machine_encodes : Encodes good_machine machine_words read_machine 5
unfolding good_machine machine_words
machine_encodes e h = let p = and_parts (is_word e.key) (good_place e.val) h in machine_reads e.key e.val (leb-true _ _ p.0) p.1

committee_encodes : Encodes good_committee committee_words read_committee 98
unfolding good_committee committee_words read_committee
committee_encodes e h =
    let p = and_parts (is_shard e.key) (good_ids most_members e.val) h in
    made (λ (shard, members). entry shard members) refl (one e.key (omega (arith, within_high)) then ids_encode most_members (omega arith) e.val p.1)

boundary_encodes : Encodes good_boundary boundary_words read_boundary 8
unfolding good_boundary boundary_words read_boundary
boundary_encodes e h =
    let p = all_parts _ h in
    made
    (λ (shard, (height, (formed, (last_live, (terminal, admitted))))). entry shard (record { height = height; formed = formed; last_live = last_live; terminal = terminal; admitted = admitted }))
    refl
    (one e.key (omega (arith, within_high))
    then one e.val.height (omega (arith, leb-true))
    then one e.val.formed (omega (arith, leb-true))
    then one e.val.last_live (omega (arith, leb-true))
    then option_reads e.val.terminal (search)
    then option_reads e.val.admitted (search))

rotation_encodes : Encodes good_rotation rotation_words read_rotation 4
unfolding good_rotation rotation_words read_rotation word
rotation_encodes r h = let p = all_parts _ h in flat _ (λ rest. refl) (omega (arith, leb-true, within_high))

-- 'a seat's child is a child of its target', so it is a word
child_most : (t c : Shard) → t ≤ last_target → (eqb c (left_of t) or eqb c (right_of t)) ≡ true → c ≤ last_word
child_most t c small h = ⊎_elim (λ e. omega (arith, eqb-true)) (λ e. omega (arith, eqb-true)) (or_cases _ _ h)

seat_encodes : (t : Shard) → t ≤ last_target → Encodes (good_seat t) seat_words read_seat 3
unfolding good_seat seat_words read_seat
seat_encodes t small e h =
    let p = and_parts (is_word e.key) _ h in
    made (λ (id, (child, ready)). entry id (record { child = child; ready = ready })) refl
    (one e.key (leb-true _ _ p.0) then one e.val.child (child_most t e.val.child small p.1) then bit_reads e.val.ready)

reshape_encodes : Encodes good_reshape reshape_words read_reshape 204
unfolding good_reshape reshape_words read_reshape
reshape_encodes e h =
    let p = all_parts _ h in
    made
    (λ (target, (kind, (admitted, (drain_by, (terminal, (quiet_left, (quiet_right, (seats, (left, right))))))))). entry target (record {
      kind = kind;
      admitted = admitted;
      drain_by = drain_by;
      terminal = terminal;
      quiet_left = quiet_left;
      quiet_right = quiet_right;
      seats = seats;
      left = left;
      right = right;
    }))
    refl
    (one e.key (omega (arith, within_high))
    then kind_reads e.val.kind
    then one e.val.admitted (omega (arith, leb-true))
    then option_reads e.val.drain_by (search)
    then option_reads e.val.terminal (search)
    then bit_reads e.val.quiet_left
    then bit_reads e.val.quiet_right
    then list_encodes (seat_encodes e.key (within_high _ _ _ p.0)) most_seats key_before (omega arith) e.val.seats (search)
    then ids_encode most_half (omega arith) e.val.left (search)
    then ids_encode most_half (omega arith) e.val.right (search))

-- ---- the board

pub board_encodes : Encodes well_formed words_of read_board 5852
unfolding well_formed words_of read_board
board_encodes b h =
    let p = all_parts _ h in
    made
    (λ (settings, (machines, (committees, (bounds, (rotations, reshapes))))).
    record { settings = settings; machines = machines; committees = committees; bounds = bounds; rotations = rotations; reshapes = reshapes })
    refl
    (settings_encode b.settings (search)
    then list_encodes machine_encodes most_machines key_before (omega arith) b.machines (search)
    then list_encodes committee_encodes most_committees key_before (omega arith) b.committees (search)
    then list_encodes boundary_encodes most_bounds key_before (omega arith) b.bounds (search)
    then list_encodes rotation_encodes most_rotations rotation_before (omega arith) b.rotations (search)
    then list_encodes reshape_encodes most_reshapes key_before (omega arith) b.reshapes (search))
