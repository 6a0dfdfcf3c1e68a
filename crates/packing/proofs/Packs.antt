-- The packed words of a board that fits are its snapshot's words.
use Prim.Native.Nat.{ℕ, suc, ◌+◌, ◌-◌, ◌*◌, ◌≤◌}
use mathlib.Core.Path.{◌≡◌, refl, ap, ◌∙◌}
use mathlib.Core.List.{List, [], ◌∷◌, ◌++◌, append_assoc}
use mathlib.Core.Bool.{Bool, true}
use native.Mathlib.Omega.{arith}
use native.Mathlib.Nat.{mul-le-mul_right, min-eq_left}
use borrow.Author.Tests.{leb-true}
use lib.ListN.{length, take, drop, replicate}
use lib.Seq.{take_at, drop_at, take_all}
use Rattle.types.specs.Numbers.{Id}
use Rattle.rules.specs.Lists.{every}
use Rattle.rules.specs.Table.{Entry}
use Rattle.rules.specs.Board.{Settings, Reshape, Board, most_machines, most_committees, most_members, most_bounds, most_rotations, most_reshapes, most_seats, most_half}
use Rattle.rules.specs.Snapshot.{rows_words, section, id_words, settings_words, machine_words, committee_words, boundary_words, rotation_words, seat_words, reshape_words, words_of}
use Rattle.rules.proofs.Tests.{all_parts, every_parts}
use Rattle.shifts.proofs.Parts.{part_is, part_after}
use Rattle.tables.specs.Rows.{pad, table, id_table}
use Rattle.tables.proofs.Tables.{pad_is, rows_length, table_length}
use Rattle.board.specs.Layout.{machine_width, committee_width, boundary_width, rotation_width, seat_width, seats_at, left_at, right_at, reshape_width, machines_at, committees_at, bounds_at, rotations_at, reshapes_at, board_size, committee_row, seat_table, reshape_head, reshape_row, settings_table, machine_table, committee_table, boundary_table, rotation_table, reshape_table, encode}
use Rattle.board.specs.Held.{roomy_committee, roomy_reshape, Fits}
use Rattle.board.proofs.Widths.{machine_wide, id_wide, committee_wide, boundary_wide, rotation_wide, seat_wide, head_wide, reshape_parts_lem, reshape_wide, settings_wide}
use Rattle.row_tests.specs.declared.RowKind.{RowKind}
use Rattle.row_tests.specs.declared.RowKind.TheVariants.{Committees, Reshapes}
use Rattle.row_tests.specs.Rows.{width_of}
use Rattle.packing.specs.Packed.{between, count_of, flat, committee, reshape, row_of, rows_of, nested, from_bounds, packed}

part_last : (a e : ℕ) (t A : List ℕ) → drop a t ≡ A → length A ≡ e - a → between a e t ≡ A
part_last a e t A p l = ap (take (e - a)) p ∙ take_all (e - a) A (omega arith)

module _ {A : Type 0} (f : A → List ℕ) (w : ℕ) (fw : (x : A) → length (f x) ≡ w) (cap : ℕ) (xs : List A) (fits : length xs ≤ cap) where
  padded : pad (cap * w) (rows_words f xs) ≡ rows_words f xs ++ replicate (cap * w - length (rows_words f xs)) 0
  padded = pad_is (cap * w) (rows_words f xs) (omega (arith, rows_length f w fw xs, mul-le-mul_right w fits))

  counted : count_of cap (table f w cap xs) ≡ length xs
  unfolding count_of
  counted = min-eq_left fits

  pub flat_packs : flat w cap (table f w cap xs) ≡ section f xs
  unfolding flat section
  flat_packs =
      let e : 1 + length xs * w ≡ suc (length xs * w) = omega arith in
      rw (counted, e) (ap (λ (l : List ℕ). length xs ∷ l) (ap (take (length xs * w)) padded ∙ take_at (rows_words f xs) _ (length xs * w) (rows_length f w fw xs)))

-- rows with lists, each by its own law
module _ {A : Type 0} (k : RowKind) (f g : A → List ℕ) (ok : A → Bool) (fw : (x : A) → length (f x) ≡ width_of k) (packs : (x : A) → ok x ≡ true → row_of k (f x) ≡ g x) where
  rows_pack : (xs : List A) (z : List ℕ) → every ok xs ≡ true → rows_of k (length xs) (rows_words f xs ++ z) ≡ rows_words g xs
  unfolding rows_of rows_words
  rows_pack [] z h = refl
  rows_pack (x ∷ xs) z h =
      let p = every_parts ok x xs h in
      let s : (f x ++ rows_words f xs) ++ z ≡ f x ++ (rows_words f xs ++ z) = append_assoc (f x) (rows_words f xs) z in
      rw (s, take_at (f x) (rows_words f xs ++ z) (width_of k) (fw x), drop_at (f x) (rows_words f xs ++ z) (width_of k) (fw x), packs x p.0, rows_pack xs z p.1)

  nested_packs : (cap : ℕ) (xs : List A) → length xs ≤ cap → every ok xs ≡ true → nested k cap (table f (width_of k) cap xs) ≡ section g xs
  unfolding nested section
  nested_packs cap xs l h =
      rw (counted f (width_of k) fw cap xs l)
      (ap (λ (r : List ℕ). length xs ∷ r) (ap (rows_of k (length xs)) (padded f (width_of k) fw cap xs l) ∙ rows_pack xs _ h))

settings_pack : (s : Settings) (z : List ℕ) → take 7 (settings_table s ++ z) ≡ settings_words s
unfolding settings_table settings_words pad
settings_pack s z = refl

pub committee_packs : (e : Entry (List Id)) → roomy_committee e ≡ true → row_of Committees (committee_row e) ≡ committee_words e
unfolding committee committee_row committee_words roomy_committee
committee_packs e h =
    let l : length (id_table most_members e.val) ≡ 97 = table_length id_words 1 most_members e.val in
    rw (part_last 1 98 (e.key ∷ id_table most_members e.val) (id_table most_members e.val) refl l, flat_packs id_words 1 id_wide most_members e.val (leb-true _ _ h))

head_is : (e : Entry Reshape) → reshape_head e ++ (section seat_words e.val.seats ++ (section id_words e.val.left ++ section id_words e.val.right)) ≡ reshape_words e
unfolding reshape_head reshape_words
head_is e = refl

four : {a b c d x y z w : List ℕ} → a ≡ x → b ≡ y → c ≡ z → d ≡ w → a ++ (b ++ (c ++ d)) ≡ x ++ (y ++ (z ++ w))
four p q r s = rw (p, q, r, s)

pub reshape_packs : (e : Entry Reshape) → roomy_reshape e ≡ true → row_of Reshapes (reshape_row e) ≡ reshape_words e
unfolding reshape roomy_reshape
reshape_packs e h =
    let q = all_parts _ h in
    let H = reshape_head e in
    let S = seat_table e.val.seats in
    let L = id_table most_half e.val.left in
    let R = id_table most_half e.val.right in
    let t = reshape_row e in
    let d0 : t ≡ H ++ (S ++ (L ++ R)) = reshape_parts_lem e in
    let ls : length S ≡ left_at - seats_at = table_length seat_words seat_width most_seats e.val.seats in
    let ll : length L ≡ right_at - left_at = table_length id_words 1 most_half e.val.left in
    let lr : length R ≡ reshape_width - right_at = table_length id_words 1 most_half e.val.right in
    let ds : drop seats_at t ≡ S ++ (L ++ R) = part_after 0 seats_at seats_at t H (S ++ (L ++ R)) d0 (head_wide e) refl in
    let dl : drop left_at t ≡ L ++ R = part_after seats_at (left_at - seats_at) left_at t S (L ++ R) ds ls refl in
    let dr : drop right_at t ≡ R = part_after left_at (right_at - left_at) right_at t L R dl ll refl in
    let h0 : take seats_at t ≡ H = ap (take seats_at) d0 ∙ take_at H (S ++ (L ++ R)) seats_at (head_wide e) in
    let hs : flat seat_width most_seats (between seats_at left_at t) ≡ section seat_words e.val.seats =
    ap (flat seat_width most_seats) (part_is seats_at left_at t S (L ++ R) ds ls) ∙ flat_packs seat_words seat_width seat_wide most_seats e.val.seats (leb-true _ _ q.0) in
    let hl : flat 1 most_half (between left_at right_at t) ≡ section id_words e.val.left =
    ap (flat 1 most_half) (part_is left_at right_at t L R dl ll) ∙ flat_packs id_words 1 id_wide most_half e.val.left (leb-true _ _ q.1.0) in
    let hr : flat 1 most_half (between right_at reshape_width t) ≡ section id_words e.val.right =
    ap (flat 1 most_half) (part_last right_at reshape_width t R dr lr) ∙ flat_packs id_words 1 id_wide most_half e.val.right (leb-true _ _ q.1.1.0) in
    four h0 hs hl hr ∙ head_is e

-- THE SNAPSHOT'S WORDS are the board's words without their room
pub packed_encode : (b : Board) → Fits b → packed (encode b) ≡ words_of b
unfolding packed from_bounds encode words_of
packed_encode b q =
    let S = settings_table b.settings in
    let M = machine_table b.machines in
    let C = committee_table b.committees in
    let B = boundary_table b.bounds in
    let O = rotation_table b.rotations in
    let R = reshape_table b.reshapes in
    let t = S ++ (M ++ (C ++ (B ++ (O ++ R)))) in
    let lm : length M ≡ committees_at - machines_at = table_length machine_words machine_width most_machines b.machines in
    let lc : length C ≡ bounds_at - committees_at = table_length committee_row committee_width most_committees b.committees in
    let lb : length B ≡ rotations_at - bounds_at = table_length boundary_words boundary_width most_bounds b.bounds in
    let lo : length O ≡ reshapes_at - rotations_at = table_length rotation_words rotation_width most_rotations b.rotations in
    let lr : length R ≡ board_size - reshapes_at = table_length reshape_row reshape_width most_reshapes b.reshapes in
    let dm : drop machines_at t ≡ M ++ (C ++ (B ++ (O ++ R))) = drop_at S (M ++ (C ++ (B ++ (O ++ R)))) machines_at (settings_wide b.settings) in
    let dc : drop committees_at t ≡ C ++ (B ++ (O ++ R)) = part_after machines_at (committees_at - machines_at) committees_at t M (C ++ (B ++ (O ++ R))) dm lm refl in
    let db : drop bounds_at t ≡ B ++ (O ++ R) = part_after committees_at (bounds_at - committees_at) bounds_at t C (B ++ (O ++ R)) dc lc refl in
    let dp : drop rotations_at t ≡ O ++ R = part_after bounds_at (rotations_at - bounds_at) rotations_at t B (O ++ R) db lb refl in
    let dr : drop reshapes_at t ≡ R = part_after rotations_at (reshapes_at - rotations_at) reshapes_at t O R dp lo refl in
    six (settings_pack b.settings (M ++ (C ++ (B ++ (O ++ R)))))
    (ap (flat machine_width most_machines) (part_is machines_at committees_at t M (C ++ (B ++ (O ++ R))) dm lm) ∙ flat_packs machine_words machine_width machine_wide most_machines b.machines q.machines)
    (ap (nested Committees most_committees) (part_is committees_at bounds_at t C (B ++ (O ++ R)) dc lc) ∙ nested_packs Committees committee_row committee_words roomy_committee committee_wide committee_packs most_committees b.committees q.committees q.members)
    (ap (flat boundary_width most_bounds) (part_is bounds_at rotations_at t B (O ++ R) db lb) ∙ flat_packs boundary_words boundary_width boundary_wide most_bounds b.bounds q.bounds)
    (ap (flat rotation_width most_rotations) (part_is rotations_at reshapes_at t O R dp lo) ∙ flat_packs rotation_words rotation_width rotation_wide most_rotations b.rotations q.rotations)
    (ap (nested Reshapes most_reshapes) (part_last reshapes_at board_size t R dr lr) ∙ nested_packs Reshapes reshape_row reshape_words roomy_reshape reshape_wide reshape_packs most_reshapes b.reshapes q.reshapes q.lists)
  where
    six : {a b c d e f u v w x y z : List ℕ} → a ≡ u → b ≡ v → c ≡ w → d ≡ x → e ≡ y → f ≡ z → a ++ (b ++ (c ++ (d ++ (e ++ f)))) ≡ u ++ (v ++ (w ++ (x ++ (y ++ z))))
    six p q r s t o = rw (p, q, r, s, t, o)
