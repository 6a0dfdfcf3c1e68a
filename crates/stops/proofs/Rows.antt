-- The row that reading finds at a place is the row that stands there.
use Prim.Native.Nat.{ℕ, ◌+◌}
use mathlib.Core.Path.{◌≡◌, refl, ap, sym, ◌∙◌}
use mathlib.Core.List.{List, [], ◌∷◌, ◌++◌, append-nil}
use mathlib.Core.Logic.{◌⊎◌, inl, inr}
use mathlib.Core.Bool.{Bool, true, false, cond, false≢true}
use native.Mathlib.Omega.{arith}
use Rattle.std.specs.Prelude.{Option, None, Some}
use lib.ListN.{length, take, drop, take-append-drop}
use lib.Seq.{take_at, drop-drop}
use Rattle.types.specs.Numbers.{Id}
use Rattle.types.specs.declared.Place.{Place}
use Rattle.types.specs.declared.Place.TheVariants.{Pooled, Seated, Observing, Short, Other}
use Rattle.rules.specs.Lists.{◌and◌, ◌or◌, all_of, every}
use Rattle.rules.specs.Table.{Entry, entry}
use Rattle.rules.specs.Board.{Board, Boundary, Reshape, most_members}
use Rattle.rules.specs.WellFormed.{rising, good_list, good_settings, good_committee, good_reshape, well_formed}
use Rattle.rules.specs.Snapshot.{rows_words, section, settings_words, place_words, machine_words, committee_words, boundary_words, rotation_words, reshape_words, words_of, word, read_rows, read_section, read_settings, place_of, read_machine, read_committee, read_boundary, read_rotation, read_board}
use Rattle.rules.proofs.Tests.{and_parts, and_joins, or_cases, or_left, or_right, equal_refl, equal_true}
use Rattle.rules.proofs.SnapshotEncodes.{ids_encode}
use Rattle.rules.proofs.SnapshotRows.{board_encodes}
use Rattle.board.proofs.One.{option_back}
use Rattle.row_tests.specs.declared.RowKind.{RowKind}
use Rattle.row_tests.specs.declared.RowKind.TheVariants.{Machines, Committees, Boundaries, Rotations, Reshapes}
use Rattle.word_tests.specs.Tests.{rises}
use Rattle.row_tests.specs.Rows.{in_pairs}
use Rattle.unpacking.specs.Unpacked.{RowOf, full_row, snap_row}
use Rattle.reading.specs.Stream.{good_of, RowAt, TellsRow}
use Rattle.stops.specs.Stop.{row_at, row_good, row_end}

-- ---- a good row's words, with any after them, are read as it

machine_read : (k : ℕ) (p : Place) (rest : List ℕ) → (read_machine ((k ∷ place_words p) ++ rest)).0 ≡ entry k p
unfolding place_words read_machine place_of word
machine_read k Pooled rest = refl
machine_read k (Seated s true e) rest = refl
machine_read k (Seated s false e) rest = refl
machine_read k (Observing s e) rest = refl
machine_read k Short rest = refl
machine_read k (Other m) rest = refl

boundary_read : (e : Entry Boundary) (rest : List ℕ) → (read_boundary (boundary_words e ++ rest)).0 ≡ e
unfolding boundary_words read_boundary word
boundary_read e rest = rw (option_back e.val.terminal, option_back e.val.admitted)

committee_read : (e : Entry (List Id)) (rest : List ℕ) → good_committee e ≡ true → (read_committee (committee_words e ++ rest)).0 ≡ e
unfolding good_committee committee_words read_committee word
committee_read e rest h = rw ((ids_encode most_members (omega arith) e.val (and_parts _ _ h).1).back rest)

-- a board of one reshape
one_reshape : Entry Reshape → Board
one_reshape e = record { settings = record { epoch = 0; size = 4; drain = 0; wait = 0; interval = 1; most = 0 }; machines = []; committees = []; bounds = []; rotations = []; reshapes = e ∷ [] }

one_good : (e : Entry Reshape) → good_reshape e ≡ true → well_formed (one_reshape e) ≡ true
unfolding one_reshape well_formed good_settings good_list rising every all_of ◌and◌
one_good e h = rw h

reshape_read : (e : Entry Reshape) (rest : List ℕ) → good_reshape e ≡ true → row_at Reshapes (reshape_words e ++ rest) ≡ e
unfolding one_reshape words_of section rows_words settings_words read_board read_settings read_section read_rows word
reshape_read e rest h =
    let b : row_at Reshapes ((reshape_words e ++ []) ++ rest) ∷ [] ≡ e ∷ [] = ap (λ (p : Board × List ℕ). p.0.reshapes) ((board_encodes (one_reshape e) (one_good e h)).back rest) in
    let c = rw (append-nil (reshape_words e)) at b in
    cc

pub row_read : (k : RowKind) (x : RowOf k) (rest : List ℕ) → good_of k x ≡ true → row_at k (snap_row k x ++ rest) ≡ x
unfolding machine_words rotation_words read_rotation word
row_read Machines x rest h = machine_read x.key x.val rest
row_read Committees x rest h = committee_read x rest h
row_read Boundaries x rest h = boundary_read x rest
row_read Rotations x rest h = refl
row_read Reshapes x rest h = reshape_read x rest h

-- ---- where a row ends, told and computed

-- two that are told of one place are one
pub told_one : (k : RowKind) (last : Bool) (ws : List ℕ) (at : ℕ) (r s : Option ℕ) → TellsRow k last ws at r → TellsRow k last ws at s → r ≡ s
told_one k last ws at None None p q = refl
told_one k last ws at None (Some s) p q = p.held s q.yes
told_one k last ws at (Some r) s p q = sym (q.held r p.yes)

module _ (k : RowKind) (last : Bool) (ws : List ℕ) (at : ℕ) where
  found : RowOf k
  found = row_at k (drop at ws)

  -- the row that stands there is the one that is found
  found_is : (e : ℕ) (p : RowAt k last ws at e) → found ≡ p.row
  unfolding found
  found_is e p = ap (row_at k) p.words ∙ row_read k p.row (drop e ws) p.good

  passes : (e : ℕ) (p : RowAt k last ws at e) → row_good k last p.row (drop at ws) ≡ true
  unfolding row_good
  passes e p =
      let t : take (length (snap_row k p.row)) (drop at ws) ≡ snap_row k p.row = ap (take (length (snap_row k p.row))) p.words ∙ take_at (snap_row k p.row) (drop e ws) _ refl in
      let d : drop (length (snap_row k p.row)) (drop at ws) ≡ drop e ws = drop-drop (length (snap_row k p.row)) at ws ∙ ap (λ (n : ℕ). drop n ws) (sym p.next) in
      and_joins _ _ p.good (and_joins _ _ (rw t (equal_refl (snap_row k p.row))) (rw d (go p.order)))
    where
      go : (last ≡ true) ⊎ (rises (in_pairs k) (full_row k p.row) (drop e ws) ≡ true) → (last or rises (in_pairs k) (full_row k p.row) (drop e ws)) ≡ true
      go (inl y) = or_left _ _ y
      go (inr y) = or_right _ _ y

  stands : row_good k last found (drop at ws) ≡ true → RowAt k last ws at (at + length (snap_row k found))
  unfolding row_good
  stands h =
      let p = and_parts _ _ h in
      let q = and_parts _ _ p.1 in
      let d = drop-drop (length (snap_row k found)) at ws in
      record {
        row = found;
        good = p.0;
        words =
            sym (take-append-drop (length (snap_row k found)) (drop at ws))
            ∙ ap (λ (x : List ℕ). x ++ drop (length (snap_row k found)) (drop at ws)) (sym (equal_true _ _ q.0))
            ∙ ap (λ (x : List ℕ). snap_row k found ++ x) d;
        next = refl;
        order = or_cases last _ (rw d at q.1);
      }

  pub row_end_tells : TellsRow k last ws at (row_end k last ws at)
  unfolding found row_end
  row_end_tells = go (row_good k last found (drop at ws)) refl
    where
      go : (c : Bool) → row_good k last found (drop at ws) ≡ c → TellsRow k last ws at (cond c (Some (at + length (snap_row k found))) None)
      go true h = record {
        yes = stands h;
        held = λ e p. ap Some (ap (λ (x : RowOf k). at + length (snap_row k x)) (found_is e p) ∙ sym p.next);
      }
      go false h = record {
        yes = tt;
        held = λ e p. absurd (false≢true (sym h ∙ ap (λ (x : RowOf k). row_good k last x (drop at ws)) (found_is e p) ∙ passes e p));
      }

  pub row_end_is : (r : Option ℕ) → TellsRow k last ws at r → r ≡ row_end k last ws at
  row_end_is r p = told_one k last ws at r (row_end k last ws at) p row_end_tells
