-- The board decided: the test of the words says yes exactly if they hold a well-formed board.
use Prim.Native.Nat.{ℕ, ◌+◌, ◌-◌, ◌*◌}
use mathlib.Core.Path.{◌≡◌, refl, ap, sym, ◌∙◌}
use mathlib.Core.List.{List, ◌++◌}
use mathlib.Core.Bool.{Bool, true, false, or-false}
use native.Mathlib.Omega.{arith}
use borrow.Author.Tests.{eqb-true, eq-eqb}
use lib.ListN.{length, drop}
use lib.Seq.{drop_at}
use Rattle.rules.specs.Board.{Board, most_machines, most_committees, most_bounds, most_rotations, most_reshapes}
use Rattle.rules.specs.WellFormed.{key_before, good_table, good_list, good_machine, good_committee, good_boundary, good_rotation, good_reshape, rotation_before, well_formed}
use Rattle.rules.specs.Snapshot.{machine_words, boundary_words, rotation_words, reshape_words}
use Rattle.rules.proofs.Tests.{all_parts, all_joins}
use Rattle.shifts.proofs.Parts.{between_length, part_is, part_after}
use Rattle.board.specs.Layout.{machine_width, committee_width, boundary_width, rotation_width, reshape_width, machines_at, committees_at, bounds_at, rotations_at, reshapes_at, board_size, committee_row, reshape_head, reshape_row, settings_table, machine_table, committee_table, boundary_table, rotation_table, reshape_table, encode}
use Rattle.board.specs.Permitted.{WellHeld}
use Rattle.board.proofs.Widths.{board_wide}
use Rattle.board.proofs.One.{well_formed_fits}
use Rattle.row_tests.specs.declared.RowKind.TheVariants.{Machines, Committees, Boundaries, Rotations, Reshapes}
use Rattle.wellformed.specs.Tells.{Tells}
use Rattle.word_tests.specs.Tests.{between, all_pass, any_pass, rises}
use Rattle.row_tests.specs.Rows.{machine_ok, committee_ok, boundary_ok, rotation_ok, reshape_ok, kind_ok}
use Rattle.wellformed.specs.Check.{settings_ok, shards_ok, underway_ok, well_formed_words}
use Rattle.word_tests.proofs.Tests.{and_is, or_is, pass_parts, pass_joins}
use Rattle.word_tests.proofs.Decides.{Words, Decides, table_decides}
use Rattle.row_tests.proofs.Rows.{between_words, to_end, machine_decides, committee_decides, boundary_decides, rotation_decides}
use Rattle.wellformed.proofs.Settings.{settings_decides}
use Rattle.row_tests.proofs.Reshapes.{cut, join, reshape_decides}

-- ---- the tables, each by the one law

machines_decide : Decides machine_table (good_table most_machines good_machine) (1 + most_machines * machine_width) (kind_ok Machines most_machines)
unfolding machine_words all_pass any_pass
machines_decide = table_decides machine_words good_machine machine_width machine_ok machine_decides key_before (rises false) (λ x y a b. or-false _) most_machines

committees_decide : Decides committee_table (good_table most_committees good_committee) (1 + most_committees * committee_width) (kind_ok Committees most_committees)
unfolding committee_row all_pass any_pass
committees_decide = table_decides committee_row good_committee committee_width committee_ok committee_decides key_before (rises false) (λ x y a b. or-false _) most_committees

bounds_decide : Decides boundary_table (good_table most_bounds good_boundary) (1 + most_bounds * boundary_width) (kind_ok Boundaries most_bounds)
unfolding boundary_words all_pass any_pass
bounds_decide = table_decides boundary_words good_boundary boundary_width boundary_ok boundary_decides key_before (rises false) (λ x y a b. or-false _) most_bounds

rotations_decide : Decides rotation_table (good_list most_rotations good_rotation rotation_before) (1 + most_rotations * rotation_width) (kind_ok Rotations most_rotations)
unfolding rotation_words rotation_before all_pass any_pass
rotations_decide =
    table_decides rotation_words good_rotation rotation_width rotation_ok rotation_decides rotation_before (rises true) (λ x y a b. sym (rw and_is (or_is _ _))) most_rotations

reshapes_decide : Decides reshape_table (good_table most_reshapes good_reshape) (1 + most_reshapes * reshape_width) (kind_ok Reshapes most_reshapes)
unfolding reshape_row reshape_head reshape_words all_pass any_pass
reshapes_decide = table_decides reshape_row good_reshape reshape_width reshape_ok reshape_decides key_before (rises false) (λ x y a b. or-false _) most_reshapes

-- ---- the board

board_sound : (t : List ℕ) → Words t → well_formed_words t ≡ true → WellHeld t
unfolding well_formed_words shards_ok underway_ok encode well_formed
board_sound t ws h =
    let y = pass_parts _ h in
    let z = pass_parts _ y.1.1.1.0 in
    let u = pass_parts _ y.1.1.1.1.0 in
    let l : length t ≡ board_size = eqb-true (length t) board_size y.0 in
    let s = settings_decides.sound (between 0 machines_at t) (between_words 0 machines_at t ws) (between_length 0 machines_at t (omega arith)) y.1.0 in
    let m = machines_decide.sound (between machines_at committees_at t) (between_words machines_at committees_at t ws) (between_length machines_at committees_at t (omega arith)) y.1.1.0 in
    let c = committees_decide.sound (between committees_at bounds_at t) (between_words committees_at bounds_at t ws) (between_length committees_at bounds_at t (omega arith)) z.0 in
    let b = bounds_decide.sound (between bounds_at rotations_at t) (between_words bounds_at rotations_at t ws) (between_length bounds_at rotations_at t (omega arith)) z.1.0 in
    let o = rotations_decide.sound (between rotations_at reshapes_at t) (between_words rotations_at reshapes_at t ws) (between_length rotations_at reshapes_at t (omega arith)) u.0 in
    let r = reshapes_decide.sound (between reshapes_at board_size t) (between_words reshapes_at board_size t ws) (between_length reshapes_at board_size t (omega arith)) u.1.0 in
    let v : Board = record { settings = s.value; machines = m.value; committees = c.value; bounds = b.value; rotations = o.value; reshapes = r.value } in
    let good : well_formed v ≡ true = all_joins _ (s.fine, (m.fine, (c.fine, (b.fine, (o.fine, (r.fine, tt)))))) in
    record {
      board = v;
      holds = record {
        words = cut 0 machines_at t (omega arith)
            ∙ join s.words (cut machines_at committees_at t (omega arith)
            ∙ join m.words (cut committees_at bounds_at t (omega arith)
            ∙ join c.words (cut bounds_at rotations_at t (omega arith)
            ∙ join b.words (cut rotations_at reshapes_at t (omega arith) ∙ join o.words (sym (to_end reshapes_at board_size t (omega arith)) ∙ r.words)))));
        fits = well_formed_fits v good;
      };
      good = good;
    }

board_complete : (b : Board) → well_formed b ≡ true → well_formed_words (encode b) ≡ true
unfolding well_formed_words shards_ok underway_ok encode well_formed
board_complete b g =
    let p = all_parts _ g in
    let S = settings_table b.settings in
    let M = machine_table b.machines in
    let C = committee_table b.committees in
    let B = boundary_table b.bounds in
    let O = rotation_table b.rotations in
    let R = reshape_table b.reshapes in
    let t = S ++ (M ++ (C ++ (B ++ (O ++ R)))) in
    let ls : length S ≡ machines_at = settings_decides.wide b.settings in
    let lm : length M ≡ committees_at - machines_at = machines_decide.wide b.machines in
    let lc : length C ≡ bounds_at - committees_at = committees_decide.wide b.committees in
    let lb : length B ≡ rotations_at - bounds_at = bounds_decide.wide b.bounds in
    let lo : length O ≡ reshapes_at - rotations_at = rotations_decide.wide b.rotations in
    let lt : length t ≡ board_size = board_wide b in
    let dm : drop machines_at t ≡ M ++ (C ++ (B ++ (O ++ R))) = drop_at S (M ++ (C ++ (B ++ (O ++ R)))) machines_at ls in
    let dc : drop committees_at t ≡ C ++ (B ++ (O ++ R)) = part_after machines_at (committees_at - machines_at) committees_at t M (C ++ (B ++ (O ++ R))) dm lm refl in
    let db : drop bounds_at t ≡ B ++ (O ++ R) = part_after committees_at (bounds_at - committees_at) bounds_at t C (B ++ (O ++ R)) dc lc refl in
    let do' : drop rotations_at t ≡ O ++ R = part_after bounds_at (rotations_at - bounds_at) rotations_at t B (O ++ R) db lb refl in
    let dr : drop reshapes_at t ≡ R = part_after rotations_at (reshapes_at - rotations_at) reshapes_at t O R do' lo refl in
    let shards : shards_ok t ≡ true = pass_joins _ (
      ap (kind_ok Committees most_committees) (part_is committees_at bounds_at t C (B ++ (O ++ R)) dc lc) ∙ committees_decide.complete b.committees p.1.1.0,
      (ap (kind_ok Boundaries most_bounds) (part_is bounds_at rotations_at t B (O ++ R) db lb) ∙ bounds_decide.complete b.bounds p.1.1.1.0, tt),
    ) in
    let underway : underway_ok t ≡ true = pass_joins _ (
      ap (kind_ok Rotations most_rotations) (part_is rotations_at reshapes_at t O R do' lo) ∙ rotations_decide.complete b.rotations p.1.1.1.1.0,
      (ap (kind_ok Reshapes most_reshapes) (to_end reshapes_at board_size t (omega arith) ∙ dr) ∙ reshapes_decide.complete b.reshapes p.1.1.1.1.1.0, tt),
    ) in
    pass_joins _ (
      eq-eqb _ _ lt,
      (
        ap settings_ok (part_is 0 machines_at t S (M ++ (C ++ (B ++ (O ++ R)))) refl ls) ∙ settings_decides.complete b.settings p.0,
        (ap (kind_ok Machines most_machines) (part_is machines_at committees_at t M (C ++ (B ++ (O ++ R))) dm lm) ∙ machines_decide.complete b.machines p.1.0, (shards, (underway, tt))),
      ),
    )

-- THE CHECK TELLS, of any words, whether they hold a well-formed board
pub tells : (t : List ℕ) (r : Bool) → Words t → r ≡ well_formed_words t → Tells t r
tells t r ws e = record {
  yes = λ h. board_sound t ws (sym e ∙ h);
  held = λ h. e ∙ ap well_formed_words h.holds.words ∙ board_complete h.board h.good;
}
