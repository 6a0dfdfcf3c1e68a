-- A machine told where all its words stand.
use Prim.Native.Nat.{ℕ, ◌+◌, ◌*◌, ◌/◌, ◌≤◌}
use mathlib.Core.Path.{◌≡◌, refl, sym, ◌∙◌}
use mathlib.Core.List.{List}
use mathlib.Core.Logic.{◌⊎◌, inl, inr}
use mathlib.Core.Bool.{Bool, true, false}
use native.Mathlib.Omega.{arith}
use Rattle.std.specs.Prelude.{None, Some}
use lib.Dec.{ltb}
use lib.ListN.{length, get_or, drop, replicate}
use Rattle.rules.specs.Snapshot.{read_words}
use Rattle.board.specs.Layout.{machine_width}
use Rattle.board.proofs.Widths.{machine_wide}
use Rattle.row_tests.specs.declared.RowKind.TheVariants.{Machines}
use Rattle.row_tests.specs.Rows.{machine_ok}
use Rattle.word_tests.specs.Tests.{rises}
use Rattle.unpacking.specs.AsWords.{AsWords}
use Rattle.unpacking.specs.Unpacked.{RowRead}
use Rattle.unpacking.proofs.Parts.{words_read}
use Rattle.unpacking.proofs.Rows.{flat_read, row_read}
use Rattle.reading.specs.Stream.{TellsRow}
use Rattle.reading.proofs.Streams.{part_words, rises_one, row_bad, row_falls, row_told}

module _ (last : Bool) {bs ws : List ℕ} (h : AsWords bs ws) (at : ℕ) (t : List ℕ) (room : at + machine_width ≤ length bs / 8) (e : t ≡ read_words machine_width (drop (8 * at) bs)) where
  read : RowRead Machines ws t at (Some (at + machine_width))
  read = row_read {k = Machines} (flat_read Machines (replicate machine_width 0) refl refl (omega arith) (λ v. refl) machine_wide (words_read h at machine_width t room e))

  pub machine_bad : machine_ok t ≡ false → TellsRow Machines last ws at None
  machine_bad n = row_bad Machines last ws at t _ read n

  pub machine_falls : last ≡ false → (w : ℕ) → w ≡ get_or ws (at + machine_width) 0 → ltb (get_or t 0 0) w ≡ false → TellsRow Machines last ws at None
  machine_falls l w q f = row_falls Machines last ws at t _ read l (sym (rises_one t ws (at + machine_width) w q) ∙ f)

  module _ (wide : length t ≡ machine_width) (ok : machine_ok t ≡ true) where
    told : (last ≡ true) ⊎ (rises false t (drop (at + machine_width) ws) ≡ true) → TellsRow Machines last ws at (Some (at + machine_width))
    told = row_told Machines last ws at t _ read (part_words ws t _ at h.words read.read.2) wide ok

    pub machine_last : last ≡ true → TellsRow Machines last ws at (Some (at + machine_width))
    machine_last l = told (inl l)

    -- w is the next row's id
    pub machine_next : (w : ℕ) → w ≡ get_or ws (at + machine_width) 0 → ltb (get_or t 0 0) w ≡ true → TellsRow Machines last ws at (Some (at + machine_width))
    machine_next w q y = told (inr (sym (rises_one t ws (at + machine_width) w q) ∙ y))
