-- The settings' words, read and stored.
use Prim.Native.Nat.{ℕ, ◌<◌}
use mathlib.Core.Path.{◌≡◌, refl}
use mathlib.Core.List.{List}
use native.Mathlib.Omega.{arith}
use lib.ListN.{get_or, set}
use Rattle.rules.specs.Board.{Board, on_settings}
use Rattle.rules.specs.Snapshot.{settings_words}
use Rattle.tables.specs.Rows.{pad}
use Rattle.shifts.proofs.Parts.{spot_word, spot_store}
use Rattle.board.specs.Layout.{machines_at, settings_table}
use Rattle.board.specs.Held.{Holds}
use Rattle.board.specs.Leaves.{at_epoch}
use Rattle.board.proofs.Widths.{settings_wide}
use Rattle.board.proofs.Sections.{settings_spot}
use Rattle.board.proofs.Fitting.{held_settings}

module _ (ws : List ℕ) (b : Board) (h : Holds ws b) where
  setting : (c : ℕ) → c < machines_at → get_or ws c 0 ≡ get_or (settings_table b.settings) c 0
  setting c l = spot_word (settings_spot b) b.settings ws c c h.words (omega arith) (omega (arith, settings_wide b.settings))

  pub epoch_is : get_or ws 1 0 ≡ b.settings.epoch
  unfolding settings_table settings_words pad
  epoch_is = setting 1 (omega arith)

  pub size_is : get_or ws 2 0 ≡ b.settings.size
  unfolding settings_table settings_words pad
  size_is = setting 2 (omega arith)

  pub drain_is : get_or ws 3 0 ≡ b.settings.drain
  unfolding settings_table settings_words pad
  drain_is = setting 3 (omega arith)

  pub wait_is : get_or ws 4 0 ≡ b.settings.wait
  unfolding settings_table settings_words pad
  wait_is = setting 4 (omega arith)

  pub interval_is : get_or ws 5 0 ≡ b.settings.interval
  unfolding settings_table settings_words pad
  interval_is = setting 5 (omega arith)

  pub most_is : get_or ws 6 0 ≡ b.settings.most
  unfolding settings_table settings_words pad
  most_is = setting 6 (omega arith)

  pub epoch_stored : (e : ℕ) → Holds (set ws 1 e) (on_settings (at_epoch e) b)
  unfolding settings_table settings_words pad
  epoch_stored e =
      held_settings ws b h (set ws 1 e) (at_epoch e b.settings)
      (spot_store (settings_spot b) b.settings (at_epoch e b.settings) ws 1 1 e h.words refl (omega (arith, settings_wide b.settings)) refl)
