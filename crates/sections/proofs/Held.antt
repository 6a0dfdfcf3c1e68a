-- Of words that hold a board, the tables by name are the board's tables.
use Prim.Native.Nat.{ℕ}
use mathlib.Core.Path.{◌≡◌}
use mathlib.Core.List.{List}
use Rattle.rules.specs.Board.{Board}
use Rattle.board.specs.Layout.{machine_table, committee_table, boundary_table, rotation_table, reshape_table}
use Rattle.board.specs.Held.{Holds}
use Rattle.board.proofs.Sections.{section_lent, machines, committees, bounds, rotations, reshapes}
use Rattle.sections.specs.declared.Section.TheVariants.{Machines, Committees, Boundaries, Rotations, Reshapes}
use Rattle.sections.specs.Tables.{span_of, words_at, table_in}

module _ (ws : List ℕ) (b : Board) (h : Holds ws b) (j : ℕ) where
  pub machines_lent : table_in Machines j ws ≡ machine_table b.machines
  unfolding span_of words_at
  machines_lent = section_lent machines ws b h

  pub committees_lent : table_in Committees j ws ≡ committee_table b.committees
  unfolding span_of words_at
  committees_lent = section_lent committees ws b h

  pub bounds_lent : table_in Boundaries j ws ≡ boundary_table b.bounds
  unfolding span_of words_at
  bounds_lent = section_lent bounds ws b h

  pub rotations_lent : table_in Rotations j ws ≡ rotation_table b.rotations
  unfolding span_of words_at
  rotations_lent = section_lent rotations ws b h

  pub reshapes_lent : table_in Reshapes j ws ≡ reshape_table b.reshapes
  unfolding span_of words_at
  reshapes_lent = section_lent reshapes ws b h
