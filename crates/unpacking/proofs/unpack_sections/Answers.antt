use Rattle.unpacking.proofs.Boards.{board_read, no_settings, no_machines, no_committees}
use Rattle.unpacking.proofs.unpack_sections.Goals as goal

pub returns-in_err-machines : goal.returns-in_err-machines
returns-in_err-machines c = rw c.from_residual.ensures (no_settings _ _ c.in_err-machines.ensures)

pub returns-in_err-committees : goal.returns-in_err-committees
returns-in_err-committees c = rw c.from_residual-in_err-committees.ensures (no_machines _ _ c.in_ok-machines.ensures c.in_err-committees.ensures)

pub returns-in_err-bounds : goal.returns-in_err-bounds
returns-in_err-bounds c = rw c.from_residual-in_err-bounds.ensures (no_committees _ _ c.in_ok-machines.ensures c.in_ok-committees.ensures c.in_err-bounds.ensures)

pub returns : goal.returns
returns c = record {
  whole =
      board_read c.in_ok-machines.ensures c.in_ok-committees.ensures c.in_ok-bounds.ensures c.args.board.now c.requires c.unpack_settings.auto.out c.unpack_section.auto.out
      c.unpack_section-2.auto.out _ _ c.unpack_from_bounds.ensures;
}
