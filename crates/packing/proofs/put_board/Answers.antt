use lib.ListN.{take}
use Rattle.rules.specs.Board.{most_machines, most_committees}
use Rattle.board.specs.Layout.{machine_width, machines_at, committees_at, bounds_at}
use Rattle.row_tests.specs.declared.RowKind.TheVariants.{Committees}
use Rattle.packing.specs.Packed.{between, flat, nested}
use Rattle.packing.proofs.Lefts.{room, next, last_room, last}
use Rattle.packing.proofs.Puts.{words_put}
use Rattle.packing.proofs.Sums.{packed_start, machines_long, committees_long}
use Rattle.packing.proofs.put_board.Goals as goal

pub put_words-s-requires : goal.put_words-s-requires
put_words-s-requires c = let t = c.args.t.now in
    let l0 = packed_start t c.args.out.now c.requires.1 in
    room (take 7 t) _ l0

pub put_flat-m-requires : goal.put_flat-m-requires
put_flat-m-requires c = let t = c.args.t.now in
    let l0 = packed_start t c.args.out.now c.requires.1 in
    let l1 = next (take 7 t) _ l0 (words_put c.put_words-s.ensures) in
    (machines_long t c.requires.0, room (flat machine_width most_machines (between machines_at committees_at t)) _ l1)

pub put_rows-c-requires : goal.put_rows-c-requires
put_rows-c-requires c = let t = c.args.t.now in
    let l0 = packed_start t c.args.out.now c.requires.1 in
    let l1 = next (take 7 t) _ l0 (words_put c.put_words-s.ensures) in
    let l2 = next (flat machine_width most_machines (between machines_at committees_at t)) _ l1 c.put_flat-m.ensures in
    (committees_long t c.requires.0, room (nested Committees most_committees (between committees_at bounds_at t)) _ l2)

pub put_from_bounds-requires : goal.put_from_bounds-requires
put_from_bounds-requires c = let t = c.args.t.now in
    let l0 = packed_start t c.args.out.now c.requires.1 in
    let l1 = next (take 7 t) _ l0 (words_put c.put_words-s.ensures) in
    let l2 = next (flat machine_width most_machines (between machines_at committees_at t)) _ l1 c.put_flat-m.ensures in
    let l3 = next (nested Committees most_committees (between committees_at bounds_at t)) _ l2 c.put_rows-c.ensures in
    (c.requires.0, last_room _ l3)

pub returns : goal.returns
returns c = let t = c.args.t.now in
    let l0 = packed_start t c.args.out.now c.requires.1 in
    let l1 = next (take 7 t) _ l0 (words_put c.put_words-s.ensures) in
    let l2 = next (flat machine_width most_machines (between machines_at committees_at t)) _ l1 c.put_flat-m.ensures in
    let l3 = next (nested Committees most_committees (between committees_at bounds_at t)) _ l2 c.put_rows-c.ensures in
    last _ l3 c.put_from_bounds.ensures
