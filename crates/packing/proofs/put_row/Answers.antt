use mathlib.Core.Path.{ap, sym, ◌∙◌}
use Rattle.row_tests.specs.Rows.{width_of}
use Rattle.packing.proofs.Puts.{words_put, put_as, room_as, row_committee, row_reshape, row_plain}
use Rattle.packing.proofs.put_row.Goals as goal

pub put_committee-requires : goal.put_committee-requires
put_committee-requires c = let a = c.args in let e = c.in-Committees.is in (c.requires.0 ∙ ap width_of e, room_as a.out.now a.at (row_committee a.k a.t.now e) c.requires.1)

pub put_reshape-requires : goal.put_reshape-requires
put_reshape-requires c = let a = c.args in let e = c.in-Reshapes.is in (c.requires.0 ∙ ap width_of e, room_as a.out.now a.at (row_reshape a.k a.t.now e) c.requires.1)

pub put_words-requires : goal.put_words-requires
put_words-requires c = let a = c.args in room_as a.out.now a.at (sym (row_plain a.k a.t.now c.in_default.not-Committees c.in_default.not-Reshapes)) c.requires.1

pub returns-in-Committees : goal.returns-in-Committees
returns-in-Committees c = let a = c.args in put_as (sym (row_committee a.k a.t.now c.in-Committees.is)) c.put_committee.ensures

pub returns-in-Reshapes : goal.returns-in-Reshapes
returns-in-Reshapes c = let a = c.args in put_as (sym (row_reshape a.k a.t.now c.in-Reshapes.is)) c.put_reshape.ensures

pub returns-in_default : goal.returns-in_default
returns-in_default c = let a = c.args in put_as (row_plain a.k a.t.now c.in_default.not-Committees c.in_default.not-Reshapes) (words_put c.put_words.ensures)
