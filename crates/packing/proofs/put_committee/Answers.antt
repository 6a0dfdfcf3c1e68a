use native.Mathlib.Omega.{arith}
use lib.ListN.{take}
use Rattle.shifts.proofs.Parts.{between_length}
use Rattle.packing.proofs.Lefts.{room, next, last_room, last}
use Rattle.packing.proofs.Puts.{words_put, committee_start}
use Rattle.packing.proofs.put_committee.Goals as goal

pub put_words-p-requires : goal.put_words-p-requires
put_words-p-requires c = let a = c.args in room (take 1 a.t.now) _ (committee_start a.t.now a.out.now a.at c.requires.1)

pub put_flat-requires : goal.put_flat-requires
put_flat-requires c = let a = c.args in (between_length 1 98 a.t.now (omega arith), last_room _ (next (take 1 a.t.now) _ (committee_start a.t.now a.out.now a.at c.requires.1) (words_put c.put_words-p.ensures)))

pub returns : goal.returns
returns c = let a = c.args in last _ (next (take 1 a.t.now) _ (committee_start a.t.now a.out.now a.at c.requires.1) (words_put c.put_words-p.ensures)) c.put_flat.ensures
