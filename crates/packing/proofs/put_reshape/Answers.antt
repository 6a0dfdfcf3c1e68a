use native.Mathlib.Omega.{arith}
use lib.ListN.{take}
use Rattle.packing.specs.Packed.{between, flat}
use Rattle.shifts.proofs.Parts.{between_length}
use Rattle.packing.proofs.Lefts.{room, next, last_room, last}
use Rattle.packing.proofs.Puts.{words_put, reshape_start}
use Rattle.packing.proofs.put_reshape.Goals as goal

pub put_words-p-requires : goal.put_words-p-requires
put_words-p-requires c = let a = c.args in room (take 9 a.t.now) _ (reshape_start a.t.now a.out.now a.at c.requires.1)

pub put_flat-q-requires : goal.put_flat-q-requires
put_flat-q-requires c = let a = c.args in
    let t = a.t.now in
    let l = next (take 9 t) _ (reshape_start t a.out.now a.at c.requires.1) (words_put c.put_words-p.ensures) in
    (between_length 9 106 t (omega arith), room (flat 3 32 (between 9 106 t)) _ l)

pub put_flat-r-requires : goal.put_flat-r-requires
put_flat-r-requires c = let a = c.args in
    let t = a.t.now in
    let l = next (take 9 t) _ (reshape_start t a.out.now a.at c.requires.1) (words_put c.put_words-p.ensures) in
    let m = next (flat 3 32 (between 9 106 t)) _ l c.put_flat-q.ensures in
    (between_length 106 155 t (omega arith), room (flat 1 48 (between 106 155 t)) _ m)

pub put_flat-requires : goal.put_flat-requires
put_flat-requires c = let a = c.args in
    let t = a.t.now in
    let l = next (take 9 t) _ (reshape_start t a.out.now a.at c.requires.1) (words_put c.put_words-p.ensures) in
    let m = next (flat 3 32 (between 9 106 t)) _ l c.put_flat-q.ensures in
    let n = next (flat 1 48 (between 106 155 t)) _ m c.put_flat-r.ensures in
    (between_length 155 204 t (omega arith), last_room _ n)

pub returns : goal.returns
returns c = let a = c.args in
    let t = a.t.now in
    let l = next (take 9 t) _ (reshape_start t a.out.now a.at c.requires.1) (words_put c.put_words-p.ensures) in
    let m = next (flat 3 32 (between 9 106 t)) _ l c.put_flat-q.ensures in
    let n = next (flat 1 48 (between 106 155 t)) _ m c.put_flat-r.ensures in
    last _ n c.put_flat.ensures
