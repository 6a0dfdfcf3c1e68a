use Prim.Native.Nat.{◌*◌, ◌/◌, ◌%◌}
use mathlib.Core.Path.{ap, sym, ◌∙◌}
use native.Mathlib.Omega.{arith}
use lib.ListN.{length, take}
use lib.Seq.{length-take-le}
use borrow.Author.Tests.{eq-eqb, ne_eqb}
use Rattle.bytes_words.proofs.Digits.{part_below}
use Rattle.reading.proofs.Bytes.{bytes_as}
use Rattle.std.specs.Prelude.{Err}
use Rattle.stops.specs.Stop.{whole_words, reading_of}
use Rattle.stops.proofs.Tells.{all_whole, some_left}
use Rattle.stops.proofs.read_through.Goals as goal

pub slice_bounds-words-end : goal.slice_bounds-words-end
slice_bounds-words-end c = let bs = c.args.bytes.now in sym (length-take-le (length bs / 8 * 8) bs (omega arith))

pub words-r-requires : goal.words-r-requires
words-r-requires c = let bs = c.args.bytes.now in omega (arith, length-take-le (length bs / 8 * 8) bs (omega arith))

pub returns-then-bytes-whole : goal.returns-then-bytes-whole
unfolding whole_words reading_of
returns-then-bytes-whole c =
    let bs = c.args.bytes.now in
    let l = length-take-le (length bs / 8 * 8) bs (omega arith) in
    let h = bytes_as (take (length bs / 8 * 8) bs) (omega arith) (part_below (length bs / 8 * 8) bs (λ i. omega (arith, c.shared_slice_known-1.given i))) in
    c.words-r.ensures _ h ∙ rw (eq-eqb (length bs % 8) 0 (omega arith)) (sym (all_whole _))

pub returns : goal.returns
unfolding whole_words reading_of
returns c =
    let bs = c.args.bytes.now in
    let l = length-take-le (length bs / 8 * 8) bs (omega arith) in
    let h = bytes_as (take (length bs / 8 * 8) bs) (omega arith) (part_below (length bs / 8 * 8) bs (λ i. omega (arith, c.shared_slice_known-1.given i))) in
    rw (ne_eqb (length bs % 8) 0 (λ e. omega arith), ← c.words-r.ensures _ h) (ap Err c.place.ensures ∙ sym (some_left _))
