use mathlib.Core.Path.{refl, ap, sym}
use native.Mathlib.Omega.{arith}
use Rattle.types.specs.Answers.{number_of}
use Rattle.applying.specs.Asked.{asked}
use Rattle.applying.specs.Applied.{no_bytes, not_read, applied}
use Rattle.applying.proofs.Applies.{got, got_good, got_holds, got_held, got_front, got_left}
use Rattle.applying.proofs.apply.Goals as goal

pub returns-then-after-lt-MOST_BYTES : goal.returns-then-after-lt-MOST_BYTES
returns-then-after-lt-MOST_BYTES c = no_bytes (asked c.in-Some.call) c.in-Some.ensures (omega arith) c.from.ensures refl refl refl

pub returns-then-read-ne0 : goal.returns-then-read-ne0
returns-then-read-ne0 c =
    not_read (asked c.in-Some.call) _ c.in-Some.ensures (omega arith) c.read_snapshot.ensures (λ d. let z = ap number_of d in omega (arith, c.from-read.ensures)) c.from-read.ensures refl refl

pub slice_bounds-apply_held-end-2 : goal.slice_bounds-apply_held-end-2
slice_bounds-apply_held-end-2 c = sym (got_front (got c.read_snapshot.ensures (omega (arith, c.from-read.ensures, c.if-read-ne0.false))))

pub apply_held-requires : goal.apply_held-requires
apply_held-requires c = (got_held (got c.read_snapshot.ensures (omega (arith, c.from-read.ensures, c.if-read-ne0.false))), omega arith)

pub returns : goal.returns
returns c =
    let g = got c.read_snapshot.ensures (omega (arith, c.from-read.ensures, c.if-read-ne0.false)) in
    let s = c.apply_held.ensures g.board (got_holds g) (got_good g) in
    applied (asked c.in-Some.call) g.board c.in-Some.ensures (omega arith) g.reads g.room s.told (got_left g _ _ s.held)
