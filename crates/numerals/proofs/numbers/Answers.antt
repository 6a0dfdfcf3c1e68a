use mathlib.Core.Path.{sym, ◌∙◌}
use native.Mathlib.Omega.{arith}
use Rattle.numerals.proofs.Walks.{walk_starts, walk_skips, walk_ends, walk_stops, walk_full, walk_takes, run_goes_on}
use Rattle.numerals.proofs.numbers.Goals as goal

pub loop-at-init : goal.loop-at-init
loop-at-init c = (omega arith, walk_starts _ _)

pub loop-at-preserved-then-between : goal.loop-at-preserved-then-between
loop-at-preserved-then-between c =
    (omega arith, walk_skips _ _ c.loop-at.at c.loop-at.n c.loop-at.out c.loop-at.invariant.1 (omega arith) (sym c.between.ensures ∙ c.if-between.true))

pub slice_bounds-parse-start : goal.slice_bounds-parse-start
slice_bounds-parse-start c = omega (arith, c.piece_end-e.ensures.1)

pub slice_bounds-parse-end : goal.slice_bounds-parse-end
slice_bounds-parse-end c = c.piece_end-e.ensures.0

pub shape_of-out-in_default : goal.shape_of-out-in_default
shape_of-out-in_default c = c.loop-at.invariant.1.room

pub returns-in_default : goal.returns-in_default
returns-in_default c =
    let b = sym c.between.ensures ∙ c.if-between.false in
    let d = sym c.parse.ensures ∙ c.in_default.is in
    let w = walk_stops _ _ c.loop-at.at c.loop-at.n c.loop-at.out c.loop-at.invariant.1 c.piece_end-e.result (omega arith) b c.piece_end-e.ensures.1 d in
    (w.0, w.1, tt)

pub shape_of-out-then-out-n : goal.shape_of-out-then-out-n
shape_of-out-then-out-n c = c.loop-at.invariant.1.room

pub returns-then-out-n : goal.returns-then-out-n
returns-then-out-n c =
    let b = sym c.between.ensures ∙ c.if-between.false in
    let d = sym c.parse.ensures ∙ c.in-Some.is in
    let w = walk_full _ _ c.loop-at.at c.loop-at.n c.loop-at.out c.loop-at.invariant.1 c.piece_end-e.result (omega arith) b c.piece_end-e.ensures.1 _ d (omega arith) in
    (w.0, w.1, tt)

pub loop-at-smaller : goal.loop-at-smaller
loop-at-smaller c =
    let b = sym c.between.ensures ∙ c.if-between.false in
    omega (arith, c.piece_end-e.ensures.1, run_goes_on c.args.text.now c.loop-at.at (omega arith) b)

pub loop-at-preserved : goal.loop-at-preserved
loop-at-preserved c =
    let b = sym c.between.ensures ∙ c.if-between.false in
    let d = sym c.parse.ensures ∙ c.in-Some.is in (
      c.piece_end-e.ensures.0,
      walk_takes _ _ c.loop-at.at c.loop-at.n c.loop-at.out c.loop-at.invariant.1 c.piece_end-e.result (omega arith) b c.piece_end-e.ensures.1 _ d (omega arith),
    )

pub shape_of-out : goal.shape_of-out
shape_of-out c = c.loop-at.invariant.1.room

pub returns : goal.returns
returns c =
    let w = walk_ends _ _ c.loop-at.at c.loop-at.n c.loop-at.out c.loop-at.invariant.1 (omega arith) in
    (w.0, w.1, omega (arith, c.loop-at.invariant.1.within, c.loop-at.invariant.1.room))
