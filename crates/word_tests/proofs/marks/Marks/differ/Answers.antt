use mathlib.Core.Path.{◌∙◌}
use native.Mathlib.Omega.{arith}
use lib.ListN.{length-set}
use Rattle.word_tests.proofs.Marked.{none_left, distinct_end, turn_marks, turn_unmarked, turn_apart, turn_fails}
use Rattle.word_tests.proofs.marks.Marks.differ.Goals as goal
use Rattle.word_tests.proofs.marks.Marks.differ.Goals.{else-self-mark-via-then-self-mark+else-not-lacking, else-self-mark-via-else-self-mark}

pub loop-i-init : goal.loop-i-init
loop-i-init g c =
    let ids = g.W.Words.words c.args.ids.now in
    record {
      within = omega (arith, c.count-i.ensures);
      long = omega arith;
      apart = rw c.count-i.ensures (distinct_end ids);
      marked = λ y h. none_left ids y (rw c.count-i.ensures at h);
    }

pub returns-then-not-lacking : goal.returns-then-not-lacking
returns-then-not-lacking g c =
    let l = c.loop-i in
    let s = l.invariant in
    turn_fails _ _ l.i _ s.long c.loop-i-test.true s.within s.apart s.marked _ c.word-x.ensures _ (omega arith) _ c.lacking.ensures c.if-not-lacking.true

pub loop-i-preserved : goal.loop-i-preserved
loop-i-preserved g c =
    let l = c.loop-i in
    let s = l.invariant in
    let more = c.loop-i-test.true in
    record {
      within = omega (arith, s.within);
      long = length-set l.self.marks _ _ ∙ s.long;
      apart = elim c.else-self-mark.branch [
        | else-self-mark-via-then-self-mark+else-not-lacking w ↦ turn_apart _ _ l.i _ s.long more s.within s.apart s.marked _ c.word-x.ensures _ (omega arith) _ w.lacking.ensures w.if-not-lacking.false
        | else-self-mark-via-else-self-mark w ↦ turn_unmarked _ _ l.i _ s.long more s.within s.apart s.marked _ c.word-x.ensures w.if-self-mark.false
      ];
      marked = turn_marks _ _ l.i _ s.long more s.within s.apart s.marked _ c.word-x.ensures;
    }
