use Rattle.std.proofs.Common.{◌∙◌, ap, List, ℕ, take, drop}
use lib.ListN.{get_or}
use Rattle.rules.specs.Lists.{distinct}
use Rattle.word_tests.specs.Tests.{all_zero}
use Rattle.word_tests.proofs.Loops.{rest_is}
use Rattle.word_tests.proofs.Turns.{ids_many, ids_is}
use Rattle.word_tests.proofs.marks.ids_ok.Goals as goal

pub returns-then-cap-n : goal.returns-then-cap-n
returns-then-cap-n c = ids_many _ c.args.t.now c.if-cap-n.true

pub returns : goal.returns
returns c =
    let t = c.args.t.now in
    let cut = c.split_at.ensures in
    ids_is c.args.cap t _ _ c.if-cap-n.false (c.differ.ensures ∙ ap distinct cut.front ∙ ap (λ (u : List ℕ). distinct (take (get_or t 0 0) u)) (rest_is t 1)) (c.all_zero.ensures ∙ ap all_zero cut.back ∙ ap (λ (u : List ℕ). all_zero (drop (get_or t 0 0) u)) (rest_is t 1))
