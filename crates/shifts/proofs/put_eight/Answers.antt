use borrow.Author.Rules.{rules}
use mathlib.Core.Path.{◌≡◌, sym, ◌∙◌}
use lib.ListN.{length}
use Rattle.shifts.proofs.Parts.{gets, gets_all, filled}
use Rattle.shifts.proofs.put_eight.Goals as goal

pub returns : goal.returns
returns c =
    let n : length c.args.words ≡ 8 = search rules in
    filled c.args.t.now (gets 0 8 c.args.words) c.requires ∙ sym (gets_all 8 c.args.words n)
