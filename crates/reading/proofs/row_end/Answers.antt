use mathlib.Core.Path.{subst⁻¹}
use Rattle.row_tests.specs.declared.RowKind.{RowKind}
use Rattle.reading.specs.Stream.{TellsRow}
use Rattle.reading.proofs.row_end.Goals as goal

pub returns-in-Committees : goal.returns-in-Committees
returns-in-Committees c = λ ws h.
    let a = c.args in
    subst⁻¹ (λ (k : RowKind). TellsRow k a.last ws a.at c.lone_committee_end.result) c.in-Committees.is (c.lone_committee_end.ensures ws h)
