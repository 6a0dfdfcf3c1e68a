use Rattle.std.proofs.Common.{◌≡◌}
use Rattle.word_tests.specs.Tests.{rises, rows_ok, table_ok}
use Rattle.word_tests.proofs.rows.table_ok.Given as goal

abbrev pub invariant-loop-after : goal.invariant-loop-after
invariant-loop-after g l =
    let row = g.R.Row in
    (row.passes l.kind ≡ row.passes l.fn.kind) × (table_ok (row.passes l.fn.kind) (rises row.PAIRED) row.WIDTH l.cap l.t ≡ rows_ok (row.passes l.fn.kind) (rises row.PAIRED) row.WIDTH l.after l.rest)
