use mathlib.Core.Path.{◌≡◌, refl, ap, sym, ◌∙◌}
use mathlib.Core.List.{List}
use mathlib.Core.Bool.{Bool}
use Prim.Native.Nat.{ℕ, ◌-◌}
use native.Mathlib.Omega.{arith}
use lib.ListN.{drop}
use Rattle.word_tests.specs.Tests.{rises, first_ok, rows_ok}
use Rattle.word_tests.proofs.Loops.{rest_is}
use Rattle.word_tests.proofs.Turns.{table_many, table_start, rows_end, rows_fail, rows_room, rows_more}
use Rattle.word_tests.proofs.rows.table_ok.Goals as goal

-- the test of the first row that is left, by the tests and the number that the loop began with
asked : {p q : List ℕ → Bool} {m n : ℕ} {r : Bool} (lt : List ℕ → List ℕ → Bool) (w : ℕ) (rest : List ℕ) → p ≡ q → m ≡ n → r ≡ first_ok p lt w m rest → r ≡ first_ok q lt w n rest
asked {p} {q} {m} {n} lt w rest e f h = h ∙ ap (λ (k : ℕ). first_ok p lt w k rest) f ∙ ap (λ (ok : List ℕ → Bool). first_ok ok lt w n rest) e

pub returns-then-cap-n-clause-told : goal.returns-then-cap-n-clause-told
returns-then-cap-n-clause-told g c = table_many _ _ _ _ c.args.t.now c.if-cap-n.true

pub loop-after-init : goal.loop-after-init
loop-after-init g c = let row = g.R.Row in let t = c.args.t.now in (
  refl,
  table_start _ _ _ _ _ c.if-cap-n.false ∙ ap (rows_ok (row.passes c.args.kind.now) (rises row.PAIRED) row.WIDTH _) (sym (rest_is t 1)),
)

pub returns-then-not-first_ok-clause-told : goal.returns-then-not-first_ok-clause-told
returns-then-not-first_ok-clause-told g c =
    let l = c.loop-after in
    let first = asked _ _ l.rest.now l.invariant.0 (omega (arith, c.loop-after-test.true)) c.first_ok.ensures.told in
    rows_fail _ _ _ _ _ l.after l.rest.now _ l.invariant.1 c.loop-after-test.true first c.if-not-first_ok.true

pub split_at-requires : goal.split_at-requires
split_at-requires g c =
    let l = c.loop-after in
    let first = asked _ _ l.rest.now l.invariant.0 (omega (arith, c.loop-after-test.true)) c.first_ok.ensures.told in
    omega (arith, rows_room _ _ _ _ _ l.after l.rest.now _ l.invariant.1 c.loop-after-test.true first c.if-not-first_ok.false, c.WIDTH.ensures)

pub loop-after-preserved : goal.loop-after-preserved
loop-after-preserved g c =
    let l = c.loop-after in
    let row = g.R.Row in
    let first = asked _ _ l.rest.now l.invariant.0 (omega (arith, c.loop-after-test.true)) c.first_ok.ensures.told in
    let more = rows_more _ _ _ _ _ l.after l.rest.now _ l.invariant.1 c.loop-after-test.true first c.if-not-first_ok.false in
    let next = sym (c.split_at.ensures.back ∙ ap (λ (w : ℕ). drop w l.rest.now) c.WIDTH.ensures) in
    (c.first_ok.ensures.same ∙ l.invariant.0, more ∙ ap (rows_ok (row.passes c.args.kind.now) (rises row.PAIRED) row.WIDTH (l.after - 1)) next)

pub returns-clause-told : goal.returns-clause-told
returns-clause-told g c = let l = c.loop-after in rows_end _ _ _ _ _ l.after l.rest.now _ l.invariant.1 c.loop-after-test.false c.all_zero.ensures
