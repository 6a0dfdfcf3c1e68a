use Prim.Native.Nat.{◌<◌}
use Rattle.std.specs.Prelude.{Some}
use mathlib.Core.Path.{ap, sym, ◌∙◌}
use mathlib.Core.Bool.{Bool}
use native.Mathlib.Omega.{arith}
use borrow.Author.Tests.{lt-ltb, le-ltb, eq-eqb, ne_eqb}
use lib.Dec.{eqb}
use lib.ListN.{length}
use Rattle.tables.specs.Rows.{Row, words_in, key_in, first_where}
use Rattle.tables.proofs.Tables.{counted, row_key, scaled, no_row}
use Rattle.tables.proofs.Keys.{search_found, search_passed, search_ended}
use Rattle.tables.proofs.find_among_few.Goals as goal

pub loop-i-init : goal.loop-i-init
loop-i-init c = λ rs e l.
    let a = c.args in
    let n = counted words_in a.w (λ x. x.wide) a.cap rs _ e in
    let m = c.rows_within-n.ensures.1 (omega arith) in
    (omega arith, omega arith)

pub bounds-t-i : goal.bounds-t-i
bounds-t-i c =
    let a = c.args in
    omega (arith, scaled c.loop-i.i a.cap a.w (omega (arith, c.loop-i-test.true, c.rows_within-n.ensures.0)))

pub returns-then-t-i-clause-found : goal.returns-then-t-i-clause-found
returns-then-t-i-clause-found c = λ rs e m r.
    let i = c.loop-i.i in
    let a = c.args in
    let f : Row a.w → Bool = λ x. eqb (key_in x) a.k in
    let t = c.loop-i.invariant rs e m in
    let h : i < length rs = omega (arith, t.0, c.loop-i-test.true) in
    let q = row_key words_in a.w (λ x. x.wide) a.cap rs _ e i (no_row a.w) h m (omega arith) in
    let s = search_found f rs i _ t.1 (no_row a.w) h (eq-eqb _ _ (sym q ∙ c.if-t-i.true)) in
    rw (lt-ltb (first_where f rs) (length rs) (omega arith)) (ap Some s)

pub loop-i-preserved : goal.loop-i-preserved
loop-i-preserved c = λ rs e m.
    let i = c.loop-i.i in
    let a = c.args in
    let f : Row a.w → Bool = λ x. eqb (key_in x) a.k in
    let t = c.loop-i.invariant rs e m in
    let h : i < length rs = omega (arith, t.0, c.loop-i-test.true) in
    let q = row_key words_in a.w (λ x. x.wide) a.cap rs _ e i (no_row a.w) h m (omega arith) in
    (t.0, search_passed f rs i _ t.1 (no_row a.w) h (ne_eqb _ _ (λ p. c.if-t-i.false (q ∙ p))))

pub returns-clause-found : goal.returns-clause-found
returns-clause-found c = λ rs e m r.
    let a = c.args in
    let f : Row a.w → Bool = λ x. eqb (key_in x) a.k in
    let t = c.loop-i.invariant rs e m in
    let s = search_ended f rs _ _ t.1 (omega (arith, t.0, c.loop-i-test.false)) in
    rw (le-ltb (first_where f rs) (length rs) (omega (arith, t.0, c.loop-i-test.false)))
