use Prim.Native.Nat.{ℕ, ◌+◌, ◌-◌}
use mathlib.Core.Path.{◌≡◌, ap}
use native.Mathlib.Omega.{arith}
use lib.Dec.{eqb}
use Rattle.board.specs.Layout.{machine_width}
use Rattle.board.proofs.Widths.{machine_wide}
use Rattle.row_tests.specs.declared.RowKind.TheVariants.{Machines}
use Rattle.unpacking.proofs.Bytes.{total}
use Rattle.reading.proofs.Streams.{rows_fit, counted, count_none, count_start, section_none, section_over, section_fails, section_more}
use Rattle.reading.proofs.machines_end.Goals as goal

pub returns-in_err-n : goal.returns-in_err-n
returns-in_err-n c = λ ws h. rw c.from_residual.ensures (count_none Machines _ ws _ (c.in_err-n.ensures.read ws h))

pub returns-then-bytes-first : goal.returns-then-bytes-first
returns-then-bytes-first c = λ ws h.
    section_none Machines _ ws _ (λ e p. let y = (c.in_ok-n.ensures.read ws h).yes in omega (arith, rows_fit Machines machine_width machine_wide ws _ _ e (counted _ _ ws _ e p).2, y.2, total h))

pub loop-after-init : goal.loop-after-init
loop-after-init c = (omega (arith, c.in_ok-n.ensures.within.1), λ ws h. count_start Machines _ ws _ _ (c.in_ok-n.ensures.read ws h))

pub returns-in_err-next : goal.returns-in_err-next
returns-in_err-next c = λ ws h.
    let l = c.loop-after in
    let e : l.after - 1 + 1 ≡ l.after = omega arith in
    rw c.from_residual-in_err-next.ensures (section_fails Machines _ ws _ _ _ (l.invariant.1 ws h) _ (omega arith) (ap (λ (n : ℕ). eqb n 1) e) (c.in_err-next.ensures.told ws h))

pub loop-after-preserved : goal.loop-after-preserved
loop-after-preserved c = (
  omega (arith, c.in_ok-next.ensures.place),
  λ ws h.
      let l = c.loop-after in
      let e : l.after - 1 + 1 ≡ l.after = omega arith in
      section_more Machines _ ws _ _ _ (l.invariant.1 ws h) _ (omega arith) (ap (λ (n : ℕ). eqb n 1) e) _ (c.in_ok-next.ensures.told ws h),
)

pub returns : goal.returns
returns c = λ ws h. section_over Machines _ ws _ _ _ (c.loop-after.invariant.1 ws h) (omega arith)
