use mathlib.Core.Path.{◌≡◌, sym}
use mathlib.Core.Bool.{false}
use mathlib.Core.List.{List}
use lib.Dec.{eqb}
use lib.ListN.{length}
use borrow.Author.Tests.{eqb-true, eqb-false}
use Prim.Native.Nat.{ℕ, ◌<◌, ◌+◌, ◌*◌, ◌-◌}
use native.Mathlib.Omega.{arith}
use Rattle.sections.proofs.Rooms.{row_within, row_past, row_there, row_of_none, row_of_zero}
use Rattle.sections.proofs.row.Goals as goal

-- not empty
long : (t : List ℕ) → false ≡ eqb (length t) 0 → 0 < length t
long t e = let n = eqb-false _ _ (sym e) in omega arith

pub returns-then-is_empty : goal.returns-then-is_empty
returns-then-is_empty c = sym (row_of_none c.args.w c.args.i c.args.t.now (eqb-true _ _ (sym c.if-is_empty.ensures)))

pub returns-then-w-eq0 : goal.returns-then-w-eq0
returns-then-w-eq0 c = sym (row_of_zero c.args.w c.args.i c.args.t.now c.if-w-eq0.true (long _ c.if-is_empty.ensures))

pub returns-then-t-w : goal.returns-then-t-w
returns-then-t-w c = sym (row_past c.args.w c.args.i c.args.t.now (omega arith) (long _ c.if-is_empty.ensures) c.if-t-w.true)

pub overflow_mul-s : goal.overflow_mul-s
overflow_mul-s c = let h = row_within c.args.w c.args.i c.args.t.now (omega arith) (long _ c.if-is_empty.ensures) (omega arith) in omega arith

pub overflow_add-s : goal.overflow_add-s
overflow_add-s c = let h = row_within c.args.w c.args.i c.args.t.now (omega arith) (long _ c.if-is_empty.ensures) (omega arith) in omega arith

pub overflow_add-e : goal.overflow_add-e
overflow_add-e c = let h = row_within c.args.w c.args.i c.args.t.now (omega arith) (long _ c.if-is_empty.ensures) (omega arith) in omega arith

pub returns : goal.returns
returns c = let w = c.args.w in let i = c.args.i in let z : 1 + i * w + w - (1 + i * w) ≡ w = omega arith in rw z (sym (row_there w i c.args.t.now (omega arith) (long _ c.if-is_empty.ensures) (omega arith)))
