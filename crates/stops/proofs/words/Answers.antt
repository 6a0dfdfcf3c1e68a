use mathlib.Core.Path.{ap, sym, ◌∙◌}
use mathlib.Core.Bool.{Bool}
use native.Mathlib.Omega.{arith}
use borrow.Author.Tests.{eq-eqb, ne_eqb}
use Rattle.std.proofs.lemmas.Result.{err_from_is_err_and}
use Rattle.unpacking.proofs.Bytes.{total}
use Rattle.stops.specs.Stop.{go_on, ended_at, words_reading}
use Rattle.stops.proofs.Tells.{from_machines, from_committees, from_bounds, from_rotations, from_reshapes, ends}
use Rattle.stops.proofs.words.Goals as goal

pub returns-in_err-machines : goal.returns-in_err-machines
unfolding words_reading go_on
returns-in_err-machines c = λ ws h.
    let p = err_from_is_err_and c.from_residual.result c.from_residual.ensures.1 in
    rw (p.1, p.2) (ap (from_machines ws) (c.in_err-machines.ensures ws h))

pub returns-in_err-committees : goal.returns-in_err-committees
unfolding words_reading go_on
returns-in_err-committees c = λ ws h.
    let p = err_from_is_err_and c.from_residual-in_err-committees.result c.from_residual-in_err-committees.ensures.1 in
    rw (p.1, p.2) (ap (from_committees ws) (c.in_err-committees.ensures ws h) ∙ ap (from_machines ws) (c.in_ok-machines.ensures ws h))

pub returns-in_err-bounds : goal.returns-in_err-bounds
unfolding words_reading go_on
returns-in_err-bounds c = λ ws h.
    let p = err_from_is_err_and c.from_residual-in_err-bounds.result c.from_residual-in_err-bounds.ensures.1 in
    rw (p.1, p.2) (ap (from_bounds ws) (c.in_err-bounds.ensures ws h) ∙ ap (from_committees ws) (c.in_ok-committees.ensures ws h) ∙ ap (from_machines ws) (c.in_ok-machines.ensures ws h))

pub returns-in_err-rotations : goal.returns-in_err-rotations
unfolding words_reading go_on
returns-in_err-rotations c = λ ws h.
    let p = err_from_is_err_and c.from_residual-in_err-rotations.result c.from_residual-in_err-rotations.ensures.1 in
    rw (p.1, p.2) (ap (from_rotations ws) (c.in_err-rotations.ensures ws h) ∙ ap (from_bounds ws) (c.in_ok-bounds.ensures ws h) ∙ ap (from_committees ws) (c.in_ok-committees.ensures ws h) ∙ ap (from_machines ws) (c.in_ok-machines.ensures ws h))

pub returns-in_err-reshapes : goal.returns-in_err-reshapes
unfolding words_reading go_on
returns-in_err-reshapes c = λ ws h.
    let p = err_from_is_err_and c.from_residual-in_err-reshapes.result c.from_residual-in_err-reshapes.ensures.1 in
    rw (p.1, p.2) (ap (from_reshapes ws) (c.in_err-reshapes.ensures ws h) ∙ ap (from_rotations ws) (c.in_ok-rotations.ensures ws h) ∙ ap (from_bounds ws) (c.in_ok-bounds.ensures ws h) ∙ ap (from_committees ws) (c.in_ok-committees.ensures ws h) ∙ ap (from_machines ws) (c.in_ok-machines.ensures ws h))

pub returns-in_err-end : goal.returns-in_err-end
unfolding words_reading go_on
returns-in_err-end c = λ ws h.
    let p = err_from_is_err_and c.from_residual-in_err-end.result c.from_residual-in_err-end.ensures.1 in
    rw (p.1, p.2) (ap (ends ws) (c.in_err-end.ensures ws h) ∙ ap (from_reshapes ws) (c.in_ok-reshapes.ensures ws h) ∙ ap (from_rotations ws) (c.in_ok-rotations.ensures ws h) ∙ ap (from_bounds ws) (c.in_ok-bounds.ensures ws h) ∙ ap (from_committees ws) (c.in_ok-committees.ensures ws h) ∙ ap (from_machines ws) (c.in_ok-machines.ensures ws h))

pub returns-then-end-bytes : goal.returns-then-end-bytes
unfolding words_reading go_on ended_at
returns-then-end-bytes c = λ ws h. ap (λ (b : Bool). ended_at b c.in_ok-end.end) (sym (ne_eqb _ _ (λ e. omega (arith, total h)))) ∙ ap (ends ws) (c.in_ok-end.ensures ws h) ∙ ap (from_reshapes ws) (c.in_ok-reshapes.ensures ws h) ∙ ap (from_rotations ws) (c.in_ok-rotations.ensures ws h) ∙ ap (from_bounds ws) (c.in_ok-bounds.ensures ws h) ∙ ap (from_committees ws) (c.in_ok-committees.ensures ws h) ∙ ap (from_machines ws) (c.in_ok-machines.ensures ws h)

pub returns : goal.returns
unfolding words_reading go_on ended_at
returns c = λ ws h. ap (λ (b : Bool). ended_at b c.in_ok-end.end) (sym (eq-eqb _ _ (omega (arith, total h)))) ∙ ap (ends ws) (c.in_ok-end.ensures ws h) ∙ ap (from_reshapes ws) (c.in_ok-reshapes.ensures ws h) ∙ ap (from_rotations ws) (c.in_ok-rotations.ensures ws h) ∙ ap (from_bounds ws) (c.in_ok-bounds.ensures ws h) ∙ ap (from_committees ws) (c.in_ok-committees.ensures ws h) ∙ ap (from_machines ws) (c.in_ok-machines.ensures ws h)
