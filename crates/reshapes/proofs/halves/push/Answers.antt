use mathlib.Core.List.{◌∷◌, ◌++◌, []}
use native.Mathlib.Omega.{arith}
use lib.ListN.{get_or, length-append}
use Rattle.board.specs.Held.{no_reshape}
use Rattle.reshapes.specs.Changes.{half_of}
use Rattle.reshapes.proofs.OfReshapes.{half_lent, half_back}
use Rattle.reshapes.proofs.halves.push.Goals as goal

pub returns : goal.returns
returns c = λ b h l m.
    let a = c.args in
    let e = rw c.half_at.ensures at c.push.ensures in
    rw c.half_at.ensures (half_back _ b h a.i l a.side (λ x. x ++ (a.id.0 ∷ [])) _ (e (half_of a.side (get_or b.reshapes a.i no_reshape).val) (half_lent _ b h a.i l a.side) m) (simp length-append (omega arith)))
