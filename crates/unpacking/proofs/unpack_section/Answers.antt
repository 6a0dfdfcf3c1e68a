use Prim.Native.Nat.{ℕ, ◌+◌, ◌*◌}
use mathlib.Core.Path.{ap, sym, ◌∙◌}
use Rattle.unpacking.specs.Unpacked.{most_of}
use Rattle.unpacking.proofs.Sections.{roomed}
use Rattle.unpacking.proofs.unpack_section.Goals as goal

pub unpack_table-requires : goal.unpack_table-requires
unpack_table-requires c = (c.width.ensures, c.requires ∙ sym (ap (λ (n : ℕ). 1 + n * c.width.result) c.most.ensures ∙ ap (λ (n : ℕ). 1 + most_of c.args.k * n) c.width.ensures))

pub returns : goal.returns
returns c = λ ws h. roomed c.most.ensures (c.unpack_table.ensures ws h)
