use Rattle.unpacking.proofs.Boards.{settings_read, settings_none}
use Rattle.unpacking.proofs.unpack_settings.Goals as goal

pub returns-in_err-next : goal.returns-in_err-next
returns-in_err-next c = λ ws h. rw c.from_residual.ensures (settings_none ws c.args.out.now _ _ c.requires (c.in_err-next.ensures ws h))

pub returns : goal.returns
returns c = λ ws h. settings_read ws c.args.out.now _ _ c.in_ok-next.next c.requires c.unpack_words.auto.out c.clear.ensures (c.in_ok-next.ensures ws h)
