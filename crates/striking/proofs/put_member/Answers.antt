use Rattle.striking.proofs.Sifting.{member_stored}
use Rattle.striking.proofs.put_member.Goals as goal

pub returns : goal.returns
returns c = λ b h l k. member_stored _ b h _ c.requires.0 l _ _ k
