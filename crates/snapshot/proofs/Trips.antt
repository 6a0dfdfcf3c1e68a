-- Both round trips of any write and any read that meet their contracts, and that a read is determined.
use Prim.Native.Nat.{ℕ}
use mathlib.Core.Path.{◌≡◌, ap, sym, ◌∙◌}
use mathlib.Core.List.{List, ◌++◌}
use mathlib.Core.Option.{Option, some, none-ne-some}
use mathlib.Core.Bool.{true}
use native.Mathlib.Omega.{arith}
use lib.ListN.{take, drop}
use lib.Seq.{take_at, take-append_seam}
use Rattle.types.specs.declared.Answer.{Answer}
use Rattle.types.specs.declared.Answer.TheVariants.{Done, NoRoom, NotASnapshot, NotWellFormed}
use Rattle.rules.specs.Board.{Board}
use Rattle.rules.specs.WellFormed.{well_formed}
use Rattle.rules.specs.Snapshot.{snapshot_of, read_snapshot}
use Rattle.rules.proofs.Snapshot.{snapshot_reads_back, snapshot_read_writes}
use Rattle.board.specs.Layout.{board_size, encode}
use Rattle.board.specs.Held.{Holds}
use Rattle.board.proofs.Widths.{board_wide}
use Rattle.board.proofs.One.{one_board, well_formed_fits}
use Rattle.snapshot.specs.Written.{Written, not_board, no_room, written}
use Rattle.snapshot.specs.ReadAs.{ReadAs, not_snapshot, too_short, read_as}

-- what a write and a read that answer 0 say
record Wrote (ws after : List ℕ) (longer : ℕ) : Type 0 where
  pub board : Board
  pub holds : Holds ws board
  pub good : well_formed board ≡ true
  pub bytes : take longer after ≡ snapshot_of board

wrote : {ws before after : List ℕ} {long longer : ℕ} {r : Answer} → Written ws before long after longer r → r ≡ Done → Wrote ws after longer
wrote (not_board x p q o) d = absurd (let z : ◌≡◌ {A = Answer} NotWellFormed Done = sym p ∙ d in let y : ◌≡◌ {A = ℕ} 0 1 = cc in omega arith)
wrote (no_room a i j l p q o) d = absurd (let z : ◌≡◌ {A = Answer} NoRoom Done = sym p ∙ d in let y : ◌≡◌ {A = ℕ} 0 1 = cc in omega arith)
wrote (written a i j l p q o) d = record { board = a; holds = i; good = j; bytes = rw (o, q) (take-append_seam (snapshot_of a) _) }

record Got (bytes after : List ℕ) : Type 0 where
  pub board : Board
  pub reads : read_snapshot bytes ≡ some board
  pub words : take board_size after ≡ encode board

got : {bytes before after : List ℕ} {r : Answer} → ReadAs bytes before after r → r ≡ Done → Got bytes after
got (not_snapshot x p q) d = absurd (let z : ◌≡◌ {A = Answer} NotASnapshot Done = sym p ∙ d in let y : ◌≡◌ {A = ℕ} 0 1 = cc in omega arith)
got (too_short b x l p q) d = absurd (let z : ◌≡◌ {A = Answer} NoRoom Done = sym p ∙ d in let y : ◌≡◌ {A = ℕ} 0 1 = cc in omega arith)
got (read_as b x l p q) d = record { board = b; reads = x; words = rw q (take_at (encode b) _ board_size (board_wide b)) }

module _ {a b : Board} where
  same_some : {o : Option Board} → o ≡ some a → o ≡ some b → a ≡ b
  same_some p q = cc

-- 'a snapshot reads back as the board written': the words written are the words read
pub write_then_read : {ws before after room words : List ℕ} {long longer : ℕ} {r s : Answer} → Written ws before long after longer r → r ≡ Done
    → ReadAs (take longer after) room words s → s ≡ Done → take board_size words ≡ ws
write_then_read w d x e =
    let u = wrote w d in
    let v = got x e in
    let same = same_some v.reads (ap read_snapshot u.bytes ∙ snapshot_reads_back u.board u.good) in
    v.words ∙ ap encode same ∙ sym u.holds.words

-- 'and a board read writes the same bytes'
pub read_then_write : {bytes room words before after : List ℕ} {long longer : ℕ} {r s : Answer} → ReadAs bytes room words s → s ≡ Done
    → Written (take board_size words) before long after longer r → r ≡ Done → take longer after ≡ bytes
read_then_write {bytes} {words} x e w d =
    let v = got x e in
    let u = wrote w d in
    let p = snapshot_read_writes bytes v.board v.reads in
    let h : Holds (take board_size words) v.board = record { words = v.words; fits = well_formed_fits v.board p.1 } in
    u.bytes ∙ ap snapshot_of (one_board (take board_size words) u.board v.board u.holds h) ∙ sym p.0

-- THE READ IS DETERMINED: the answer and every lent word
pub read_determined : (bytes before u v : List ℕ) (r s : Answer) → ReadAs bytes before u r → ReadAs bytes before v s → (r ≡ s) × (u ≡ v)
read_determined bytes before u v r s (not_snapshot x p q) (not_snapshot y p' q') = (p ∙ sym p', q ∙ sym q')
read_determined bytes before u v r s (not_snapshot x p q) (too_short b y l p' q') = absurd (none-ne-some b (sym x ∙ y))
read_determined bytes before u v r s (not_snapshot x p q) (read_as b y l p' q') = absurd (none-ne-some b (sym x ∙ y))
read_determined bytes before u v r s (too_short b x l p q) (not_snapshot y p' q') = absurd (none-ne-some b (sym y ∙ x))
read_determined bytes before u v r s (read_as b x l p q) (not_snapshot y p' q') = absurd (none-ne-some b (sym y ∙ x))
read_determined bytes before u v r s (too_short a x l p q) (too_short b y m p' q') = (p ∙ sym p', q ∙ sym q')
read_determined bytes before u v r s (too_short a x l p q) (read_as b y m p' q') = absurd (omega arith)
read_determined bytes before u v r s (read_as a x l p q) (too_short b y m p' q') = absurd (omega arith)
read_determined bytes before u v r s (read_as a x l p q) (read_as b y m p' q') =
    (p ∙ sym p', q ∙ ap (λ (z : Board). encode z ++ drop board_size before) (same_some x y) ∙ sym q')
