-- What a step, the laying of its board and the read before them leave together.
use Prim.Native.Nat.{ℕ, ◌≤◌, ◌*◌}
use mathlib.Core.Path.{◌≡◌, ap, ◌∙◌}
use mathlib.Core.List.{List, [], ◌∷◌, ◌++◌}
use mathlib.Core.Option.{some}
use mathlib.Core.Bool.{true}
use native.Mathlib.Omega.{arith}
use lib.ListN.{length, take, drop, length-append}
use lib.Seq.{take_at, drop_at, length-take-le}
use Rattle.types.specs.Answers.{number_of}
use Rattle.types.specs.declared.Answer.{Answer}
use Rattle.types.specs.declared.Outcome.{Outcome}
use Rattle.rules.specs.Board.{Board}
use Rattle.rules.specs.Calls.{Call, answer_to}
use Rattle.rules.specs.WellFormed.{well_formed}
use Rattle.rules.specs.Snapshot.{snapshot_of, read_snapshot}
use Rattle.rules.proofs.Kept.{well_formed_kept}
use Rattle.rules.proofs.Snapshot.{snapshot_most, snapshot_read_writes}
use Rattle.board.specs.Held.{Holds}
use Rattle.board.specs.Layout.{board_size, encode}
use Rattle.board.specs.Permitted.{WellHeld}
use Rattle.board.proofs.One.{well_formed_fits}
use Rattle.board.proofs.Widths.{board_wide}
use Rattle.packing.specs.Packed.{packed}
use Rattle.packing.specs.Put.{Put}
use Rattle.snapshot.specs.ReadAs.{ReadAs, not_snapshot, too_short, read_as}
use Rattle.snapshot.proofs.Writes.{held_long, held_bytes}
use Rattle.steps.specs.Inner.{Steps}
use Rattle.applying.specs.Applied.{most_bytes, StepTold}

-- what a step leaves of a well-formed board
module _ (c : Call) (before after : List ℕ) (o : Outcome) (s : Steps (answer_to c) before after o) where
  pub kept_held : WellHeld before → WellHeld after
  kept_held w =
      let b = w.board in record { board = (answer_to c b).board; holds = (s b w.holds w.good).left; good = well_formed_kept c b w.good }

  pub step_told : (b : Board) → Holds before b → well_formed b ≡ true → (bytes bytes' : List ℕ) (long number : ℕ) → Put (packed after) 0 bytes bytes' long
      → number ≡ number_of o.answer → StepTold (answer_to c b) after bytes bytes' (o.handled ∷ o.draws_used ∷ long ∷ []) number
  step_told b h g bytes bytes' long number p n =
      let d = s b h g in
      let l : long ≡ length (snapshot_of (answer_to c b).board) = omega (arith, p.next, held_long d.left) in
      record {
        told = record {
          answer = n ∙ ap (λ (x : Outcome). number_of x.answer) d.told;
          written = held_bytes d.left bytes bytes' long p;
          counts = rw l (ap (λ (x : Outcome). x.handled ∷ x.draws_used ∷ length (snapshot_of (answer_to c b).board) ∷ []) d.told);
        };
        held = d.left;
      }

-- any well-formed board's snapshot fits
pub fits_most : (ws bytes : List ℕ) → WellHeld ws → most_bytes ≤ length bytes → length (packed ws) * 8 ≤ length bytes
fits_most ws bytes w l = omega (arith, held_long w.holds, snapshot_most w.board w.good)

-- a read that answers 0
pub record Got (bytes before after : List ℕ) : Type 0 where
  pub board : Board
  pub reads : read_snapshot bytes ≡ some board
  pub room : board_size ≤ length before
  pub words : after ≡ encode board ++ drop board_size before

pub got : {bytes before after : List ℕ} {r : Answer} → ReadAs bytes before after r → number_of r ≡ 0 → Got bytes before after
got (not_snapshot x p q) d = absurd (let z = ap number_of p in omega arith)
got (too_short b x l p q) d = absurd (let z = ap number_of p in omega arith)
got (read_as b x l p q) d = record { board = b; reads = x; room = l; words = q }

module _ {bytes before after : List ℕ} (g : Got bytes before after) where
  pub got_good : well_formed g.board ≡ true
  got_good = (snapshot_read_writes bytes g.board g.reads).1

  pub got_holds : Holds (take board_size after) g.board
  got_holds = record { words = rw g.words (take_at (encode g.board) _ board_size (board_wide g.board)); fits = well_formed_fits g.board got_good }

  pub got_held : WellHeld (take board_size after)
  got_held = record { board = g.board; holds = got_holds; good = got_good }

  pub got_wide : board_size ≤ length after
  got_wide = omega (arith, simp length-append at (ap length g.words), board_wide g.board)

  pub got_front : length (take board_size after) ≡ board_size
  got_front = length-take-le board_size after got_wide

  pub got_left : (ws : List ℕ) (b : Board) → Holds ws b → ws ++ drop board_size after ≡ encode b ++ drop board_size before
  got_left ws b h = rw (h.words, g.words, drop_at (encode g.board) _ board_size (board_wide g.board))
