-- The call that reads, steps and writes: determined at every input, and what the three calls leave one after another.
use Prim.Native.Nat.{ℕ, ◌≤◌}
use mathlib.Core.Path.{◌≡◌, refl, ap, sym, ◌∙◌}
use mathlib.Core.List.{List, [], ◌∷◌, ◌++◌, append-nil}
use mathlib.Core.Option.{Option, some, none-ne-some}
use mathlib.Core.Bool.{true}
use native.Mathlib.Omega.{arith}
use lib.ListN.{length, drop, drop_of_length-le}
use Rattle.types.specs.Answers.{number_of}
use Rattle.types.specs.declared.Answer.TheVariants.{Done}
use Rattle.types.specs.declared.Answer.{Answer}
use Rattle.types.specs.declared.Outcome.{Outcome}
use Rattle.rules.specs.Board.{Board}
use Rattle.rules.specs.Calls.{Call, answer_to}
use Rattle.rules.specs.WellFormed.{well_formed}
use Rattle.rules.specs.Turns.{Result}
use Rattle.rules.specs.Snapshot.{snapshot_of, read_snapshot}
use Rattle.rules.proofs.Kept.{well_formed_kept}
use Rattle.rules.proofs.Snapshot.{snapshot_most}
use Rattle.board.specs.Held.{Holds}
use Rattle.board.specs.Layout.{board_size, encode}
use Rattle.board.proofs.One.{one_board, well_formed_fits}
use Rattle.board.proofs.Permits.{given_board}
use Rattle.snapshot.specs.Written.{Written, not_board, no_room, written}
use Rattle.snapshot.specs.ReadAs.{ReadAs, read_as}
use Rattle.snapshot.proofs.Trips.{read_determined}
use Rattle.applying.specs.Applied.{most_bytes, ToldAs, Applied, no_step, no_bytes, not_read, applied}
use Rattle.applying.proofs.Applies.{got, got_good}
use Rattle.roster.specs.Exported.{ExportedStep, ExportedWrite, ExportedRead}

told_same : {bytes u v y z k l : List ℕ} {m n : ℕ} (board : List ℕ) (p q : Result) → p ≡ q → ToldAs p bytes y k m → ToldAs q bytes z l n
    → u ≡ encode p.board ++ drop board_size board → v ≡ encode q.board ++ drop board_size board → (m ≡ n) × (k ≡ l) × (u ≡ v) × (y ≡ z)
told_same {bytes} board p q r s t e f = (
  s.answer ∙ ap (λ (x : Result). number_of x.answer) r ∙ sym t.answer,
  s.counts ∙ ap (λ (x : Result). x.handled ∷ x.used ∷ length (snapshot_of x.board) ∷ []) r ∙ sym t.counts,
  e ∙ ap (λ (x : Result). encode x.board ++ drop board_size board) r ∙ sym f,
  s.written ∙ ap (λ (x : Result). snapshot_of x.board ++ drop (length (snapshot_of x.board)) bytes) r ∙ sym t.written,
)

same_result : {asked : Option Call} {read : Option Board} (c d : Call) (a b : Board) → asked ≡ some c → asked ≡ some d → read ≡ some a → read ≡ some b → answer_to c a ≡ answer_to d b
same_result c d a b p q r s = let e : c ≡ d = cc in let f : a ≡ b = cc in cc

unread : {snapshot board w : List ℕ} {r : Answer} (b : Board) → ReadAs snapshot board w r → (r ≡ Done → ⊥) → read_snapshot snapshot ≡ some b → board_size ≤ length board → ⊥
unread b x d e l = d (read_determined _ _ _ _ _ Done x (read_as b e l refl refl)).0

-- THE CALL IS DETERMINED: the number, the counts, every lent word and byte
pub apply_determined : {asked : Option Call} {snapshot board bytes counts u v y z k l : List ℕ} {m n : ℕ} → Applied asked snapshot board bytes counts u y k m
    → Applied asked snapshot board bytes counts v z l n → (m ≡ n) × (k ≡ l) × (u ≡ v) × (y ≡ z)
apply_determined (no_step p n b y k) (no_step p' n' b' y' k') = (n ∙ sym n', k ∙ sym k', b ∙ sym b', y ∙ sym y')
apply_determined (no_step p n b y k) (no_bytes c q h n' b' y' k') = absurd (none-ne-some c (sym p ∙ q))
apply_determined (no_step p n b y k) (not_read c r q h x d n' y' k') = absurd (none-ne-some c (sym p ∙ q))
apply_determined (no_step p n b y k) (applied c e q h x r t w) = absurd (none-ne-some c (sym p ∙ q))
apply_determined (no_bytes c q h n b y k) (no_step p n' b' y' k') = absurd (none-ne-some c (sym p ∙ q))
apply_determined (not_read c r q h x d n y k) (no_step p n' b' y' k') = absurd (none-ne-some c (sym p ∙ q))
apply_determined (applied c e q h x r t w) (no_step p n' b' y' k') = absurd (none-ne-some c (sym p ∙ q))
apply_determined (no_bytes c q h n b y k) (no_bytes c' q' h' n' b' y' k') = (n ∙ sym n', k ∙ sym k', b ∙ sym b', y ∙ sym y')
apply_determined (no_bytes c q h n b y k) (not_read c' r q' h' x d n' y' k') = absurd (omega arith)
apply_determined (no_bytes c q h n b y k) (applied c' e q' h' x r t w) = absurd (omega arith)
apply_determined (not_read c' r q' h' x d n' y' k') (no_bytes c q h n b y k) = absurd (omega arith)
apply_determined (applied c' e q' h' x r t w) (no_bytes c q h n b y k) = absurd (omega arith)
apply_determined (not_read c r q h x d n y k) (not_read c' r' q' h' x' d' n' y' k') =
    let e = read_determined _ _ _ _ r r' x x' in (n ∙ ap number_of e.0 ∙ sym n', k ∙ sym k', e.1, y ∙ sym y')
apply_determined (not_read c r q h x d n y k) (applied c' e q' h' x' r' t w) = absurd (unread e x d x' r')
apply_determined (applied c e q h x r t w) (not_read c' r' q' h' x' d' n' y' k') = absurd (unread e x' d' x r)
apply_determined {board} (applied c a q h x r t w) (applied d b q' h' x' r' t' w') = told_same board _ _ (same_result c d a b q q' x x') t t' w w'

-- ---- a read, a step and a write, one after another

wrote : {ws before after : List ℕ} {long longer : ℕ} {r : Answer} (b : Board) → Holds ws b → well_formed b ≡ true → most_bytes ≤ length before → Written ws before long after longer r
    → (after ≡ snapshot_of b ++ drop (length (snapshot_of b)) before) × (longer ≡ length (snapshot_of b))
wrote b h g l (not_board x p q o) = absurd (x (record { board = b; holds = h; good = g }))
wrote b h g l (no_room a i j k p q o) = absurd (omega (arith, snapshot_most a j))
wrote {ws} {before} b h g l (written a i j k p q o) =
    let e = one_board ws a b i h in (q ∙ ap (λ (x : Board). snapshot_of x ++ drop (length (snapshot_of x)) before) e, o ∙ ap (λ (x : Board). length (snapshot_of x)) e)

module _ {c : Call} {snapshot board bytes counts words after bytes' results : List ℕ} {i j n long longer : ℕ} where
  -- a board's words alone are lent, and bytes enough: what the three leave is what the one may leave
  three_calls : length board ≡ board_size → most_bytes ≤ length bytes → ExportedRead snapshot board words i → i ≡ 0 → ExportedStep (answer_to c) words after n results
      → ExportedWrite after bytes long bytes' longer j → Applied (some c) snapshot board bytes counts after bytes' (results ++ (longer ∷ [])) n
  three_calls e l r z s w =
      let g = got r.read (sym r.told ∙ z) in
      let b = g.board in
      let none = drop_of_length-le board {i = board_size} (omega arith) in
      let h : Holds words b = record { words = g.words ∙ ap (λ (t : List ℕ). encode b ++ t) none ∙ append-nil (encode b); fits = well_formed_fits b (got_good g) } in
      let d = given_board _ _ _ words after s.outcome b s.permitted h (got_good g) in
      let x = wrote (answer_to c b).board d.1 (well_formed_kept c b (got_good g)) l w.written in
      applied c b refl l g.reads g.room
      (record {
        answer = s.answer ∙ ap (λ (o : Outcome). number_of o.answer) d.0;
        written = x.0;
        counts = ap (λ (t : List ℕ). t ++ (longer ∷ [])) (s.counts ∙ ap (λ (o : Outcome). o.handled ∷ o.draws_used ∷ []) d.0) ∙ ap (λ (t : ℕ). (answer_to c b).handled ∷ (answer_to c b).used ∷ t ∷ []) x.1;
      })
      (d.1.words ∙ sym (append-nil _) ∙ ap (λ (t : List ℕ). encode (answer_to c b).board ++ t) (sym none))

  -- THE CALL IS THE THREE: its number and counts are the step's, with the write's length, its words the step's and its bytes the write's
  pub apply_is_three : {u y k : List ℕ} {m : ℕ} → Applied (some c) snapshot board bytes counts u y k m → length board ≡ board_size → most_bytes ≤ length bytes
      → ExportedRead snapshot board words i → i ≡ 0 → ExportedStep (answer_to c) words after n results → ExportedWrite after bytes long bytes' longer j
      → (m ≡ n) × (k ≡ results ++ (longer ∷ [])) × (u ≡ after) × (y ≡ bytes')
  apply_is_three a e l r z s w = apply_determined a (three_calls e l r z s w)
