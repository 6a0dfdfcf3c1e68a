-- One law for every step over several shards: a turn that finishes goes on, one that is refused ends the step, and so does the last.
use Prim.Native.Nat.{ℕ, suc, ◌+◌, ◌-◌, ◌≤◌, ◌<◌}
use mathlib.Core.Path.{◌≡◌, ap, ◌∙◌}
use mathlib.Core.List.{List, [], ◌∷◌}
use mathlib.Core.Bool.{true}
use native.Mathlib.Omega.{arith}
use lib.ListN.{length, get_or, drop, length-append, length-drop, drop_of_length-le}
use lib.Seq.{drop-cons}
use Rattle.std.specs.Prelude.{Result, Ok, Err}
use Rattle.types.specs.Numbers.{Shard}
use Rattle.types.specs.declared.Answer.{Answer}
use Rattle.types.specs.declared.Answer.TheVariants.{Done}
use Rattle.rules.specs.Board.{Board}
use Rattle.rules.specs.WellFormed.{well_formed}
use Rattle.rules.specs.Turns.{Turn, in_turn, batch}
use Rattle.rules.proofs.Turns.{Finishes, in_turn_finished, in_turn_refused, batch_good}
use Rattle.rules.proofs.Draws.{ReadsTurn}
use Rattle.board.specs.Held.{Holds}
use Rattle.sampling.specs.declared.Reader.{Reader}
use Rattle.pool.specs.Told.{TurnTells}
use Rattle.pool.specs.declared.Turn as step
use Rattle.steps.specs.Inner.{outcome, Step}
use Rattle.batches.specs.Underway.{Underway}

-- what a shard's turn says of the words, whatever board they hold
abbrev pub TellsShard : (Shard → List ℕ → Board → Turn) → List ℕ → ℕ → Shard → List ℕ → List ℕ → Result step.Turn Answer → Type 0
TellsShard turn draws at s now after r = (c : Board) → Holds now c → well_formed c ≡ true → TurnTells draws after c (turn s (drop at draws) c) r

module _ (turn : Shard → List ℕ → Board → Turn) (reads : (s : Shard) (c : Board) → ReadsTurn (λ ds. turn s ds c)) (Keeps : Board → Type 0)
    (good : (c : Board) → Keeps c → well_formed c ≡ true) (shards : List Shard) (draws : List ℕ) (b : Board) where
  abbrev pub At : ℕ → ℕ → ℕ → List ℕ → Type 0
  At i handled at now = Underway turn Keeps shards draws b i handled at now

  pub begins : (now : List ℕ) → Holds now b → well_formed b ≡ true → Keeps b → At 0 0 0 now
  begins now h w k = record { board = b; holds = h; kept = k; read = omega arith; rest = batch_good turn shards draws b w }

  module _ (i handled at : ℕ) (now after : List ℕ) (u : At i handled at now) (l : i < length shards) (s : Shard) (e : s ≡ get_or shards i 0) where
    next_shard : drop i shards ≡ s ∷ drop (suc i) shards
    next_shard = rw e (drop-cons shards i 0 l)

    pub goes_on_lem : (n : ℕ) (left : Reader) → TellsShard turn draws at s now after (Ok (record { handled = n; left = left })) → Finishes Keeps (turn s (drop at draws) u.board)
        → At (suc i) (handled + n) left.at after
    goes_on_lem n left t k =
        let f = t u.board u.holds (good u.board u.kept) in
        let d = reads s u.board (drop at draws) (drop left.at draws) n f.board f.turn in
        let whole : length (drop at draws) ≡ length d.used + length (drop left.at draws) = ap length d.whole ∙ length-append d.used (drop left.at draws) in
        let x = length-drop at draws in
        let y = length-drop left.at draws in
        let used : at + (length (drop at draws) - length (drop left.at draws)) ≡ left.at = omega (arith, u.read, f.read) in
        record {
          board = f.board;
          holds = f.holds;
          kept = rw f.turn at k;
          read = f.read;
          rest = u.rest ∙ ap (λ l. in_turn turn l handled at (drop at draws) u.board) next_shard
              ∙ in_turn_finished turn s (drop (suc i) shards) handled at (drop at draws) u.board n (drop left.at draws) f.board f.turn
              ∙ ap (λ k. in_turn turn (drop (suc i) shards) (handled + n) k (drop left.at draws) f.board) used;
        }

    pub stops : (a : Answer) → TellsShard turn draws at s now after (Err a) → Step (λ c. batch turn shards draws b) b after (outcome a handled at)
    stops a t =
        let f = t u.board u.holds (good u.board u.kept) in
        let e : batch turn shards draws b ≡ record { answer = a; handled = handled; used = at; board = u.board } =
        u.rest ∙ ap (λ l. in_turn turn l handled at (drop at draws) u.board) next_shard ∙ in_turn_refused turn s (drop (suc i) shards) handled at (drop at draws) u.board a f.0 in
        record { told = rw e; left = rw e f.1 }

  pub ends : (i handled at : ℕ) (now : List ℕ) → At i handled at now → length shards ≤ i → Step (λ c. batch turn shards draws b) b now (outcome Done handled at)
  unfolding in_turn
  ends i handled at now u l =
      let e : batch turn shards draws b ≡ record { answer = Done; handled = handled; used = at; board = u.board } =
      u.rest ∙ ap (λ l. in_turn turn l handled at (drop at draws) u.board) (drop_of_length-le shards l) in
      record { told = rw e; left = rw e u.holds }
