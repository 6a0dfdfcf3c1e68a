-- Two permitted results of an exported function are equal: the number, the counts and every lent word.
use mathlib.Core.Path.{◌≡◌, ap, sym, ◌∙◌}
use mathlib.Core.List.{List, [], ◌∷◌}
use Prim.Native.Nat.{ℕ}
use Rattle.types.specs.Answers.{number_of}
use Rattle.types.specs.declared.Outcome.{Outcome}
use Rattle.rules.specs.Board.{Board}
use Rattle.rules.specs.Turns.{Result}
use Rattle.rules.proofs.Counts.{Alike, same, apart, alike}
use Rattle.board.proofs.Permits.{step_determined}
use Rattle.snapshot.proofs.Writes.{write_determined}
use Rattle.snapshot.proofs.Trips.{read_determined}
use Rattle.roster.specs.Exported.{ExportedStep, ExportedCheck, ExportedWrite, ExportedRead}

pub exported_determined : (step : Board → Result) (before u v : List ℕ) (m n : ℕ) (f g : List ℕ) → ExportedStep step before u m f → ExportedStep step before v n g → (m ≡ n) × (f ≡ g) × (u ≡ v)
exported_determined step before u v m n f g a b =
    let e = step_determined step before u v a.outcome b.outcome a.permitted b.permitted in (
      a.answer ∙ ap (λ (o : Outcome). number_of o.answer) e.0 ∙ sym b.answer,
      a.counts ∙ ap (λ (o : Outcome). o.handled ∷ o.draws_used ∷ []) e.0 ∙ sym b.counts,
      e.1,
    )

pub check_determined : (Good : List ℕ → Type 0) (ws : List ℕ) (m n : ℕ) → ExportedCheck Good ws m → ExportedCheck Good ws n → m ≡ n
check_determined Good ws m n a b = go (alike m 1) (alike n 1)
  where
    go : Alike m 1 → Alike n 1 → m ≡ n
    go (same p q) k = p ∙ sym (b.held (a.yes p))
    go (apart p q) (same r s) = absurd (p (a.held (b.yes r)))
    go (apart p q) (apart r s) = a.bit p ∙ sym (b.bit r)

pub exported_write_determined : (ws before u v : List ℕ) (long l m i j : ℕ) → ExportedWrite ws before long u l i → ExportedWrite ws before long v m j → (i ≡ j) × (u ≡ v) × (l ≡ m)
exported_write_determined ws before u v long l m i j a b =
    let e = write_determined ws before long u v l m a.answer b.answer a.written b.written in (a.told ∙ ap number_of e.0 ∙ sym b.told, e.1, e.2)

pub exported_read_determined : (bytes before u v : List ℕ) (i j : ℕ) → ExportedRead bytes before u i → ExportedRead bytes before v j → (i ≡ j) × (u ≡ v)
exported_read_determined bytes before u v i j a b =
    let e = read_determined bytes before u v a.answer b.answer a.read b.read in (a.told ∙ ap number_of e.0 ∙ sym b.told, e.1)
