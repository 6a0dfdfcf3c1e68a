-- The test of the settings says yes exactly of good settings' words.
use Prim.Native.Nat.{ℕ}
use mathlib.Core.Path.{◌≡◌, refl, ap, sym, ◌∙◌}
use mathlib.Core.List.{List, ◌∷◌, ◌++◌}
use mathlib.Core.Bool.{true}
use native.Mathlib.Omega.{arith}
use borrow.Author.Tests.{eqb-true}
use lib.ListN.{length, drop}
use Rattle.rules.specs.Board.{Settings}
use Rattle.rules.specs.WellFormed.{good_settings}
use Rattle.rules.specs.Snapshot.{settings_words}
use Rattle.rules.proofs.Tests.{all_parts, all_joins}
use Rattle.tables.specs.Rows.{pad}
use Rattle.shifts.proofs.Parts.{gets, gets_is}
use Rattle.board.specs.Layout.{machines_at, settings_table}
use Rattle.board.proofs.Widths.{settings_wide}
use Rattle.word_tests.specs.Tests.{at, between}
use Rattle.word_tests.proofs.Tests.{pass_parts, pass_joins}
use Rattle.word_tests.proofs.Decides.{Words, Held, Decides, padded, zero_complete}
use Rattle.row_tests.proofs.Rows.{to_end}
use Rattle.wellformed.specs.Check.{numbers_ok, settings_ok}

settings_sound : (t : List ℕ) → Words t → length t ≡ machines_at → settings_ok t ≡ true → Held settings_table good_settings t
unfolding settings_ok numbers_ok settings_table settings_words good_settings
settings_sound t ws l h =
    let z = pass_parts _ h in
    let n : at t 0 ≡ 6 = eqb-true (at t 0) 6 z.0 in
    record {
      value = record { epoch = at t 1; size = at t 2; drain = at t 3; wait = at t 4; interval = at t 5; most = at t 6 };
      words = padded machines_at t (6 ∷ gets 1 6 t) (between 7 machines_at t)
          (gets_is 7 0 t (omega arith) ∙ ap (λ (m : ℕ). m ∷ (gets 1 6 t ++ drop 7 t)) n ∙ ap (λ (u : List ℕ). (6 ∷ gets 1 6 t) ++ u) (sym (to_end 7 machines_at t (omega arith)))) l z.1.1.0;
      fine = all_joins _ (pass_parts _ z.1.0);
    }

settings_complete : (s : Settings) → good_settings s ≡ true → settings_ok (settings_table s) ≡ true
unfolding settings_ok numbers_ok settings_table settings_words good_settings pad
settings_complete s g = pass_joins _ (refl, (pass_joins _ (all_parts _ g), (zero_complete 9, tt)))

pub settings_decides : Decides settings_table good_settings machines_at settings_ok
settings_decides = record { wide = settings_wide; sound = settings_sound; complete = settings_complete }
