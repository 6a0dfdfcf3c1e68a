use mathlib.Core.Path.{ap, ◌∙◌}
use mathlib.Core.List.{List, ◌++◌}
use Prim.Native.Nat.{ℕ}
use native.Mathlib.Omega.{arith}
use lib.ListN.{length-append, replicate}
use Rattle.wellformed.specs.Check.{settings_ok}
use Rattle.unpacking.proofs.Bytes.{total, words_are}
use Rattle.reading.proofs.Boards.{head_none, head_told}
use Rattle.reading.proofs.head_ok.Goals as goal

pub returns-then-bytes-lt-SETTINGS_END : goal.returns-then-bytes-lt-SETTINGS_END
returns-then-bytes-lt-SETTINGS_END c = λ ws h. head_none ws (omega (arith, total h))

pub slice_bounds-settings_ok-end : goal.slice_bounds-settings_ok-end
slice_bounds-settings_ok-end c = simp length-append (omega (arith, c.t-2-1.given))

pub settings_ok-requires : goal.settings_ok-requires
settings_ok-requires c = simp length-append (omega (arith, c.t-2-1.given))

pub returns : goal.returns
returns c = λ ws h.
    head_told ws _ h.words (omega (arith, total h))
    (c.settings_ok.ensures ∙ ap (λ (u : List ℕ). settings_ok (u ++ replicate 9 0)) (c.get_words.ensures.1 ∙ words_are h 0 7 (omega (arith, total h))))
