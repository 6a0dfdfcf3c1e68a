-- The steps in order, as a word is looked for among their names.
use Prim.Native.Nat.{ℕ, zero, suc, ◌+◌, ◌<◌}
use mathlib.Core.Path.{◌≡◌, refl, sym, ◌∙◌}
use mathlib.Core.Bool.{true, false, cond}
use mathlib.Core.List.{List, [], ◌∷◌}
use native.Mathlib.Omega.{arith}
use lib.ListN.{get_or, drop}
use Rattle.phrases.specs.Texts.{bytes}
use Rattle.step_names.specs.declared.Step.{Step}
use Rattle.step_names.specs.declared.Step.TheVariants.{Tick, AdmitSplit, AdmitMerge, MarkSeatReady, MarkQuiet, DrawCohort, Lapse, ScheduleSplits, ScheduleMerges, CutSplits, CutMerges, Leave, Rotate, Resolve, TimeOut}
use Rattle.step_names.specs.Names.{same_name, place_among}
use Rattle.step_names.specs.Table.{steps, number, name_of, names, number_from}

abbrev pub all : List Step
all = Tick ∷ AdmitSplit ∷ AdmitMerge ∷ MarkSeatReady ∷ MarkQuiet ∷ DrawCohort ∷ Lapse ∷ ScheduleSplits ∷ ScheduleMerges ∷ CutSplits ∷ CutMerges ∷ Leave ∷ Rotate ∷ Resolve ∷ TimeOut ∷ []

-- step i has the number i + 1, and is asked next after those before it
turn : (w : List ℕ) (i : ℕ) → i < 15 → (number (get_or all i Tick) ≡ 1 + i)
    × (place_among w (1 + i) (drop (1 + i) names)
    ≡ cond (same_name w (bytes (name_of (get_or all i Tick)))) (1 + i) (place_among w (1 + (i + 1)) (drop (1 + (i + 1)) names)))
unfolding place_among steps number name_of
turn w zero h = (refl, refl)
turn w (suc zero) h = (refl, refl)
turn w (suc (suc zero)) h = (refl, refl)
turn w (suc (suc (suc zero))) h = (refl, refl)
turn w (suc (suc (suc (suc zero)))) h = (refl, refl)
turn w (suc (suc (suc (suc (suc zero))))) h = (refl, refl)
turn w (suc (suc (suc (suc (suc (suc zero)))))) h = (refl, refl)
turn w (suc (suc (suc (suc (suc (suc (suc zero))))))) h = (refl, refl)
turn w (suc (suc (suc (suc (suc (suc (suc (suc zero)))))))) h = (refl, refl)
turn w (suc (suc (suc (suc (suc (suc (suc (suc (suc zero))))))))) h = (refl, refl)
turn w (suc (suc (suc (suc (suc (suc (suc (suc (suc (suc zero)))))))))) h = (refl, refl)
turn w (suc (suc (suc (suc (suc (suc (suc (suc (suc (suc (suc zero))))))))))) h = (refl, refl)
turn w (suc (suc (suc (suc (suc (suc (suc (suc (suc (suc (suc (suc zero)))))))))))) h = (refl, refl)
turn w (suc (suc (suc (suc (suc (suc (suc (suc (suc (suc (suc (suc (suc zero))))))))))))) h = (refl, refl)
turn w (suc (suc (suc (suc (suc (suc (suc (suc (suc (suc (suc (suc (suc (suc zero)))))))))))))) h = (refl, refl)
turn w (suc (suc (suc (suc (suc (suc (suc (suc (suc (suc (suc (suc (suc (suc (suc i))))))))))))))) h = absurd (omega arith)

module _ (w name : List ℕ) (i : ℕ) (h : i < 15) (e : name ≡ bytes (name_of (get_or all i Tick))) (p : number_from 1 w ≡ place_among w (1 + i) (drop (1 + i) names)) where
  pub named : true ≡ same_name w name → number (get_or all i Tick) ≡ number_from 1 w
  named s = let t = turn w i h in t.0 ∙ sym (p ∙ t.1 ∙ rw (← e, ← s))

  pub passed : false ≡ same_name w name → number_from 1 w ≡ place_among w (1 + (i + 1)) (drop (1 + (i + 1)) names)
  passed s = let t = turn w i h in p ∙ t.1 ∙ rw (← e, ← s)

pub none_named : (w : List ℕ) (i : ℕ) → i ≡ 15 → number_from 1 w ≡ place_among w (1 + i) (drop (1 + i) names) → number_from 1 w ≡ 0
unfolding place_among steps
none_named w i z p = rw z at p
