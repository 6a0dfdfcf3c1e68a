-- Each name is read as its own number, with '-' for '_' too; any other word as none.
use mathlib.Core.Path.{◌≡◌, refl}
use mathlib.Core.List.{[], ◌∷◌, map}
use lib.ListN.{drop}
use Rattle.phrases.specs.Texts.{bytes}
use Rattle.step_names.specs.Names.{same_name, place_among}
use Rattle.step_names.specs.Table.{Row, steps, number_from}

pub each_named : map (λ (s : Row). number_from 1 (bytes s.name)) (drop 1 steps) ≡ 1 ∷ 2 ∷ 3 ∷ 4 ∷ 5 ∷ 6 ∷ 7 ∷ 8 ∷ 9 ∷ 10 ∷ 11 ∷ 12 ∷ 13 ∷ 14 ∷ 15 ∷ []
unfolding bytes same_name place_among steps number_from
each_named = refl

pub dashed : (number_from 1 (bytes "mark-seat-ready") ≡ 4) × (number_from 1 (bytes "mark seat ready") ≡ 0)
unfolding bytes same_name place_among steps number_from
dashed = (refl, refl)
