-- The code's tests on bools and the definitions' are the same.
use mathlib.Core.Path.{◌≡◌, refl}
use mathlib.Core.Bool.{Bool, true, false, ◌&&◌, ◌||◌}
use Rattle.rules.specs.Lists.{◌and◌, ◌or◌}

pub or_is : (c d : Bool) → (c || d) ≡ (c or d)
unfolding ◌or◌
or_is true d = refl
or_is false d = refl

pub and_is : (c d : Bool) → (c && d) ≡ (c and d)
unfolding ◌and◌
and_is true d = refl
and_is false d = refl

pub and_end : (c : Bool) → (c and true) ≡ c
unfolding ◌and◌
and_end true = refl
and_end false = refl
