-- A truth as a number, and an order as a test: std's words are the rules' and the tables'.
use Prim.Native.Nat.{ℕ}
use mathlib.Core.Path.{◌≡◌, refl}
use mathlib.Core.Bool.{Bool, true, false}
use native.Mathlib.Omega.{arith}
use mir.Val.{bool_byte}
use lib.Dec.{ltb}
use Rattle.std.specs.Ordering.{is_lt, nat_cmp}
use Rattle.rules.specs.Lists.{bit_of}

pub bit_is : (c : Bool) → bool_byte c ≡ bit_of c
bit_is true = refl
bit_is false = refl

pub less_is : (a b : ℕ) → is_lt (nat_cmp a b) ≡ ltb a b
less_is a b = grind arith
