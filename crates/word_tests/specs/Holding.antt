-- What marks hold.
use Rattle.std.specs.Prelude.{ℕ, ◌≡◌, List, replicate}
use Rattle.word_tests.specs.declared.marks.Marks.{Marks}
use Rattle.word_tests.specs.Tests.{mark_count}

pub record Holding (ms : List ℕ) (s : ℕ) (m : Marks) : Type 0 where
  pub marks : m.marks ≡ ms
  pub stamp : m.stamp ≡ s

-- no list has set one
abbrev pub Unset : Marks → Type 0
Unset = Holding (replicate mark_count 0) 0
