use Prim.Native.Nat.{ℕ, ◌≤◌}
use mathlib.Core.Path.{◌≡◌}
use mathlib.Core.List.{List}
use mathlib.Core.Bool.{true}
use lib.ListN.{length, drop}
use Rattle.rules.specs.Lists.{distinct}
use Rattle.word_tests.specs.Tests.{mark_count}
use Rattle.word_tests.proofs.Marked.{Marked}
use Rattle.word_tests.proofs.marks.Marks.differ.Given as goal

-- the ids from i on are distinct, and each has its mark
pub record Seen (stamp : ℕ) (t marks : List ℕ) (i : ℕ) : Type 0 where
  pub within : i ≤ length t
  pub long : length marks ≡ mark_count
  pub apart : distinct (drop i t) ≡ true
  pub marked : Marked stamp marks (drop i t)

abbrev pub invariant-loop-i : goal.invariant-loop-i
invariant-loop-i g l = Seen l.stamp (g.W.Words.words l.ids) l.self.marks l.i
