use Rattle.std.proofs.Common.{ℕ, ◌≡◌, Bool, true, false, cond, ◌||◌, List, arith}
use Rattle.phrases.specs.Texts.{bytes}
use Rattle.row_lines.specs.Rows.{member_row_text}
use Rattle.lines.proofs.Lays.{puts_both}
use Rattle.row_lines.proofs.put_member_row.Goals as goal

in_either : (c d e f : Bool) (here elsewhere : List ℕ) → c ≡ e → d ≡ f → (c || d) ≡ true → cond e here (cond f here elsewhere) ≡ here
in_either true d e f here elsewhere s t h = rw (← s)
in_either false d e f here elsewhere s t h = rw (← s, ← t, h)

in_neither : (c d e f : Bool) (here elsewhere : List ℕ) → c ≡ e → d ≡ f → (c || d) ≡ false → cond e here (cond f here elsewhere) ≡ elsewhere
in_neither true d e f here elsewhere s t h = absurd (grind arith)
in_neither false d e f here elsewhere s t h = rw (← s, ← t, h)

pub returns-then-is_seated_on-observes_shard : goal.returns-then-is_seated_on-observes_shard
unfolding bytes member_row_text
returns-then-is_seated_on-observes_shard c =
    rw (in_either _ _ _ _ _ _ c.is_seated_on.ensures c.observes_shard.ensures c.if-is_seated_on-observes_shard.true)
    (puts_both (puts_both c.put_number-a.ensures c.put_text-b.ensures) c.put_member.ensures)

pub returns : goal.returns
unfolding bytes member_row_text
returns c =
    rw (in_neither _ _ _ _ _ _ c.is_seated_on.ensures c.observes_shard.ensures c.if-is_seated_on-observes_shard.false)
    (puts_both (puts_both c.put_number-a.ensures c.put_text-b.ensures) (puts_both c.put_text-c.ensures c.put_place.ensures))
