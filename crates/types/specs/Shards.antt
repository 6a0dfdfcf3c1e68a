-- The numbering of shards, and the quorum of a committee.
use Rattle.std.specs.Prelude.{ℕ, ◌+◌, ◌*◌, ◌-◌, ◌/◌}
use Rattle.types.specs.Numbers.{Shard}

-- 's has children 2s (left) and 2s+1 (right)'
abbrev pub left_of : Shard → Shard
left_of s = 2 * s

abbrev pub right_of : Shard → Shard
right_of s = 2 * s + 1

-- 'and parent s/2 rounded down; 1 has none': 0 is no shard
abbrev pub parent_of : Shard → Shard
parent_of s = s / 2

-- 'f = (S-1)/3 rounded down, and quorum is 2f+1'
abbrev pub byzantine_threshold : ℕ → ℕ
byzantine_threshold size = (size - 1) / 3

abbrev pub quorum : ℕ → ℕ
quorum size = 2 * byzantine_threshold size + 1
