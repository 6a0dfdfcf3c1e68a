-- The shards that a step goes through.
use Rattle.std.specs.Prelude.{List, [], ◌∷◌, Bool, true, false, cond, not}
use Rattle.types.specs.Numbers.{Shard, Epoch}
use Rattle.rules.specs.Lists.{◌and◌}
use Rattle.rules.specs.Table.{Entry, is_some, keys_where}
use Rattle.rules.specs.Board.{split, merge, Reshape, Board, epoch_of}
use Rattle.rules.specs.Moves.{is_kind}
use Rattle.rules.specs.Cut.{is_terminal}
use Rattle.batches.specs.declared.Which.{Which}
use Rattle.batches.specs.declared.Which.TheVariants.{SplitsToSchedule, MergesToSchedule, SplitsDue, MergesDue}

abbrev pub merges_of : Which → Bool
merges_of SplitsToSchedule = false
merges_of MergesToSchedule = true
merges_of SplitsDue = false
merges_of MergesDue = true

abbrev pub due_of : Which → Bool
due_of SplitsToSchedule = false
due_of MergesToSchedule = false
due_of SplitsDue = true
due_of MergesDue = true

-- 'unscheduled ones'; 'when the terminal is at most the epoch'
abbrev pub is_ripe : Bool → Epoch → Reshape → Bool
is_ripe false epoch r = not (is_some r.terminal)
is_ripe true epoch r = is_terminal epoch r

abbrev pub is_wanted : Which → Epoch → Reshape → Bool
is_wanted w epoch r = is_kind (cond (merges_of w) merge split) r and is_ripe (due_of w) epoch r

-- the key of a row that is wanted
abbrev pub taken : Which → Epoch → Entry Reshape → List Shard
taken w epoch e = cond (is_wanted w epoch e.val) (e.key ∷ []) []

abbrev pub targets_of : Which → Board → List Shard
targets_of w b = keys_where (is_wanted w (epoch_of b)) b.reshapes
