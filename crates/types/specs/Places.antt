-- A machine's place: what can be asked of it, and the moves that take a place and give the new one.
use Rattle.std.specs.Prelude.{ℕ, ◌+◌, Bool, true, false, not, ◌&&◌, eqb, leb}
use Rattle.types.specs.Numbers as numbers
use Rattle.types.specs.declared.ShardId.{ShardId}
use Rattle.types.specs.declared.Epoch.{Epoch}
use Rattle.types.specs.declared.Place.{Place}
use Rattle.types.specs.declared.Place.TheVariants.{Pooled, Seated, Observing, Short, Other}

-- the code's structs around the numbers
abbrev pub shard_id : numbers.Shard → ShardId
shard_id s = record { 0 = s }

abbrev pub epoch_at : numbers.Epoch → Epoch
epoch_at e = record { 0 = e }

-- ---- what can be asked

abbrev pub is_pooled : Place → Bool
is_pooled Pooled = true
is_pooled (Seated s r w) = false
is_pooled (Observing s w) = false
is_pooled Short = false
is_pooled (Other m) = false

abbrev pub is_seated_on : numbers.Shard → Place → Bool
is_seated_on s Pooled = false
is_seated_on s (Seated t r w) = eqb t.0 s
is_seated_on s (Observing t w) = false
is_seated_on s Short = false
is_seated_on s (Other m) = false

abbrev pub is_observing : Place → Bool
is_observing Pooled = false
is_observing (Seated s r w) = false
is_observing (Observing s w) = true
is_observing Short = false
is_observing (Other m) = false

abbrev pub observes : numbers.Shard → Place → Bool
observes s Pooled = false
observes s (Seated t r w) = false
observes s (Observing t w) = eqb t.0 s
observes s Short = false
observes s (Other m) = false

-- seated and ready, on any shard
abbrev pub is_ready : Place → Bool
is_ready Pooled = false
is_ready (Seated s r w) = r
is_ready (Observing s w) = false
is_ready Short = false
is_ready (Other m) = false

-- seated and waiting, 'at or past the deadline': its stamp plus the wait
abbrev pub is_overdue : numbers.Epoch → ℕ → Place → Bool
is_overdue epoch wait Pooled = false
is_overdue epoch wait (Seated s r w) = not r && leb (w.0 + wait) epoch
is_overdue epoch wait (Observing s w) = false
is_overdue epoch wait Short = false
is_overdue epoch wait (Other m) = false

-- ---- the moves

abbrev pub pooled : Place → Place
pooled p = Pooled

abbrev pub short : Place → Place
short p = Short

-- 'seats that machine, waiting, stamped now'
abbrev pub drawn_to : numbers.Shard → numbers.Epoch → Place → Place
drawn_to s epoch p = Seated (shard_id s) false (epoch_at epoch)

-- 'each observes the target, stamped now'
abbrev pub set_to_watch : numbers.Shard → numbers.Epoch → Place → Place
set_to_watch s epoch p = Observing (shard_id s) (epoch_at epoch)

-- 'moves, keeping ready and stamp'
abbrev pub moved_to : numbers.Shard → Place → Place
moved_to s Pooled = Pooled
moved_to s (Seated t r w) = Seated (shard_id s) r w
moved_to s (Observing t w) = Observing t w
moved_to s Short = Short
moved_to s (Other m) = Other m

-- 'move to the parent with the seat's ready, own stamp kept'
abbrev pub kept_on : numbers.Shard → Bool → Place → Place
kept_on s ready Pooled = Pooled
kept_on s ready (Seated t r w) = Seated (shard_id s) ready w
kept_on s ready (Observing t w) = Observing t w
kept_on s ready Short = Short
kept_on s ready (Other m) = Other m

-- 'becomes seated with the seat's ready, stamped now'
abbrev pub seated_from_watch : numbers.Shard → Bool → numbers.Epoch → Place → Place
seated_from_watch s ready epoch Pooled = Pooled
seated_from_watch s ready epoch (Seated t r w) = Seated t r w
seated_from_watch s ready epoch (Observing t w) = Seated (shard_id s) ready (epoch_at epoch)
seated_from_watch s ready epoch Short = Short
seated_from_watch s ready epoch (Other m) = Other m

-- 'become ready, stamp kept'
abbrev pub made_ready : Place → Place
made_ready Pooled = Pooled
made_ready (Seated s r w) = Seated s true w
made_ready (Observing s w) = Observing s w
made_ready Short = Short
made_ready (Other m) = Other m
