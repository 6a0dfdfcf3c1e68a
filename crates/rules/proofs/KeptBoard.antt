-- A good board: what `well_formed` says of each part, and one part changed.
use mathlib.Core.Path.{◌≡◌, refl, sym, ◌∙◌}
use mathlib.Core.List.{List}
use mathlib.Core.Option.{Option, none, some}
use mathlib.Core.Bool.{Bool, true, false, true≢false}
use Prim.Native.Nat.{ℕ, ◌+◌, ◌*◌, ◌≤◌}
use native.Mathlib.Omega.{arith}
use Rattle.types.specs.Numbers.{Shard, Id, Epoch}
use Rattle.types.specs.Shards.{left_of, right_of}
use Rattle.types.specs.declared.Place.{Place}
use Rattle.rules.specs.Lists.{◌and◌, ◌or◌, is_empty}
use Rattle.rules.specs.Table.{entry, Table, at}
use Rattle.rules.specs.Board.{Settings, Boundary, Rotation, Seat, Reshape, Board, most_machines, most_committees, most_bounds, most_reshapes, most_seats, most_half, last_epoch, last_stamp, last_target, on_settings, on_machines, on_committees, on_bounds, on_rotations, on_reshapes}
use Rattle.rules.specs.WellFormed.{is_shard, is_target, is_stamp, good_option, good_settings, good_machine, good_committee, good_boundary, good_seat, good_quiet, may_have_halves, good_reshape, well_formed}
use Rattle.rules.specs.Moves.{with_seats, with_quiet, with_drain_by, with_terminal}
use Rattle.rules.proofs.Tests.{and_parts, and_joins, all_parts, all_joins, le_of, of_le}
use Rattle.rules.proofs.KeptLists.{Ids, ids_of, of_ids}
use Rattle.rules.proofs.KeptRotations.{Rota, rota_of, of_rota}
use Rattle.rules.proofs.KeptTables.{Rows, rows_of, of_rows}

-- ---- numbers in their ranges

pub record Limits (s : Settings) : Type 0 where
  pub epoch : s.epoch ≤ last_epoch
  pub size : s.size ≤ 32
  pub drain : s.drain ≤ 1000000

pub limits : (s : Settings) → good_settings s ≡ true → Limits s
unfolding good_settings
limits s h = let p = all_parts _ h in record { epoch = le_of _ _ p.0; size = le_of _ _ (and_parts _ _ p.1.0).1; drain = le_of _ _ p.1.1.0 }

-- a target and its children are shards
pub record Family (t : Shard) : Type 0 where
  pub least : 1 ≤ t
  pub target : is_shard t ≡ true
  pub left : is_shard (left_of t) ≡ true
  pub right : is_shard (right_of t) ≡ true

pub shard_of : (s : Shard) → 1 ≤ s → s ≤ 65535 → is_shard s ≡ true
shard_of s a z = and_joins _ _ (of_le _ _ a) (of_le _ _ z)

pub target_within : (t : Shard) → is_target t ≡ true → t ≤ last_target
target_within t h = le_of _ _ (and_parts _ _ h).1

pub family : (t : Shard) → is_target t ≡ true → Family t
family t h =
    let a : 1 ≤ t = le_of _ _ (and_parts _ _ h).0 in
    let z = target_within t h in
    record { least = a; target = shard_of _ a (omega arith); left = shard_of (2 * t) (omega arith) (omega arith); right = shard_of (2 * t + 1) (omega arith) (omega arith) }

-- ---- reshapes

pub record Fit (t : Shard) (r : Reshape) : Type 0 where
  pub target : is_target t ≡ true
  pub admitted : is_stamp r.admitted ≡ true
  pub drain_by : good_option r.drain_by ≡ true
  pub terminal : good_option r.terminal ≡ true
  pub quiet : good_quiet r.kind r.quiet_right ≡ true
  pub seats : Rows most_seats (good_seat t) r.seats
  pub left : Ids most_half r.left
  pub right : Ids most_half r.right
  pub halves : (may_have_halves r.kind r.terminal or (is_empty r.left and is_empty r.right)) ≡ true

pub fit_of : (t : Shard) (r : Reshape) → good_reshape (entry t r) ≡ true → Fit t r
unfolding good_reshape
fit_of t r h =
    let p = all_parts _ h in
    record {
      target = p.0;
      admitted = p.1.0;
      drain_by = p.1.1.0;
      terminal = p.1.1.1.0;
      quiet = p.1.1.1.1.0;
      seats = rows_of _ _ _ p.1.1.1.1.1.0;
      left = ids_of _ _ p.1.1.1.1.1.1.0;
      right = ids_of _ _ p.1.1.1.1.1.1.1.0;
      halves = p.1.1.1.1.1.1.1.1.0;
    }

pub of_fit : {t : Shard} {r : Reshape} → Fit t r → good_reshape (entry t r) ≡ true
unfolding good_reshape
of_fit h = all_joins _ (h.target, (h.admitted, (h.drain_by, (h.terminal, (h.quiet, (of_rows h.seats, (of_ids h.left, (of_ids h.right, (h.halves, tt)))))))))

pub Fit-seats : {t : Shard} {r : Reshape} (f : Table Seat → Table Seat) → Rows most_seats (good_seat t) (f r.seats) → Fit t r → Fit t (with_seats f r)
Fit-seats f s h =
    record { target = h.target; admitted = h.admitted; drain_by = h.drain_by; terminal = h.terminal; quiet = h.quiet; seats = s; left = h.left; right = h.right; halves = h.halves }

pub Fit-quiet : {t : Shard} {r : Reshape} (f g : Bool → Bool) → good_quiet r.kind (g r.quiet_right) ≡ true → Fit t r → Fit t (with_quiet f g r)
Fit-quiet f g q h =
    record { target = h.target; admitted = h.admitted; drain_by = h.drain_by; terminal = h.terminal; quiet = q; seats = h.seats; left = h.left; right = h.right; halves = h.halves }

pub Fit-drain_by : {t : Shard} {r : Reshape} (e : Epoch) → is_stamp e ≡ true → Fit t r → Fit t (with_drain_by e r)
unfolding good_option
Fit-drain_by e d h =
    record { target = h.target; admitted = h.admitted; drain_by = d; terminal = h.terminal; quiet = h.quiet; seats = h.seats; left = h.left; right = h.right; halves = h.halves }

pub Fit-terminal : {t : Shard} {r : Reshape} (e : Epoch) {l m : List Id} → is_stamp e ≡ true → Ids most_half l → Ids most_half m
    → (may_have_halves r.kind (some e) or (is_empty l and is_empty m)) ≡ true
    → Fit t r → Fit t (with_terminal e l m r)
unfolding good_option
Fit-terminal e d l m k h =
    record { target = h.target; admitted = h.admitted; drain_by = h.drain_by; terminal = d; quiet = h.quiet; seats = h.seats; left = l; right = m; halves = k }

-- ---- boards

pub record Good (b : Board) : Type 0 where
  pub settings : good_settings b.settings ≡ true
  pub machines : Rows most_machines good_machine b.machines
  pub committees : Rows most_committees good_committee b.committees
  pub bounds : Rows most_bounds good_boundary b.bounds
  pub rotations : Rota b.rotations
  pub reshapes : Rows most_reshapes good_reshape b.reshapes

pub good_of_lem : (b : Board) → well_formed b ≡ true → Good b
unfolding well_formed
good_of_lem b h =
    let p = all_parts _ h in
    record {
      settings = p.0;
      machines = rows_of _ _ _ p.1.0;
      committees = rows_of _ _ _ p.1.1.0;
      bounds = rows_of _ _ _ p.1.1.1.0;
      rotations = rota_of _ p.1.1.1.1.0;
      reshapes = rows_of _ _ _ p.1.1.1.1.1.0;
    }

pub of_good : {b : Board} → Good b → well_formed b ≡ true
unfolding well_formed
of_good h = all_joins _ (h.settings, (of_rows h.machines, (of_rows h.committees, (of_rows h.bounds, (of_rota h.rotations, (of_rows h.reshapes, tt))))))

-- one part changed
module _ {b : Board} (h : Good b) where
  pub on_settings_lem : (f : Settings → Settings) → good_settings (f b.settings) ≡ true → Good (on_settings f b)
  on_settings_lem f s = record { settings = s; machines = h.machines; committees = h.committees; bounds = h.bounds; rotations = h.rotations; reshapes = h.reshapes }

  pub on_machines_lem : (f : Table Place → Table Place) → Rows most_machines good_machine (f b.machines) → Good (on_machines f b)
  on_machines_lem f t = record { settings = h.settings; machines = t; committees = h.committees; bounds = h.bounds; rotations = h.rotations; reshapes = h.reshapes }

  pub on_committees_lem : (f : Table (List Id) → Table (List Id)) → Rows most_committees good_committee (f b.committees) → Good (on_committees f b)
  on_committees_lem f t = record { settings = h.settings; machines = h.machines; committees = t; bounds = h.bounds; rotations = h.rotations; reshapes = h.reshapes }

  pub on_bounds_lem : (f : Table Boundary → Table Boundary) → Rows most_bounds good_boundary (f b.bounds) → Good (on_bounds f b)
  on_bounds_lem f t = record { settings = h.settings; machines = h.machines; committees = h.committees; bounds = t; rotations = h.rotations; reshapes = h.reshapes }

  pub on_rotations_lem : (f : List Rotation → List Rotation) → Rota (f b.rotations) → Good (on_rotations f b)
  on_rotations_lem f l = record { settings = h.settings; machines = h.machines; committees = h.committees; bounds = h.bounds; rotations = l; reshapes = h.reshapes }

  pub on_reshapes_lem : (f : Table Reshape → Table Reshape) → Rows most_reshapes good_reshape (f b.reshapes) → Good (on_reshapes f b)
  on_reshapes_lem f t = record { settings = h.settings; machines = h.machines; committees = h.committees; bounds = h.bounds; rotations = h.rotations; reshapes = t }

  -- a reshape that is looked up
  pub fit_at : (t : Shard) (r : Reshape) → at t b.reshapes ≡ some r → Fit t r
  fit_at t r e = fit_of t r (h.reshapes.each_good t r e)

  -- no reshape is of a shard that is no target
  pub no_target : (t : Shard) → is_target t ≡ false → at t b.reshapes ≡ none
  no_target t n = go (at t b.reshapes) refl
    where
      go : (o : Option Reshape) → at t b.reshapes ≡ o → o ≡ none
      go none e = refl
      go (some r) e = absurd (true≢false (sym (fit_at t r e).target ∙ n))

  -- the epoch, with a number added that a setting limits, is in a stamp's range
  pub stamp : (n : ℕ) → n ≤ 1000000 → is_stamp (b.settings.epoch + n) ≡ true
  stamp n k = of_le (b.settings.epoch + n) last_stamp (omega (arith, (limits _ h.settings).epoch))

  pub stamp_now : is_stamp b.settings.epoch ≡ true
  stamp_now = of_le b.settings.epoch last_stamp (omega (arith, (limits _ h.settings).epoch))
