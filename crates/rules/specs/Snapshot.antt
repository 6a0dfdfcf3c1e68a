-- The snapshot: the words of a board, the board of words, and words as bytes.
use Rattle.std.specs.Prelude.{ℕ, zero, suc, ◌+◌, ◌*◌, ◌/◌, ◌%◌, min, List, [], ◌∷◌, ◌++◌, Bool, cond, eqb, length, take, drop}
use Rattle.std.proofs.Math.Option.{Option, none, some}
use Rattle.types.specs.Numbers.{Id, Epoch}
use Rattle.types.specs.Places.{shard_id, epoch_at}
use Rattle.types.specs.declared.Place.{Place}
use Rattle.types.specs.declared.Place.TheVariants.{Pooled, Seated, Observing, Short, Other}
use Rattle.types.specs.declared.Answer.{Answer}
use Rattle.types.specs.declared.Answer.TheVariants.{Done, NotASnapshot}
use Rattle.rules.specs.Lists.{◌and◌, bit_of, equal}
use Rattle.rules.specs.Table.{Entry, entry}
use Rattle.rules.specs.Board.{Settings, Boundary, Rotation, Kind, split, merge, Seat, Reshape, Board, most_machines, most_committees, most_members, most_bounds, most_rotations, most_reshapes, most_seats, most_half}
use Rattle.rules.specs.WellFormed.{well_formed}

-- ---- the words of a board

unfoldable pub rows_words : {A : Type 0} → (A → List ℕ) → List A → List ℕ
rows_words row [] = []
rows_words row (x ∷ l) = row x ++ rows_words row l

-- 'these sections, each after its count'
unfoldable pub section : {A : Type 0} → (A → List ℕ) → List A → List ℕ
section row l = length l ∷ rows_words row l

unfoldable pub id_words : Id → List ℕ
id_words x = x ∷ []

-- 'each a flag and a value'
unfoldable pub flag_of : Option Epoch → ℕ
flag_of none = 0
flag_of (some e) = 1

unfoldable pub value_of : Option Epoch → ℕ
value_of none = 0
value_of (some e) = e

-- 'epoch, S, D, W, interval, most in flight'
unfoldable pub settings_words : Settings → List ℕ
settings_words s = 6 ∷ s.epoch ∷ s.size ∷ s.drain ∷ s.wait ∷ s.interval ∷ s.most ∷ []

-- 'place (0 pooled, 1 seated, 2 observing, 3 short, 4 other), shard or mark, ready, stamp; unused words 0'
unfoldable pub place_words : Place → List ℕ
place_words Pooled = 0 ∷ 0 ∷ 0 ∷ 0 ∷ []
place_words (Seated s r w) = 1 ∷ s.0 ∷ bit_of r ∷ w.0 ∷ []
place_words (Observing s w) = 2 ∷ s.0 ∷ 0 ∷ w.0 ∷ []
place_words Short = 3 ∷ 0 ∷ 0 ∷ 0 ∷ []
place_words (Other m) = 4 ∷ m ∷ 0 ∷ 0 ∷ []

unfoldable pub machine_words : Entry Place → List ℕ
machine_words e = e.key ∷ place_words e.val

-- 'shard, member count, members in seat order'
unfoldable pub committee_words : Entry (List Id) → List ℕ
committee_words e = e.key ∷ section id_words e.val

-- 'shard, height, formed, last live, then terminal and admitted epoch'
unfoldable pub boundary_words : Entry Boundary → List ℕ
boundary_words e =
    e.key
    ∷ e.val.height
    ∷ e.val.formed
    ∷ e.val.last_live
    ∷ flag_of e.val.terminal
    ∷ value_of e.val.terminal
    ∷ flag_of e.val.admitted
    ∷ value_of e.val.admitted
    ∷ []

-- 'shard, victim, entrant, opened'
unfoldable pub rotation_words : Rotation → List ℕ
rotation_words r = r.shard ∷ r.victim ∷ r.entrant ∷ r.opened ∷ []

-- 'kind (0 split, 1 merge)'
unfoldable pub kind_word : Kind → ℕ
kind_word split = 0
kind_word merge = 1

-- 'id, child, ready'
unfoldable pub seat_words : Entry Seat → List ℕ
seat_words e = e.key ∷ e.val.child ∷ bit_of e.val.ready ∷ []

-- 'target, kind, admitted, drain flag and epoch, scheduled flag and terminal, quiet left, quiet right, seat count with id, child, ready; left half count and ids; right half count and ids'
unfoldable pub reshape_words : Entry Reshape → List ℕ
reshape_words e =
    e.key
    ∷ kind_word e.val.kind
    ∷ e.val.admitted
    ∷ flag_of e.val.drain_by
    ∷ value_of e.val.drain_by
    ∷ flag_of e.val.terminal
    ∷ value_of e.val.terminal
    ∷ bit_of e.val.quiet_left
    ∷ bit_of e.val.quiet_right
    ∷ (section seat_words e.val.seats ++ (section id_words e.val.left ++ section id_words e.val.right))

unfoldable pub words_of : Board → List ℕ
words_of b =
    settings_words b.settings
    ++ (section machine_words b.machines
    ++ (section committee_words b.committees
    ++ (section boundary_words b.bounds ++ (section rotation_words b.rotations ++ section reshape_words b.reshapes))))

-- ---- the board of words: read word by word, and held to the words that it has

-- a value, and the words that are left
abbrev pub Reader : Type 0 → Type 0
Reader A = List ℕ → A × List ℕ

abbrev pub ◌>>=◌ : {A B : Type 0} → Reader A → (A → Reader B) → Reader B
◌>>=◌ m f = λ ws. let (a, rest) = m ws in f a rest

abbrev pub give : {A : Type 0} → A → Reader A
give a = λ ws. (a, ws)

-- the next word; 0 where none is left
unfoldable pub word : Reader ℕ
word [] = (0, [])
word (n ∷ ws) = (n, ws)

unfoldable pub read_rows : {A : Type 0} → Reader A → ℕ → Reader (List A)
read_rows row zero = give []
read_rows row (suc n) = do
  x ← row
  l ← read_rows row n
  give (x ∷ l)

-- a count and as many rows, no more than the limit
unfoldable pub read_section : {A : Type 0} → ℕ → Reader A → Reader (List A)
read_section most row = do
  n ← word
  read_rows row (min n most)

unfoldable pub option_of : ℕ → ℕ → Option Epoch
option_of flag value = cond (eqb flag 1) (some value) none

abbrev pub is_one : ℕ → Bool
is_one n = eqb n 1

unfoldable pub read_settings : Reader Settings
read_settings = do
  n ← word
  epoch ← word
  size ← word
  drain ← word
  wait ← word
  interval ← word
  most ← word
  give (record { epoch = epoch; size = size; drain = drain; wait = wait; interval = interval; most = most })

unfoldable pub place_of : ℕ → ℕ → ℕ → ℕ → Place
place_of code mark ready stamp =
    cond (eqb code 0) Pooled
    (cond (eqb code 1) (Seated (shard_id mark) (is_one ready) (epoch_at stamp))
    (cond (eqb code 2) (Observing (shard_id mark) (epoch_at stamp))
    (cond (eqb code 3) Short (Other mark))))

unfoldable pub read_machine : Reader (Entry Place)
read_machine = do
  id ← word
  code ← word
  mark ← word
  ready ← word
  stamp ← word
  give (entry id (place_of code mark ready stamp))

unfoldable pub read_committee : Reader (Entry (List Id))
read_committee = do
  shard ← word
  members ← read_section most_members word
  give (entry shard members)

unfoldable pub read_boundary : Reader (Entry Boundary)
read_boundary = do
  shard ← word
  height ← word
  formed ← word
  last_live ← word
  terminalFlag ← word
  terminal ← word
  admittedFlag ← word
  admitted ← word
  give (entry shard (record { height = height; formed = formed; last_live = last_live; terminal = option_of terminalFlag terminal; admitted = option_of admittedFlag admitted }))

unfoldable pub read_rotation : Reader Rotation
read_rotation = do
  shard ← word
  victim ← word
  entrant ← word
  opened ← word
  give (record { shard = shard; victim = victim; entrant = entrant; opened = opened })

unfoldable pub read_seat : Reader (Entry Seat)
read_seat = do
  id ← word
  child ← word
  ready ← word
  give (entry id (record { child = child; ready = is_one ready }))

unfoldable pub read_reshape : Reader (Entry Reshape)
read_reshape = do
  target ← word
  kind ← word
  admitted ← word
  drainFlag ← word
  drain_by ← word
  terminalFlag ← word
  terminal ← word
  quiet_left ← word
  quiet_right ← word
  seats ← read_section most_seats read_seat
  left ← read_section most_half word
  right ← read_section most_half word
  give (entry target (record {
    kind = cond (is_one kind) merge split;
    admitted = admitted;
    drain_by = option_of drainFlag drain_by;
    terminal = option_of terminalFlag terminal;
    quiet_left = is_one quiet_left;
    quiet_right = is_one quiet_right;
    seats = seats;
    left = left;
    right = right;
  }))

unfoldable pub read_board : Reader Board
read_board = do
  settings ← read_settings
  machines ← read_section most_machines read_machine
  committees ← read_section most_committees read_committee
  bounds ← read_section most_bounds read_boundary
  rotations ← read_section most_rotations read_rotation
  reshapes ← read_section most_reshapes read_reshape
  give (record { settings = settings; machines = machines; committees = committees; bounds = bounds; rotations = rotations; reshapes = reshapes })

-- the well-formed board that has these words, 'and no more'; none: 13
unfoldable pub board_of : List ℕ → Option Board
board_of ws = let b = (read_board ws).0 in cond (well_formed b and equal (words_of b) ws) (some b) none

-- ---- '8-byte little-endian words'

unfoldable pub digits : ℕ → ℕ → List ℕ
digits zero n = []
digits (suc k) n = n % 256 ∷ digits k (n / 256)

unfoldable pub bytes_of : List ℕ → List ℕ
bytes_of = rows_words (digits 8)

unfoldable pub value_of_bytes : List ℕ → ℕ
value_of_bytes [] = 0
value_of_bytes (x ∷ l) = x + 256 * value_of_bytes l

unfoldable pub read_words : ℕ → List ℕ → List ℕ
read_words zero bytes = []
read_words (suc n) bytes = value_of_bytes (take 8 bytes) ∷ read_words n (drop 8 bytes)

-- the words that have these bytes
unfoldable pub words_of_bytes : List ℕ → Option (List ℕ)
words_of_bytes bytes = let ws = read_words (length bytes / 8) bytes in cond (equal (bytes_of ws) bytes) (some ws) none

unfoldable pub snapshot_of : Board → List ℕ
snapshot_of b = bytes_of (words_of b)

unfoldable pub read_snapshot : List ℕ → Option Board
read_snapshot bytes = elim (words_of_bytes bytes) [ none ↦ none | some ws ↦ board_of ws ]

-- 13: 'a snapshot isn't a well-formed board's'
unfoldable pub snapshot_answer : Option Board → Answer
snapshot_answer none = NotASnapshot
snapshot_answer (some b) = Done
