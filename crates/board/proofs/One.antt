-- The words say the board: `encode` is one to one on boards that fit, and well-formed boards fit.
use Prim.Native.Nat.{ℕ, ◌*◌, ◌≤◌}
use mathlib.Core.Path.{◌≡◌, refl, ap, sym, ◌∙◌}
use mathlib.Core.List.{List, [], ◌∷◌, ◌++◌, append_assoc}
use mathlib.Core.Option.{Option, none, some}
use mathlib.Core.Bool.{Bool, true, false, cond}
use native.Mathlib.Omega.{arith}
use native.Mathlib.Nat.{mul-le-mul_right}
use lib.Dec.{leb}
use lib.ListN.{length, get_or, take, drop}
use lib.Seq.{take_at, drop_at}
use borrow.Author.Tests.{leb-true}
use Rattle.types.specs.Numbers.{Id, Epoch}
use Rattle.types.specs.declared.Place.{Place}
use Rattle.types.specs.declared.Place.TheVariants.{Pooled, Seated, Observing, Short, Other}
use Rattle.rules.specs.Lists.{every, bit_of}
use Rattle.rules.specs.Table.{Entry, entry, Table}
use Rattle.rules.specs.Board.{Settings, Boundary, Rotation, Kind, split, merge, Reshape, Board, most_machines, most_committees, most_members, most_bounds, most_rotations, most_reshapes, most_seats, most_half}
use Rattle.rules.specs.WellFormed.{good_list, good_ids, good_committee, good_reshape, well_formed, is_shard, rising}
use Rattle.rules.specs.Snapshot.{rows_words, flag_of, value_of, settings_words, place_words, machine_words, boundary_words, rotation_words, kind_word, seat_words, reshape_words, id_words, option_of, is_one, place_of}
use Rattle.rules.proofs.Tests.{and_parts, all_parts, all_joins, every_parts, every_join, every_none, every_weaken}
use Rattle.tables.specs.Rows.{pad, table, id_table}
use Rattle.tables.proofs.Tables.{pad_is, rows_length, table_length}
use Rattle.board.specs.Layout.{machine_width, committee_width, boundary_width, rotation_width, seat_width, seats_at, reshape_width, committee_row, seat_table, reshape_head, reshape_row, settings_table, machine_table, committee_table, boundary_table, rotation_table, encode}
use Rattle.board.specs.Held.{roomy_committee, roomy_reshape, Fits, Holds}
use Rattle.board.proofs.Widths.{machine_wide, id_wide, committee_wide, boundary_wide, rotation_wide, seat_wide, head_wide, reshape_wide, settings_wide}

-- two lists joined, where the first of each are as long
module _ (k : ℕ) (P Q R S : List ℕ) (e : P ++ R ≡ Q ++ S) (p : length P ≡ k) (q : length Q ≡ k) where
  front_same : P ≡ Q
  front_same = sym (take_at P R k p) ∙ ap (take k) e ∙ take_at Q S k q

  back_same : R ≡ S
  back_same = sym (drop_at P R k p) ∙ ap (drop k) e ∙ drop_at Q S k q

-- values that pass a test are told apart by their words
abbrev One : {A : Type 0} → (A → Bool) → (A → List ℕ) → Type 0
One {A} ok f = (x y : A) → ok x ≡ true → ok y ≡ true → f x ≡ f y → x ≡ y

-- what reads the words back tells them apart
by_reading : {A : Type 0} {f : A → List ℕ} (back : List ℕ → A) → ((x : A) → back (f x) ≡ x) → One (λ x. true) f
by_reading back h x y p q e = sym (h x) ∙ ap back e ∙ h y

module _ {A : Type 0} {ok : A → Bool} {f : A → List ℕ} (w : ℕ) (fw : (x : A) → length (f x) ≡ w) (one : One ok f) where
  rows_one : (xs ys : List A) (R S : List ℕ) → length xs ≡ length ys → every ok xs ≡ true → every ok ys ≡ true → rows_words f xs ++ R ≡ rows_words f ys ++ S → xs ≡ ys
  unfolding rows_words
  rows_one [] [] R S n p q e = refl
  rows_one [] (y ∷ ys) R S n p q e = absurd (omega arith)
  rows_one (x ∷ xs) [] R S n p q e = absurd (omega arith)
  rows_one (x ∷ xs) (y ∷ ys) R S n p q e =
      let u = every_parts ok x xs p in
      let v = every_parts ok y ys q in
      let g : f x ++ (rows_words f xs ++ R) ≡ f y ++ (rows_words f ys ++ S) = sym (append_assoc (f x) (rows_words f xs) R) ∙ e ∙ append_assoc (f y) (rows_words f ys) S in
      let h : x ≡ y = one x y u.0 v.0 (front_same w (f x) (f y) _ _ g (fw x) (fw y)) in
      let t : xs ≡ ys = rows_one xs ys R S (omega arith) u.1 v.1 (back_same w (f x) (f y) _ _ g (fw x) (fw y)) in
      cc

  table_one : (cap : ℕ) (xs ys : List A) → length xs ≤ cap → length ys ≤ cap → every ok xs ≡ true → every ok ys ≡ true → table f w cap xs ≡ table f w cap ys → xs ≡ ys
  table_one cap xs ys l m p q e =
      let n : length xs ≡ length ys = ap (λ (t : List ℕ). get_or t 0 0) e in
      rows_one xs ys _ _ n p q
      (sym (pad_is (cap * w) (rows_words f xs) (omega (arith, rows_length f w fw xs, mul-le-mul_right w l)))
      ∙ ap (drop 1) e
      ∙ pad_is (cap * w) (rows_words f ys) (omega (arith, rows_length f w fw ys, mul-le-mul_right w m)))

pub every_yes : {A : Type 0} (xs : List A) → every (λ x. true) xs ≡ true
every_yes [] = every_none _
every_yes (x ∷ xs) = every_join _ _ _ refl (every_yes xs)

-- ---- rows

pub bit_back : (c : Bool) → is_one (bit_of c) ≡ c
bit_back true = refl
bit_back false = refl

pub option_back : (o : Option Epoch) → option_of (flag_of o) (value_of o) ≡ o
unfolding option_of flag_of value_of
option_back none = refl
option_back (some e) = refl

kind_back : (k : Kind) → cond (is_one (kind_word k)) merge split ≡ k
unfolding kind_word
kind_back split = refl
kind_back merge = refl

abbrev place_in : List ℕ → Place
place_in t = place_of (get_or t 0 0) (get_or t 1 0) (get_or t 2 0) (get_or t 3 0)

pub place_back : (p : Place) → place_in (place_words p) ≡ p
unfolding place_of place_words
place_back Pooled = refl
place_back (Seated s true e) = refl
place_back (Seated s false e) = refl
place_back (Observing s e) = refl
place_back Short = refl
place_back (Other m) = refl

machine_one : One (λ x. true) machine_words
unfolding machine_words
machine_one = by_reading (λ t. entry (get_or t 0 0) (place_in (drop 1 t))) (λ e. rw (place_back e.val))

boundary_one : One (λ x. true) boundary_words
unfolding boundary_words
boundary_one =
    by_reading
    (λ t. entry (get_or t 0 0) (record { height = get_or t 1 0; formed = get_or t 2 0; last_live = get_or t 3 0; terminal = option_of (get_or t 4 0) (get_or t 5 0); admitted = option_of (get_or t 6 0) (get_or t 7 0) }))
    (λ e. rw (option_back e.val.terminal, option_back e.val.admitted))

rotation_one : One (λ x. true) rotation_words
unfolding rotation_words
rotation_one = by_reading (λ t. record { shard = get_or t 0 0; victim = get_or t 1 0; entrant = get_or t 2 0; opened = get_or t 3 0 }) (λ r. refl)

seat_one : One (λ x. true) seat_words
unfolding seat_words
seat_one = by_reading (λ t. entry (get_or t 0 0) (record { child = get_or t 1 0; ready = is_one (get_or t 2 0) })) (λ e. rw (bit_back e.val.ready))

id_one : One (λ x. true) id_words
unfolding id_words
id_one = by_reading (λ t. get_or t 0 0) (λ x. refl)

settings_one : One (λ x. true) settings_table
unfolding settings_table settings_words pad
settings_one =
    by_reading (λ t. record { epoch = get_or t 1 0; size = get_or t 2 0; drain = get_or t 3 0; wait = get_or t 4 0; interval = get_or t 5 0; most = get_or t 6 0 }) (λ s. refl)

ids_one : (cap : ℕ) (l m : List Id) → length l ≤ cap → length m ≤ cap → id_table cap l ≡ id_table cap m → l ≡ m
ids_one cap l m p q e = table_one 1 id_wide id_one cap l m p q (every_yes l) (every_yes m) e

committee_one : One roomy_committee committee_row
unfolding roomy_committee committee_row
committee_one x y p q e =
    let k : x.key ≡ y.key = ap (λ (t : List ℕ). get_or t 0 0) e in
    let l : x.val ≡ y.val = ids_one most_members x.val y.val (leb-true _ _ p) (leb-true _ _ q) (ap (drop 1) e) in
    joined x y k l
  where
    joined : (x y : Entry (List Id)) → x.key ≡ y.key → x.val ≡ y.val → x ≡ y
    joined x y k l = ap (λ (n : ℕ). entry n x.val) k ∙ ap (λ (m : List Id). entry y.key m) l

-- a reshape's first words, read back into one whose lists are given
abbrev reshape_in : List ℕ → Entry Reshape → Entry Reshape
reshape_in t e =
    entry (get_or t 0 0) (record {
      kind = cond (is_one (get_or t 1 0)) merge split;
      admitted = get_or t 2 0;
      drain_by = option_of (get_or t 3 0) (get_or t 4 0);
      terminal = option_of (get_or t 5 0) (get_or t 6 0);
      quiet_left = is_one (get_or t 7 0);
      quiet_right = is_one (get_or t 8 0);
      seats = e.val.seats;
      left = e.val.left;
      right = e.val.right;
    })

head_back : (e : Entry Reshape) → reshape_in (reshape_head e) e ≡ e
unfolding reshape_head reshape_words
head_back e =
    rw (kind_back e.val.kind, option_back e.val.drain_by, option_back e.val.terminal, bit_back e.val.quiet_left, bit_back e.val.quiet_right)

reshape_one : One roomy_reshape reshape_row
unfolding roomy_reshape reshape_row
reshape_one x y p q e =
    let u = all_parts _ p in
    let v = all_parts _ q in
    let hs = front_same seats_at (reshape_head x) (reshape_head y) _ _ e (head_wide x) (head_wide y) in
    let r1 = back_same seats_at (reshape_head x) (reshape_head y) _ _ e (head_wide x) (head_wide y) in
    let ws = table_length seat_words seat_width most_seats in
    let ss = front_same _ (seat_table x.val.seats) (seat_table y.val.seats) _ _ r1 (ws x.val.seats) (ws y.val.seats) in
    let r2 = back_same _ (seat_table x.val.seats) (seat_table y.val.seats) _ _ r1 (ws x.val.seats) (ws y.val.seats) in
    let wi = table_length id_words 1 most_half in
    let ls = front_same _ (id_table most_half x.val.left) (id_table most_half y.val.left) _ _ r2 (wi x.val.left) (wi y.val.left) in
    let rs = back_same _ (id_table most_half x.val.left) (id_table most_half y.val.left) _ _ r2 (wi x.val.left) (wi y.val.left) in
    let se : x.val.seats ≡ y.val.seats =
    table_one seat_width seat_wide seat_one most_seats x.val.seats y.val.seats (leb-true _ _ u.0) (leb-true _ _ v.0) (every_yes _) (every_yes _) ss in
    let le : x.val.left ≡ y.val.left = ids_one most_half x.val.left y.val.left (leb-true _ _ u.1.0) (leb-true _ _ v.1.0) ls in
    let re : x.val.right ≡ y.val.right = ids_one most_half x.val.right y.val.right (leb-true _ _ u.1.1.0) (leb-true _ _ v.1.1.0) rs in
    sym (head_back x) ∙ rw (hs, se, le, re) (head_back y)

-- ---- the board

six : (a b : Board) → a.settings ≡ b.settings → a.machines ≡ b.machines → a.committees ≡ b.committees → a.bounds ≡ b.bounds → a.rotations ≡ b.rotations
    → a.reshapes ≡ b.reshapes → a ≡ b
six a b s m c d o r = go s m c d o r
  where
    go : {s : Settings} {m : Table Place} {c : Table (List Id)} {d : Table Boundary} {o : List Rotation} {r : Table Reshape} → s ≡ b.settings → m ≡ b.machines → c ≡ b.committees
        → d ≡ b.bounds → o ≡ b.rotations → r ≡ b.reshapes
        → ◌≡◌ {A = Board} (record { settings = s; machines = m; committees = c; bounds = d; rotations = o; reshapes = r }) b
    go s m c d o r = rw (s, m, c, d, o, r)

module _ (a b : Board) (p : Fits a) (q : Fits b) (e : encode a ≡ encode b) where
  pub encode_one : a ≡ b
  unfolding encode
  encode_one =
      let sl = settings_wide in
      let ml = table_length machine_words machine_width most_machines in
      let cl = table_length committee_row committee_width most_committees in
      let bl = table_length boundary_words boundary_width most_bounds in
      let rl = table_length rotation_words rotation_width most_rotations in
      let s = front_same _ (settings_table a.settings) (settings_table b.settings) _ _ e (sl _) (sl _) in
      let e1 = back_same _ (settings_table a.settings) (settings_table b.settings) _ _ e (sl _) (sl _) in
      let m = front_same _ (machine_table a.machines) (machine_table b.machines) _ _ e1 (ml _) (ml _) in
      let e2 = back_same _ (machine_table a.machines) (machine_table b.machines) _ _ e1 (ml _) (ml _) in
      let c = front_same _ (committee_table a.committees) (committee_table b.committees) _ _ e2 (cl _) (cl _) in
      let e3 = back_same _ (committee_table a.committees) (committee_table b.committees) _ _ e2 (cl _) (cl _) in
      let d = front_same _ (boundary_table a.bounds) (boundary_table b.bounds) _ _ e3 (bl _) (bl _) in
      let e4 = back_same _ (boundary_table a.bounds) (boundary_table b.bounds) _ _ e3 (bl _) (bl _) in
      let o = front_same _ (rotation_table a.rotations) (rotation_table b.rotations) _ _ e4 (rl _) (rl _) in
      let r = back_same _ (rotation_table a.rotations) (rotation_table b.rotations) _ _ e4 (rl _) (rl _) in
      let hs : a.settings ≡ b.settings = settings_one _ _ refl refl s in
      let hm : a.machines ≡ b.machines = table_one machine_width machine_wide machine_one most_machines _ _ p.machines q.machines (every_yes _) (every_yes _) m in
      let hc : a.committees ≡ b.committees = table_one committee_width committee_wide committee_one most_committees _ _ p.committees q.committees p.members q.members c in
      let hd : a.bounds ≡ b.bounds = table_one boundary_width boundary_wide boundary_one most_bounds _ _ p.bounds q.bounds (every_yes _) (every_yes _) d in
      let ho : a.rotations ≡ b.rotations = table_one rotation_width rotation_wide rotation_one most_rotations _ _ p.rotations q.rotations (every_yes _) (every_yes _) o in
      let hr : a.reshapes ≡ b.reshapes = table_one reshape_width reshape_wide reshape_one most_reshapes _ _ p.reshapes q.reshapes p.lists q.lists r in
      six a b hs hm hc hd ho hr

-- ---- well-formed boards fit

list_room : {A : Type 0} (most : ℕ) (good : A → Bool) (before : A → A → Bool) (l : List A) → good_list most good before l ≡ true → length l ≤ most
unfolding good_list
list_room most good before l h = leb-true _ _ (all_parts _ h).0

pub list_good : {A : Type 0} (most : ℕ) (good : A → Bool) (before : A → A → Bool) (l : List A) → good_list most good before l ≡ true → every good l ≡ true
unfolding good_list
list_good most good before l h = (all_parts _ h).1.0

pub list_rising : {A : Type 0} (most : ℕ) (good : A → Bool) (before : A → A → Bool) (l : List A) → good_list most good before l ≡ true → rising before l ≡ true
unfolding good_list
list_rising most good before l h = (all_parts _ h).1.1.0

ids_room : (most : ℕ) (l : List Id) → good_ids most l ≡ true → leb (length l) most ≡ true
unfolding good_ids
ids_room most l h = (all_parts _ h).0

pub committee_room : (e : Entry (List Id)) → good_committee e ≡ true → roomy_committee e ≡ true
unfolding good_committee roomy_committee
committee_room e h = ids_room most_members e.val (and_parts (is_shard e.key) _ h).1

pub reshape_room : (e : Entry Reshape) → good_reshape e ≡ true → roomy_reshape e ≡ true
unfolding good_reshape roomy_reshape good_list
reshape_room e h =
    let p = all_parts _ h in
    all_joins _ ((all_parts _ p.1.1.1.1.1.0).0, (ids_room most_half e.val.left p.1.1.1.1.1.1.0, (ids_room most_half e.val.right p.1.1.1.1.1.1.1.0, tt)))

pub well_formed_fits : (b : Board) → well_formed b ≡ true → Fits b
unfolding well_formed
well_formed_fits b h =
    let p = all_parts _ h in
    record {
      machines = list_room _ _ _ _ p.1.0;
      committees = list_room _ _ _ _ p.1.1.0;
      members = every_weaken _ _ committee_room _ (list_good _ _ _ _ p.1.1.0);
      bounds = list_room _ _ _ _ p.1.1.1.0;
      rotations = list_room _ _ _ _ p.1.1.1.1.0;
      reshapes = list_room _ _ _ _ p.1.1.1.1.1.0;
      lists = every_weaken _ _ reshape_room _ (list_good _ _ _ _ p.1.1.1.1.1.0);
    }

-- ENCODE IS ONE TO ONE on well-formed boards
pub same_words_same_board : (a b : Board) → well_formed a ≡ true → well_formed b ≡ true → encode a ≡ encode b → a ≡ b
same_words_same_board a b p q e = encode_one a b (well_formed_fits a p) (well_formed_fits b q) e

-- words hold at most one board
pub one_board : (ws : List ℕ) (a b : Board) → Holds ws a → Holds ws b → a ≡ b
one_board ws a b p q = encode_one a b p.fits q.fits (sym p.words ∙ q.words)
