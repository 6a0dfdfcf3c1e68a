-- The sections of the words: what is lent of each, and what comes back. After this no proof speaks of single words.
use Prim.Native.Nat.{ℕ, ◌+◌, ◌-◌, ◌*◌, ◌≤◌, ◌<◌}
use mathlib.Core.Path.{◌≡◌, refl, ap, sym, ◌∙◌}
use mathlib.Core.List.{List, [], ◌∷◌, ◌++◌, append_assoc, append-nil}
use native.Mathlib.Omega.{arith}
use lib.ListN.{length, get_or, set, take, drop, replicate, length-append}
use lib.Seq.{set-get_or}
use borrow.Rule.Slice.PartMut.{put_mid}
use Rattle.rules.specs.Table.{entry}
use Rattle.rules.specs.Board.{Board, most_machines, most_committees, most_members, most_bounds, most_rotations, most_reshapes, on_settings, on_machines, on_committees, on_bounds, on_rotations, on_reshapes}
use Rattle.rules.specs.Snapshot.{machine_words, boundary_words, rotation_words}
use Rattle.tables.specs.Rows.{table, id_table, insert_at, remove_at, Rising, place_of, without, Row, words_in, key_in}
use Rattle.shifts.proofs.Parts.{Spot, spot_read, spot_put, spot_word, spot_store, within}
use Rattle.tables.proofs.Tables.{table_length, row_spot}
use Rattle.tables.proofs.Typed.{opened_as, removed_as, dropped_as, placed_as}
use Rattle.board.specs.Layout.{machine_width, committee_width, boundary_width, rotation_width, members_at, reshape_width, machines_at, committees_at, bounds_at, rotations_at, reshapes_at, board_size, committee_row, reshape_row, settings_table, machine_table, committee_table, boundary_table, rotation_table, reshape_table, encode}
use Rattle.board.specs.Held.{Fits, Holds}
use Rattle.board.proofs.Widths.{machine_wide, committee_wide, boundary_wide, rotation_wide, reshape_wide, settings_wide, board_wide}

pub held_wide : (ws : List ℕ) (b : Board) → Holds ws b → length ws ≡ board_size
held_wide ws b h = ap length h.words ∙ board_wide b

-- a section: a table of the board, in words from o on
pub record Section {A : Type 0} (f : A → List ℕ) (w cap o : ℕ) (get : Board → List A) (put : List A → Board → Board) : Type 0 where
  pub wide : (x : A) → length (f x) ≡ w
  pub spot : (b : Board) → Spot (table f w cap) (λ t. encode (put t b)) o
  pub same : (b : Board) → put (get b) b ≡ b
  pub room : (b : Board) → Fits b → length (get b) ≤ cap

module _ {A : Type 0} {f : A → List ℕ} {w cap o : ℕ} {get : Board → List A} {put : List A → Board → Board} (s : Section f w cap o get put) (ws : List ℕ) (b : Board) (h : Holds ws b) where
  whole : ws ≡ encode (put (get b) b)
  whole = h.words ∙ ap encode (sym (s.same b))

  pub count_is : get_or ws o 0 ≡ length (get b)
  count_is = spot_word (s.spot b) (get b) ws o 0 whole (omega arith) (omega (arith, table_length f w cap (get b)))

  -- the section lent
  pub section_lent : take (1 + cap * w) (drop o ws) ≡ table f w cap (get b)
  section_lent = spot_read (s.spot b) (get b) ws o (1 + cap * w) whole refl (table_length f w cap (get b))

  pub section_back : (xs : List A) (p : List ℕ) → p ≡ table f w cap xs → put_mid o (1 + cap * w) ws p ≡ encode (put xs b)
  section_back xs p g = spot_put (s.spot b) (get b) xs ws p o (1 + cap * w) whole refl (table_length f w cap (get b)) g

  -- what `place_of`, `open_row`, `remove_row` and `drop_rows` make of the section
  module _ (key : A → ℕ) (first : (x : A) → get_or (f x) 0 0 ≡ key x) where
    pub section_place : (k r : ℕ) → Rising key (get b)
        → ((rs : List (Row w)) → take (1 + cap * w) (drop o ws) ≡ table words_in w cap rs → length rs ≤ cap → Rising key_in rs → r ≡ place_of key_in k rs)
        → r ≡ place_of key k (get b)
    section_place k r q g = placed_as f w s.wide cap (get b) _ [] section_lent key first k r (s.room b h.fits) q g

    pub section_dropped : (k : ℕ) (u : List ℕ)
        → ((rs : List (Row w)) → take (1 + cap * w) (drop o ws) ≡ table words_in w cap rs → length rs ≤ cap → u ≡ table words_in w cap (without key_in k rs))
        → put_mid o (1 + cap * w) ws u ≡ encode (put (without key k (get b)) b)
    section_dropped k u g = section_back (without key k (get b)) u (dropped_as f w s.wide cap (get b) _ u section_lent key first k (s.room b h.fits) g)

  pub section_opened : (j : ℕ) (z : A) (u : List ℕ) → f z ≡ replicate w 0 → length (get b) < cap → j ≤ length (get b)
      → ((rs : List (Row w)) (r : Row w) → take (1 + cap * w) (drop o ws) ≡ table words_in w cap rs → length rs < cap → j ≤ length rs → r.words ≡ replicate w 0
      → u ≡ table words_in w cap (insert_at rs j r))
      → put_mid o (1 + cap * w) ws u ≡ encode (put (insert_at (get b) j z) b)
  section_opened j z u q l m g = section_back (insert_at (get b) j z) u (opened_as f w s.wide cap (get b) _ u section_lent j z q l m g)

  pub section_removed : (j : ℕ) (u : List ℕ) → j < length (get b)
      → ((rs : List (Row w)) → take (1 + cap * w) (drop o ws) ≡ table words_in w cap rs → length rs ≤ cap → j < length rs → u ≡ table words_in w cap (remove_at rs j))
      → put_mid o (1 + cap * w) ws u ≡ encode (put (remove_at (get b) j) b)
  section_removed j u l g = section_back (remove_at (get b) j) u (removed_as f w s.wide cap (get b) _ u section_lent j (s.room b h.fits) l g)

  -- row i, where there is one: addresses as the code writes them, the end as the start and the width
  module _ (i : ℕ) (d : A) (l : i < length (get b)) where
    row_at : Spot f (λ y. encode (put (set (get b) i y) b)) (o + (1 + i * w))
    row_at = within (s.spot b) (λ y. set (get b) i y) (row_spot f w s.wide cap (get b) i l (s.room b h.fits))

    row_whole : ws ≡ encode (put (set (get b) i (get_or (get b) i d)) b)
    row_whole = whole ∙ ap (λ (t : List A). encode (put t b)) (sym (set-get_or (get b) i d))

    pub row_lent : take (o + 1 + i * w + w - (o + 1 + i * w)) (drop (o + 1 + i * w) ws) ≡ f (get_or (get b) i d)
    row_lent = spot_read row_at (get_or (get b) i d) ws (o + 1 + i * w) (o + 1 + i * w + w - (o + 1 + i * w)) row_whole (omega arith) (omega (arith, s.wide (get_or (get b) i d)))

    pub row_back : (y : A) (p : List ℕ) → p ≡ f y → put_mid (o + 1 + i * w) (o + 1 + i * w + w - (o + 1 + i * w)) ws p ≡ encode (put (set (get b) i y) b)
    row_back y p g = spot_put row_at (get_or (get b) i d) y ws p (o + 1 + i * w) (o + 1 + i * w + w - (o + 1 + i * w)) row_whole (omega arith) (omega (arith, s.wide (get_or (get b) i d))) g

    -- the first word of the row, and any
    pub key_read : 0 < w → get_or ws (o + 1 + i * w) 0 ≡ get_or (f (get_or (get b) i d)) 0 0
    key_read m = spot_word row_at (get_or (get b) i d) ws (o + 1 + i * w) 0 row_whole (omega arith) (omega (arith, s.wide (get_or (get b) i d)))

    pub key_stored : (y : A) (v : ℕ) → 0 < w → set (f (get_or (get b) i d)) 0 v ≡ f y → set ws (o + 1 + i * w) v ≡ encode (put (set (get b) i y) b)
    key_stored y v m g = spot_store row_at (get_or (get b) i d) y ws (o + 1 + i * w) 0 v row_whole (omega arith) (omega (arith, s.wide (get_or (get b) i d))) g

    pub word_read : (c : ℕ) → c < w → get_or ws (o + 1 + i * w + c) 0 ≡ get_or (f (get_or (get b) i d)) c 0
    word_read c m = spot_word row_at (get_or (get b) i d) ws (o + 1 + i * w + c) c row_whole (omega arith) (omega (arith, s.wide (get_or (get b) i d)))

    pub word_stored : (y : A) (c v : ℕ) → c < w → set (f (get_or (get b) i d)) c v ≡ f y → set ws (o + 1 + i * w + c) v ≡ encode (put (set (get b) i y) b)
    word_stored y c v m g = spot_store row_at (get_or (get b) i d) y ws (o + 1 + i * w + c) c v row_whole (omega arith) (omega (arith, s.wide (get_or (get b) i d))) g

    -- a part of the row, n words from c on: the words of x
    module _ {B : Type 0} {inner : B → List ℕ} {c : ℕ} (g : B → A) (t : Spot inner (λ y. f (g y)) c) (x : B) (same : g x ≡ get_or (get b) i d) (n : ℕ) (wide : length (inner x) ≡ n) where
      part_at : Spot inner (λ y. encode (put (set (get b) i (g y)) b)) (o + (1 + i * w) + c)
      part_at = within row_at g t

      part_whole : ws ≡ encode (put (set (get b) i (g x)) b)
      part_whole = row_whole ∙ ap (λ (y : A). encode (put (set (get b) i y) b)) (sym same)

      pub part_lent : take (o + 1 + i * w + c + n - (o + 1 + i * w + c)) (drop (o + 1 + i * w + c) ws) ≡ inner x
      part_lent = spot_read part_at x ws (o + 1 + i * w + c) (o + 1 + i * w + c + n - (o + 1 + i * w + c)) part_whole (omega arith) (omega arith)

      pub part_back : (y : B) (p : List ℕ) → p ≡ inner y → put_mid (o + 1 + i * w + c) (o + 1 + i * w + c + n - (o + 1 + i * w + c)) ws p ≡ encode (put (set (get b) i (g y)) b)
      part_back y p r = spot_put part_at x y ws p (o + 1 + i * w + c) (o + 1 + i * w + c + n - (o + 1 + i * w + c)) part_whole (omega arith) (omega arith) r

      -- the first word of a part that has one
      pub part_first : 0 < n → get_or ws (o + 1 + i * w + c) 0 ≡ get_or (inner x) 0 0
      part_first m = spot_word part_at x ws (o + 1 + i * w + c) 0 part_whole (omega arith) (omega arith)

-- ---- the sections of the layout

module _ (b : Board) where
  abbrev S : List ℕ
  S = settings_table b.settings

  abbrev M : List ℕ
  M = machine_table b.machines

  abbrev C : List ℕ
  C = committee_table b.committees

  abbrev D : List ℕ
  D = boundary_table b.bounds

  abbrev O : List ℕ
  O = rotation_table b.rotations

  abbrev R : List ℕ
  R = reshape_table b.reshapes

  m_wide : length M ≡ 1 + most_machines * machine_width
  m_wide = table_length machine_words machine_width most_machines b.machines

  c_wide : length C ≡ 1 + most_committees * committee_width
  c_wide = table_length committee_row committee_width most_committees b.committees

  d_wide : length D ≡ 1 + most_bounds * boundary_width
  d_wide = table_length boundary_words boundary_width most_bounds b.bounds

  o_wide : length O ≡ 1 + most_rotations * rotation_width
  o_wide = table_length rotation_words rotation_width most_rotations b.rotations

  pub settings_spot : Spot settings_table (λ s. encode (on_settings (λ _. s) b)) 0
  unfolding encode
  settings_spot = record { front = []; back = M ++ (C ++ (D ++ (O ++ R))); is = λ s. refl; size = refl }

  machines_spot : Spot machine_table (λ t. encode (on_machines (λ _. t) b)) machines_at
  unfolding encode
  machines_spot = record { front = S; back = C ++ (D ++ (O ++ R)); is = λ t. refl; size = settings_wide b.settings }

  committees_spot : Spot committee_table (λ t. encode (on_committees (λ _. t) b)) committees_at
  unfolding encode
  committees_spot = record { front = S ++ M; back = D ++ (O ++ R); is = λ t. simp append_assoc; size = simp length-append (omega (arith, settings_wide b.settings, m_wide)) }

  bounds_spot : Spot boundary_table (λ t. encode (on_bounds (λ _. t) b)) bounds_at
  unfolding encode
  bounds_spot = record { front = S ++ (M ++ C); back = O ++ R; is = λ t. simp append_assoc; size = simp length-append (omega (arith, settings_wide b.settings, m_wide, c_wide)) }

  rotations_spot : Spot rotation_table (λ t. encode (on_rotations (λ _. t) b)) rotations_at
  unfolding encode
  rotations_spot = record {
    front = S ++ (M ++ (C ++ D));
    back = R;
    is = λ t. simp append_assoc;
    size = simp length-append (omega (arith, settings_wide b.settings, m_wide, c_wide, d_wide));
  }

  reshapes_spot : Spot reshape_table (λ t. encode (on_reshapes (λ _. t) b)) reshapes_at
  unfolding encode
  reshapes_spot = record {
    front = S ++ (M ++ (C ++ (D ++ O)));
    back = [];
    is = λ t. simp (append_assoc, append-nil);
    size = simp length-append (omega (arith, settings_wide b.settings, m_wide, c_wide, d_wide, o_wide));
  }

pub machines : Section machine_words machine_width most_machines machines_at (λ b. b.machines) (λ t. on_machines (λ _. t))
machines = record { wide = machine_wide; spot = machines_spot; same = λ b. refl; room = λ b f. f.machines }

pub committees : Section committee_row committee_width most_committees committees_at (λ b. b.committees) (λ t. on_committees (λ _. t))
committees = record { wide = committee_wide; spot = committees_spot; same = λ b. refl; room = λ b f. f.committees }

pub bounds : Section boundary_words boundary_width most_bounds bounds_at (λ b. b.bounds) (λ t. on_bounds (λ _. t))
bounds = record { wide = boundary_wide; spot = bounds_spot; same = λ b. refl; room = λ b f. f.bounds }

pub rotations : Section rotation_words rotation_width most_rotations rotations_at (λ b. b.rotations) (λ t. on_rotations (λ _. t))
rotations = record { wide = rotation_wide; spot = rotations_spot; same = λ b. refl; room = λ b f. f.rotations }

pub reshapes : Section reshape_row reshape_width most_reshapes reshapes_at (λ b. b.reshapes) (λ t. on_reshapes (λ _. t))
reshapes = record { wide = reshape_wide; spot = reshapes_spot; same = λ b. refl; room = λ b f. f.reshapes }

-- ---- parts of rows

pub members_spot : (k : ℕ) → Spot (id_table most_members) (λ l. committee_row (entry k l)) members_at
unfolding committee_row
members_spot k = record { front = k ∷ []; back = []; is = λ l. ap (λ (t : List ℕ). k ∷ t) (sym (append-nil (id_table most_members l))); size = refl }
