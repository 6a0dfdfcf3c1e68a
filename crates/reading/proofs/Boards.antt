-- The settings and the sections, one after another to the end, are a board's snapshot; and such a snapshot is read so.
use Prim.Native.Nat.{ℕ, ◌+◌, ◌%◌, ◌≤◌, ◌<◌}
use mathlib.Core.Path.{◌≡◌, refl, ap, sym, subst, ◌∙◌}
use mathlib.Core.List.{List, [], ◌++◌, append-nil}
use mathlib.Core.Option as maybe
use mathlib.Core.Option.{none, some}
use mathlib.Core.Bool.{Bool, true, false, ◌&&◌, false≢true}
use native.Mathlib.Omega.{arith}
use borrow.Author.Tests.{eqb-true, eq-eqb}
use Rattle.std.specs.Prelude.{Option, None, Some}
use Rattle.std.proofs.lemmas.Option.{none-some, same_Some}
use lib.Dec.{eqb}
use lib.ListN.{length, take, drop, replicate, length-append, length-drop, take-append-drop, drop_of_length-le}
use lib.Seq.{take_at, length-take-le}
use Rattle.types.specs.declared.Answer.TheVariants.{Done, NoRoom, NotASnapshot}
use Rattle.rules.specs.Lists.{◌and◌, every}
use Rattle.rules.specs.Board.{Settings, Board, most_machines, most_committees, most_bounds, most_rotations, most_reshapes}
use Rattle.rules.specs.WellFormed.{is_word, good_list, well_formed}
use Rattle.rules.specs.Snapshot.{section, settings_words, machine_words, committee_words, boundary_words, rotation_words, reshape_words, words_of, bytes_of, words_of_bytes, snapshot_of, read_snapshot}
use Rattle.rules.proofs.Tests.{all_parts, all_joins, every_append}
use Rattle.rules.proofs.Snapshot.{words_are_words, bytes_read_back, snapshot_reads_back, snapshot_read_writes}
use Rattle.tables.specs.Rows.{pad}
use Rattle.board.specs.Layout.{board_size, settings_table, encode}
use Rattle.row_tests.specs.declared.RowKind.{RowKind}
use Rattle.row_tests.specs.declared.RowKind.TheVariants.{Machines, Committees, Boundaries, Rotations, Reshapes}
use Rattle.wellformed.specs.Check.{settings_ok}
use Rattle.word_tests.proofs.Tests.{left_true, right_true, both}
use Rattle.word_tests.proofs.Decides.{Words, words_cut}
use Rattle.wellformed.proofs.Settings.{settings_decides}
use Rattle.snapshot.specs.ReadAs.{ReadAs, not_snapshot, too_short, read_as}
use Rattle.unpacking.specs.AsWords.{AsWords}
use Rattle.unpacking.specs.Unpacked.{RowOf, snap_row}
use Rattle.unpacking.proofs.Parts.{follows}
use Rattle.reading.specs.Told.{Snapshot, TellsSnapshot}
use Rattle.reading.specs.Stream.{good_of, before_of, SectionAt, TellsSection, SectionsAt, TellsSections, HeadAt, TellsHead}
use Rattle.reading.proofs.Bytes.{snapshot_eights}

-- ---- the settings

-- the first seven words, and zeros in the room for more
abbrev head_words : List ℕ → List ℕ
head_words ws = take 7 ws ++ replicate 9 0

zeros_words : Words (replicate 9 0)
unfolding every ◌and◌
zeros_words = refl

head_table : (s : Settings) (z : List ℕ) → head_words (settings_words s ++ z) ≡ settings_table s
unfolding settings_table settings_words pad
head_table s z = refl

head_pack : (s : Settings) → take 7 (settings_table s) ≡ settings_words s
unfolding settings_table settings_words pad
head_pack s = refl

pub head_none : (ws : List ℕ) → length ws < 7 → TellsHead ws false
unfolding settings_words
head_none ws l = record { yes = λ h. absurd (false≢true h); held = λ h. absurd (omega (arith, ap length h.words)) }

pub head_told : (ws : List ℕ) (r : Bool) → Words ws → 7 ≤ length ws → r ≡ settings_ok (take 7 ws ++ replicate 9 0) → TellsHead ws r
head_told ws r v l e = record {
  yes = λ h.
      let d = settings_decides.sound (head_words ws) (every_append is_word (take 7 ws) (replicate 9 0) (words_cut 7 ws v).0 zeros_words) (length-append (take 7 ws) (replicate 9 0) ∙ omega (arith, seven)) (sym e ∙ h) in
      record {
        settings = d.value;
        good = d.fine;
        words = sym (take-append-drop 7 ws) ∙ ap (λ (u : List ℕ). u ++ drop 7 ws) (sym (take_at (take 7 ws) (replicate 9 0) 7 seven) ∙ ap (take 7) d.words ∙ head_pack d.value);
      };
  held = λ h. e ∙ ap settings_ok (ap head_words h.words ∙ head_table h.settings (drop 7 ws)) ∙ settings_decides.complete h.settings h.good;
}
  where
    seven : length (take 7 ws) ≡ 7
    seven = length-take-le 7 ws l

-- ---- the board

-- a section that stands there, and what follows it
module _ (k : RowKind) (cap : ℕ) (ws : List ℕ) (at : ℕ) (xs : List (RowOf k)) where
  end_of : ℕ
  end_of = at + length (section (snap_row k) xs)

  stands : (rest : List ℕ) → good_list cap (good_of k) (before_of k) xs ≡ true → drop at ws ≡ section (snap_row k) xs ++ rest
      → SectionAt k cap ws at end_of × (drop end_of ws ≡ rest)
  unfolding end_of
  stands rest g w =
      let p : drop (at + length (section (snap_row k) xs)) ws ≡ rest = follows at (at + length (section (snap_row k) xs)) ws (section (snap_row k) xs) rest w refl in
      (record { rows = xs; good = g; words = w ∙ ap (λ (u : List ℕ). section (snap_row k) xs ++ u) (sym p); next = refl }, p)

  -- a section has its count, so its words end where it ends
  to_the_end : drop at ws ≡ section (snap_row k) xs ++ [] → end_of ≡ length ws
  unfolding section end_of
  to_the_end w = omega (arith, ap length w, length-append (section (snap_row k) xs) [], length-drop at ws)

-- bytes are those of one list of words
one_words : (bs ws : List ℕ) (b : Board) → AsWords bs ws → well_formed b ≡ true → bs ≡ snapshot_of b → ws ≡ words_of b
unfolding snapshot_of
one_words bs ws b h g e =
    let p : words_of_bytes bs ≡ some ws = ap words_of_bytes h.bytes ∙ bytes_read_back ws h.words in
    let q : words_of_bytes bs ≡ some (words_of b) = ap words_of_bytes e ∙ bytes_read_back (words_of b) (words_are_words b g) in
    cc

-- ---- the sections, one after another

module _ (ws : List ℕ) (at : ℕ) where
  sections_none : ((e : ℕ) → SectionsAt ws at e → ⊥) → TellsSections ws at None
  sections_none h = record { yes = tt; held = λ e p. absurd (h e p) }

  pub no_machines : TellsSection Machines most_machines ws at None → TellsSections ws at None
  no_machines t = sections_none (λ e p. none-some _ (t.held _ p.machines))

  module _ (m : ℕ) (tm : TellsSection Machines most_machines ws at (Some m)) where
    same_m : (e : ℕ) (p : SectionsAt ws at e) → p.committees_at ≡ m
    same_m e p = sym (same_Some _ _ (tm.held _ p.machines))

    pub no_committees : TellsSection Committees most_committees ws m None → TellsSections ws at None
    no_committees t = sections_none (λ e p. none-some _ (t.held _ (subst (λ (i : ℕ). SectionAt Committees most_committees ws i p.bounds_at) (same_m e p) p.committees)))

    module _ (c : ℕ) (tc : TellsSection Committees most_committees ws m (Some c)) where
      same_c : (e : ℕ) (p : SectionsAt ws at e) → p.bounds_at ≡ c
      same_c e p = sym (same_Some _ _ (tc.held _ (subst (λ (i : ℕ). SectionAt Committees most_committees ws i p.bounds_at) (same_m e p) p.committees)))

      pub no_bounds : TellsSection Boundaries most_bounds ws c None → TellsSections ws at None
      no_bounds t = sections_none (λ e p. none-some _ (t.held _ (subst (λ (i : ℕ). SectionAt Boundaries most_bounds ws i p.rotations_at) (same_c e p) p.bounds)))

      module _ (b : ℕ) (tb : TellsSection Boundaries most_bounds ws c (Some b)) where
        same_b : (e : ℕ) (p : SectionsAt ws at e) → p.rotations_at ≡ b
        same_b e p = sym (same_Some _ _ (tb.held _ (subst (λ (i : ℕ). SectionAt Boundaries most_bounds ws i p.rotations_at) (same_c e p) p.bounds)))

        pub no_rotations : TellsSection Rotations most_rotations ws b None → TellsSections ws at None
        no_rotations t = sections_none (λ e p. none-some _ (t.held _ (subst (λ (i : ℕ). SectionAt Rotations most_rotations ws i p.reshapes_at) (same_b e p) p.rotations)))

        module _ (o : ℕ) (to : TellsSection Rotations most_rotations ws b (Some o)) where
          same_o : (e : ℕ) (p : SectionsAt ws at e) → p.reshapes_at ≡ o
          same_o e p = sym (same_Some _ _ (to.held _ (subst (λ (i : ℕ). SectionAt Rotations most_rotations ws i p.reshapes_at) (same_b e p) p.rotations)))

          last_there : (e : ℕ) (p : SectionsAt ws at e) → SectionAt Reshapes most_reshapes ws o e
          last_there e p = subst (λ (i : ℕ). SectionAt Reshapes most_reshapes ws i e) (same_o e p) p.reshapes

          pub sections_told : (r : Option ℕ) → TellsSection Reshapes most_reshapes ws o r → TellsSections ws at r
          sections_told None t = sections_none (λ e p. none-some _ (t.held e (last_there e p)))
          sections_told (Some r) t = record {
            yes = record { committees_at = m; bounds_at = c; rotations_at = b; reshapes_at = o; machines = tm.yes; committees = tc.yes; bounds = tb.yes; rotations = to.yes; reshapes = t.yes };
            held = λ e p. t.held e (last_there e p);
          }

module _ (bs ws : List ℕ) (as' : AsWords bs ws) where
  board_there : HeadAt ws → (r : ℕ) → SectionsAt ws 7 r → r ≡ length ws → Snapshot bs
  unfolding snapshot_of words_of well_formed settings_words
  board_there h r p e =
      let R = p.reshapes in
      let O = p.rotations in
      let B = p.bounds in
      let C = p.committees in
      let M = p.machines in
      let v : Board = record { settings = h.settings; machines = M.rows; committees = C.rows; bounds = B.rows; rotations = O.rows; reshapes = R.rows } in
      let z : drop r ws ≡ [] = drop_of_length-le ws {i = r} (omega arith) in
      let wr : drop p.reshapes_at ws ≡ section reshape_words v.reshapes = R.words ∙ ap (λ (u : List ℕ). section reshape_words v.reshapes ++ u) z ∙ append-nil _ in
      let wo = O.words ∙ ap (λ (u : List ℕ). section rotation_words v.rotations ++ u) wr in
      let wb = B.words ∙ ap (λ (u : List ℕ). section boundary_words v.bounds ++ u) wo in
      let wc = C.words ∙ ap (λ (u : List ℕ). section committee_words v.committees ++ u) wb in
      let wm = M.words ∙ ap (λ (u : List ℕ). section machine_words v.machines ++ u) wc in
      record {
        board = v;
        good = all_joins _ (h.good, (M.good, (C.good, (B.good, (O.good, (R.good, tt))))));
        bytes = as'.bytes ∙ ap bytes_of (h.words ∙ ap (λ (u : List ℕ). settings_words v.settings ++ u) wm);
      }

  board_reached : Snapshot bs → HeadAt ws × SectionsAt ws 7 (length ws)
  unfolding words_of well_formed settings_words
  board_reached h =
      let v = h.board in
      let g = all_parts _ h.good in
      let w : ws ≡ words_of v = one_words bs ws v as' h.good h.bytes in
      let w7 : drop 7 ws ≡ section machine_words v.machines ++ (section committee_words v.committees ++ (section boundary_words v.bounds ++ (section rotation_words v.rotations ++ section reshape_words v.reshapes))) = ap (drop 7) w in
      let M = stands Machines most_machines ws 7 v.machines _ g.1.0 w7 in
      let C = stands Committees most_committees ws _ v.committees _ g.1.1.0 M.1 in
      let B = stands Boundaries most_bounds ws _ v.bounds _ g.1.1.1.0 C.1 in
      let O = stands Rotations most_rotations ws _ v.rotations _ g.1.1.1.1.0 B.1 in
      let o = end_of Rotations most_rotations ws _ v.rotations in
      let l : drop o ws ≡ section reshape_words v.reshapes ++ [] = O.1 ∙ sym (append-nil _) in
      let R = stands Reshapes most_reshapes ws o v.reshapes [] g.1.1.1.1.1.0 l in (
        record { settings = v.settings; good = g.0; words = w ∙ ap (λ (u : List ℕ). settings_words v.settings ++ u) (sym w7) },
        record {
          committees_at = _;
          bounds_at = _;
          rotations_at = _;
          reshapes_at = _;
          machines = M.0;
          committees = C.0;
          bounds = B.0;
          rotations = O.0;
          reshapes = subst (λ (i : ℕ). SectionAt Reshapes most_reshapes ws o i) (to_the_end Reshapes most_reshapes ws o v.reshapes l) R.0;
        },
      )

  pub pass_none : TellsSections ws 7 None → TellsSnapshot bs false
  pass_none t = record { yes = λ y. absurd (false≢true y); held = λ p. absurd (none-some _ (t.held _ (board_reached p).1)) }

  -- THE FIRST PASS TELLS, of any bytes, whether they are a well-formed board's snapshot
  pub pass_tells : (r : ℕ) → TellsSections ws 7 (Some r) → (h q : Bool) → TellsHead ws h → q ≡ eqb r (length ws) → TellsSnapshot bs (h && q)
  pass_tells r s h q t e = record {
    yes = λ y. board_there (t.yes (left_true h q y)) r s.yes (eqb-true r (length ws) (sym e ∙ right_true h q y));
    held = λ p. let g = board_reached p in both h q (t.held g.0) (e ∙ eq-eqb r (length ws) (same_Some _ _ (s.held _ g.1)));
  }

pub pass_odd : (bs : List ℕ) → (length bs % 8 ≡ 0 → ⊥) → TellsSnapshot bs false
pass_odd bs h = record { yes = λ y. absurd (false≢true y); held = λ p. absurd (h (snapshot_eights bs p)) }

-- ---- the read

pub read_refused : (bs before : List ℕ) (r : Bool) → TellsSnapshot bs r → r ≡ false → ReadAs bs before before NotASnapshot
read_refused bs before r t e = go (read_snapshot bs) refl
  where
    go : (o : maybe.Option Board) → read_snapshot bs ≡ o → ReadAs bs before before NotASnapshot
    go none p = not_snapshot p refl refl
    go (some b) p = let w = snapshot_read_writes bs b p in absurd (false≢true (sym e ∙ t.held (record { board = b; good = w.1; bytes = w.0 })))

reads_it : (bs : List ℕ) (p : Snapshot bs) → read_snapshot bs ≡ some p.board
reads_it bs p = ap read_snapshot p.bytes ∙ snapshot_reads_back p.board p.good

pub read_short : (bs before : List ℕ) → Snapshot bs → length before < board_size → ReadAs bs before before NoRoom
read_short bs before p l = too_short p.board (reads_it bs p) l refl refl

pub read_done : (bs before after : List ℕ) (p : Snapshot bs) → board_size ≤ length before → after ≡ encode p.board ++ drop board_size before → ReadAs bs before after Done
read_done bs before after p l e = read_as p.board (reads_it bs p) l refl e
