-- The board, section by section.
use Prim.Native.Nat.{ℕ, ◌+◌, ◌-◌, ◌≤◌}
use mathlib.Core.Path.{◌≡◌, refl, ap, sym, ◌∙◌}
use mathlib.Core.List.{List, [], ◌++◌, append_assoc, append-nil}
use mathlib.Core.Bool.{true}
use native.Mathlib.Omega.{arith}
use borrow.Rule.Slice.PartMut.{put_mid}
use Rattle.std.specs.Prelude.{Option, None, Some}
use Rattle.std.proofs.lemmas.Option.{none-some, same_Some}
use lib.ListN.{length, take, drop, replicate, length-append, length-replicate}
use Rattle.rules.specs.Board.{Settings, Board, most_machines, most_committees, most_bounds, most_rotations, most_reshapes}
use Rattle.rules.specs.WellFormed.{well_formed}
use Rattle.rules.specs.Snapshot.{section, settings_words, machine_words, committee_words, boundary_words, rotation_words, reshape_words, words_of, snapshot_of}
use Rattle.rules.proofs.Snapshot.{words_are_words}
use Rattle.tables.specs.Rows.{pad}
use Rattle.board.specs.Layout.{machines_at, committees_at, bounds_at, rotations_at, reshapes_at, board_size, settings_table, encode}
use Rattle.board.proofs.One.{every_yes, well_formed_fits}
use Rattle.row_tests.specs.declared.RowKind.TheVariants.{Machines, Committees, Boundaries, Rotations, Reshapes}
use Rattle.unpacking.specs.AsWords.{AsWords}
use Rattle.unpacking.specs.Parts.{PartRead, plain, Wide}
use Rattle.unpacking.specs.Unpacked.{TableRead, SettingsRead, FromBoundsRead, BoardRead}
use Rattle.unpacking.proofs.Parts.{follows, lent_words, filled_none, filled_kept, filled_next, filled_all, filled_done, filled_past}

-- ---- the settings

settings_long : (s : Settings) → length (settings_words s) ≡ 7
unfolding settings_words
settings_long s = refl

settings_room_lem : (s : Settings) → settings_words s ++ replicate 9 0 ≡ settings_table s
unfolding settings_table settings_words pad
settings_room_lem s = refl

pub settings_read : (ws out y z : List ℕ) (r : ℕ) → length out ≡ machines_at → length y ≡ length (take 7 out) → z ≡ replicate (length (take 9 (drop 7 (put_mid 0 7 out y)))) 0
    → PartRead plain (Wide (length (take 7 out))) ws y 0 (Some r) → SettingsRead ws (put_mid 7 9 (put_mid 0 7 out y) z) (Some r)
settings_read ws out y z r l ly ez q =
    let f = filled_next 7 y (filled_none out) (omega arith) (omega arith) ly in
    let lz : length z ≡ length (take 9 (drop 7 (put_mid 0 7 out y))) = ap length ez ∙ length-replicate {A = ℕ} (length (take 9 (drop 7 (put_mid 0 7 out y)))) 0 in
    let g = filled_next 16 z f (omega arith) (omega arith) lz in
    let n : length z ≡ 9 = omega (arith, length-append y z, f.size, g.size) in
    let e : z ≡ replicate 9 0 = ez ∙ ap (λ (k : ℕ). replicate k 0) (sym lz ∙ n) in
    record {
      whole = λ s rest p.
          let v = (lent_words 7 out (omega arith) q).whole (settings_words s) rest (omega arith, settings_long s) p in
          (filled_all g l ∙ rw (v.0, e) (settings_room_lem s), let z : 0 + length (settings_words s) ≡ length (settings_words s) = omega arith in v.1 ∙ ap Some z);
    }

pub settings_none : (ws out y t : List ℕ) → length out ≡ machines_at → PartRead plain (Wide (length (take 7 out))) ws y 0 None → SettingsRead ws t None
settings_none ws out y t l q = record { whole = λ s rest p. absurd (none-some _ ((lent_words 7 out (omega arith) q).whole (settings_words s) rest (omega arith, settings_long s) p).1) }

-- ---- the board

-- a section ends within words that are as many as those lent
pub within : {e m n : ℕ} → m ≡ n → board_size ≤ n → e ≤ board_size → e ≤ m
within l room h = omega arith

-- each section is read where the one before it ends
module _ {bytes d o r : List ℕ} {at_b atO atR : ℕ} {end : Option ℕ} (rb : (ws : List ℕ) → AsWords bytes ws → TableRead Boundaries most_bounds ws d at_b (Some atO))
    (ro : (ws : List ℕ) → AsWords bytes ws → TableRead Rotations most_rotations ws o atO (Some atR))
    (rr : (ws : List ℕ) → AsWords bytes ws → TableRead Reshapes most_reshapes ws r atR end) (out : List ℕ) (l : board_size ≤ length out) where
  -- the words when each section is written
  abbrev bounds1 : List ℕ
  bounds1 = put_mid bounds_at (rotations_at - bounds_at) out d

  abbrev bounds2 : List ℕ
  bounds2 = put_mid rotations_at (reshapes_at - rotations_at) bounds1 o

  pub bounds_read : length d ≡ length (take (rotations_at - bounds_at) (drop bounds_at out)) → length o ≡ length (take (reshapes_at - rotations_at) (drop rotations_at bounds1))
      → length r ≡ length (take (board_size - reshapes_at) (drop reshapes_at bounds2))
      → (ws : List ℕ) → AsWords bytes ws → FromBoundsRead ws out (put_mid reshapes_at (board_size - reshapes_at) bounds2 r) at_b end
  bounds_read ld lo lr ws h = record {
    whole = λ b q db.
        let B = section boundary_words b.bounds in
        let O = section rotation_words b.rotations in
        let R = section reshape_words b.reshapes in
        let vb = (rb ws h).whole b.bounds (O ++ R) q.bounds (every_yes b.bounds) db in
        let dp : drop atO ws ≡ O ++ R = follows at_b atO ws B (O ++ R) db (same_Some _ _ vb.1) in
        let vo = (ro ws h).whole b.rotations R q.rotations (every_yes b.rotations) dp in
        let dr : drop atR ws ≡ R ++ [] = follows atO atR ws O R dp (same_Some _ _ vo.1) ∙ sym (append-nil R) in
        let vr = (rr ws h).whole b.reshapes [] q.reshapes q.lists dr in
        let fd = filled_next rotations_at d (filled_kept bounds_at out (omega arith)) (omega arith) (omega arith) ld in
        let fo = filled_next reshapes_at o fd (omega arith) (omega arith) lo in
        let fr = filled_next board_size r fo (omega arith) (omega arith) lr in
        let e : atR + length R ≡ at_b + length (B ++ (O ++ R)) = omega (arith, same_Some _ _ vb.1, same_Some _ _ vo.1, length-append B (O ++ R), length-append O R) in
        (fr.words ∙ three (take bounds_at out) (drop board_size out) vb.0 vo.0 vr.0, vr.1 ∙ ap Some e);
  }
    where
      three : (k e : List ℕ) {a b c x y z : List ℕ} → a ≡ x → b ≡ y → c ≡ z → (((k ++ a) ++ b) ++ c) ++ e ≡ k ++ ((x ++ (y ++ z)) ++ e)
      three k e p q s = rw (p, q, s) (simp append_assoc)

-- a section is not there, so the tables are not
pub no_bounds : {ws d u : List ℕ} {at : ℕ} (t : List ℕ) → TableRead Boundaries most_bounds ws d at None → FromBoundsRead ws u t at None
no_bounds t x = record { whole = λ b q e. absurd (none-some _ (x.whole b.bounds _ q.bounds (every_yes b.bounds) e).1) }

pub no_rotations : {ws d o u : List ℕ} {at a : ℕ} (t : List ℕ) → TableRead Boundaries most_bounds ws d at (Some a) → TableRead Rotations most_rotations ws o a None → FromBoundsRead ws u t at None
no_rotations {ws} {d} {o} {u} {at} {a} t x y = record {
  whole = λ b q e.
      let p = same_Some _ _ (x.whole b.bounds _ q.bounds (every_yes b.bounds) e).1 in
      absurd (none-some _ (y.whole b.rotations _ q.rotations (every_yes b.rotations) (follows at a ws (section boundary_words b.bounds) _ e p)).1);
}

module _ {bytes s m c : List ℕ} {atM atC at_b : ℕ} (rs : (ws : List ℕ) → AsWords bytes ws → SettingsRead ws s (Some atM))
    (rm : (ws : List ℕ) → AsWords bytes ws → TableRead Machines most_machines ws m atM (Some atC))
    (rc : (ws : List ℕ) → AsWords bytes ws → TableRead Committees most_committees ws c atC (Some at_b)) (out : List ℕ) (l : board_size ≤ length out) where
  abbrev words1 : List ℕ
  words1 = put_mid 0 machines_at out s

  abbrev words2 : List ℕ
  words2 = put_mid machines_at (committees_at - machines_at) words1 m

  abbrev words3 : List ℕ
  words3 = put_mid committees_at (bounds_at - committees_at) words2 c

  pub board_read : length s ≡ length (take machines_at out) → length m ≡ length (take (committees_at - machines_at) (drop machines_at words1))
      → length c ≡ length (take (bounds_at - committees_at) (drop committees_at words2)) → (t : List ℕ) (r : Option ℕ) → ((ws : List ℕ) → AsWords bytes ws → FromBoundsRead ws words3 t at_b r)
      → (b : Board) → bytes ≡ snapshot_of b → well_formed b ≡ true → (t ≡ encode b ++ drop board_size out) × (r ≡ Some (length (words_of b)))
  unfolding words_of snapshot_of encode
  board_read ls lm lc t r rt b e good =
      let ws = words_of b in
      let h : AsWords bytes ws = record { bytes = e; words = words_are_words b good } in
      let q = well_formed_fits b good in
      let S = settings_words b.settings in
      let M = section machine_words b.machines in
      let C = section committee_words b.committees in
      let T = section boundary_words b.bounds ++ (section rotation_words b.rotations ++ section reshape_words b.reshapes) in
      let vs = (rs ws h).whole b.settings (M ++ (C ++ T)) refl in
      let dm : drop atM ws ≡ M ++ (C ++ T) = follows 0 atM ws S (M ++ (C ++ T)) refl (same_Some _ _ vs.1 ∙ omega arith) in
      let vm = (rm ws h).whole b.machines (C ++ T) q.machines (every_yes b.machines) dm in
      let dc : drop atC ws ≡ C ++ T = follows atM atC ws M (C ++ T) dm (same_Some _ _ vm.1) in
      let vc = (rc ws h).whole b.committees T q.committees q.members dc in
      let fs = filled_next machines_at s (filled_none out) (omega arith) (omega arith) ls in
      let fm = filled_next committees_at m fs (omega arith) (omega arith) lm in
      let fc = filled_next bounds_at c fm (omega arith) (omega arith) lc in
      let vt = (rt ws h).whole b q (follows atC at_b ws C T dc (same_Some _ _ vc.1)) in
      let n : at_b + length T ≡ length ws =
      omega (arith, same_Some _ _ vs.1, same_Some _ _ vm.1, same_Some _ _ vc.1, length-append S (M ++ (C ++ T)), length-append M (C ++ T), length-append C T) in
      (vt.0 ∙ joined _ (filled_done fc) vs.0 vm.0 vc.0 (filled_past fc (board_size - bounds_at)), vt.1 ∙ ap Some n)
    where
      joined : (v : List ℕ) {k a b c x y z u w : List ℕ} → k ≡ (a ++ b) ++ c → a ≡ x → b ≡ y → c ≡ z → u ≡ w → k ++ (v ++ u) ≡ (x ++ (y ++ (z ++ v))) ++ w
      joined v p q r s o = rw (p, q, r, s, o) (simp append_assoc)

-- a section is not there, so the bytes are no board's
module _ {bytes : List ℕ} (out t : List ℕ) where
  as_words : (b : Board) → bytes ≡ snapshot_of b → well_formed b ≡ true → AsWords bytes (words_of b)
  unfolding snapshot_of
  as_words b e good = record { bytes = e; words = words_are_words b good }

  pub no_settings : {s : List ℕ} → ((ws : List ℕ) → AsWords bytes ws → SettingsRead ws s None) → BoardRead bytes out t None
  unfolding words_of
  no_settings rs = record { whole = λ b e good. absurd (none-some _ ((rs (words_of b) (as_words b e good)).whole b.settings _ refl).1) }

  module _ {s : List ℕ} {a : ℕ} (rs : (ws : List ℕ) → AsWords bytes ws → SettingsRead ws s (Some a)) where
    machines_there : (b : Board) → AsWords bytes (words_of b)
        → drop a (words_of b)
        ≡ section machine_words b.machines
        ++ (section committee_words b.committees ++ (section boundary_words b.bounds ++ (section rotation_words b.rotations ++ section reshape_words b.reshapes)))
    unfolding words_of
    machines_there b h = follows 0 a (words_of b) (settings_words b.settings) _ refl (same_Some _ _ ((rs (words_of b) h).whole b.settings _ refl).1 ∙ omega arith)

    pub no_machines : {m : List ℕ} → ((ws : List ℕ) → AsWords bytes ws → TableRead Machines most_machines ws m a None) → BoardRead bytes out t None
    no_machines rm = record {
      whole = λ b e good.
          let h = as_words b e good in
          absurd (none-some _ ((rm (words_of b) h).whole b.machines _ (well_formed_fits b good).machines (every_yes b.machines) (machines_there b h)).1);
    }

    pub no_committees : {m c : List ℕ} {i : ℕ} → ((ws : List ℕ) → AsWords bytes ws → TableRead Machines most_machines ws m a (Some i))
        → ((ws : List ℕ) → AsWords bytes ws → TableRead Committees most_committees ws c i None) → BoardRead bytes out t None
    no_committees {i = i} rm rc = record {
      whole = λ b e good.
          let h = as_words b e good in
          let q = well_formed_fits b good in
          let d = machines_there b h in
          let v = (rm (words_of b) h).whole b.machines _ q.machines (every_yes b.machines) d in
          absurd (none-some _ ((rc (words_of b) h).whole b.committees _ q.committees q.members (follows a i (words_of b) (section machine_words b.machines) _ d (same_Some _ _ v.1))).1);
    }
