-- Rows of each kind, from their parts.
use Prim.Native.Nat.{ℕ, ◌+◌, ◌<◌}
use mathlib.Core.Path.{◌≡◌, refl, ap, sym, subst, subst⁻¹, ◌∙◌}
use mathlib.Core.List.{List, [], ◌++◌, append_assoc}
use mathlib.Core.Bool.{true}
use native.Mathlib.Omega.{arith}
use borrow.Author.Tests.{leb-true}
use borrow.Rule.Slice.PartMut.{put_mid}
use Rattle.std.specs.Prelude.{Option, None, Some}
use lib.ListN.{length, take, drop, length-append, length-drop}
use lib.Seq.{take_at, drop_at, take_all, drop-drop, length-take-le}
use Rattle.rules.specs.Board.{most_members, most_seats, most_half}
use Rattle.rules.specs.Snapshot.{id_words, seat_words, machine_words, committee_words, boundary_words, rotation_words, reshape_words}
use Rattle.rules.proofs.Tests.{all_parts}
use Rattle.tables.specs.Rows.{id_table}
use Rattle.tables.proofs.Tables.{table_length}
use Rattle.board.specs.Layout.{committee_width, seat_width, reshape_width, committee_row, seat_table, reshape_head}
use Rattle.board.specs.Held.{roomy_committee, roomy_reshape}
use Rattle.board.proofs.Widths.{machine_wide, id_wide, committee_wide, boundary_wide, rotation_wide, seat_wide, head_wide, reshape_parts_lem, reshape_wide}
use Rattle.row_tests.specs.declared.RowKind.{RowKind}
use Rattle.row_tests.specs.declared.RowKind.TheVariants.{Machines, Committees, Boundaries, Rotations, Reshapes}
use Rattle.row_tests.specs.Rows.{width_of}
use Rattle.packing.specs.Packed.{flat, committee, reshape, row_of}
use Rattle.packing.proofs.Packs.{committee_packs, reshape_packs}
use Rattle.unpacking.specs.Parts.{PartRead, plain, Wide, Listed}
use Rattle.unpacking.specs.Unpacked.{RowOf, full_row, snap_row, roomy_row, GoodRow, RowRead}
use Rattle.unpacking.proofs.Parts.{lent_words, table_listed, any_words, both, both_none, renamed, renamed_none, filled_none, filled_next, filled_all}

-- ---- a committee

committee_is : (t : List ℕ) → length t ≡ committee_width → committee t ≡ take 1 t ++ flat 1 most_members (drop 1 t)
unfolding committee
committee_is t l = ap (λ (u : List ℕ). take 1 t ++ flat 1 most_members u) (take_all 97 (drop 1 t) (omega (arith, length-drop 1 t)))

committee_good : (v : List ℕ) → GoodRow Committees v → (committee v ≡ take 1 v ++ flat 1 most_members (drop 1 v)) × (Wide 1 (take 1 v) × Listed 1 most_members (drop 1 v))
unfolding committee_row roomy_committee
committee_good v g =
    rw g.words (committee_is (committee_row g.row) (committee_wide g.row), ((omega arith, refl), table_listed id_words 1 id_wide most_members g.row.val (leb-true _ _ g.roomy)))

pub committee_read : (ws out y z : List ℕ) (at m : ℕ) (r : Option ℕ) → length out ≡ committee_width → length y ≡ length (take 1 out) → length z ≡ length (take 97 (drop 1 (put_mid 0 1 out y)))
    → PartRead plain (Wide (length (take 1 out))) ws y at (Some m) → PartRead (flat 1 most_members) (Listed 1 most_members) ws z m r
    → PartRead committee (GoodRow Committees) ws (put_mid 1 97 (put_mid 0 1 out y) z) at r
committee_read ws out y z at m r l ly lz u v =
    let f = filled_next 1 y (filled_none out) (omega arith) (omega arith) ly in
    let g = filled_next 98 z f (omega arith) (omega arith) lz in
    let e : put_mid 1 97 (put_mid 0 1 out y) z ≡ y ++ z = filled_all g l in
    subst⁻¹ (λ (t : List ℕ). PartRead committee (GoodRow Committees) ws t at r) e
    (renamed (both 1 f.size (lent_words 1 out (omega arith) u) v) (committee_is (y ++ z) g.size) committee_good)

pub committee_none : (ws out y t : List ℕ) (at : ℕ) → length out ≡ committee_width → PartRead plain (Wide (length (take 1 out))) ws y at None → PartRead committee (GoodRow Committees) ws t at None
committee_none ws out y t at l u = renamed_none (both_none (flat 1 most_members) (Listed 1 most_members) 1 (lent_words 1 out (omega arith) u)) committee_good

-- ---- a reshape

abbrev reshape_parts : List ℕ → List ℕ
reshape_parts t =
    take 9 t ++ (flat seat_width most_seats (take 97 (drop 9 t)) ++ (flat 1 most_half (take 49 (drop 97 (drop 9 t))) ++ flat 1 most_half (drop 49 (drop 97 (drop 9 t)))))

reshape_is : (t : List ℕ) → length t ≡ reshape_width → reshape t ≡ reshape_parts t
unfolding reshape
reshape_is t l =
    rw (drop-drop 97 9 t, drop-drop 49 106 t)
    (ap (λ (u : List ℕ). take 9 t ++ (flat seat_width most_seats (take 97 (drop 9 t)) ++ (flat 1 most_half (take 49 (drop 106 t)) ++ flat 1 most_half u))) (take_all 49 (drop 155 t) (omega (arith, length-drop 155 t))))

reshape_good : (v : List ℕ) → GoodRow Reshapes v
    → (reshape v ≡ reshape_parts v)
    × (Wide 9 (take 9 v) × (Listed seat_width most_seats (take 97 (drop 9 v)) × (Listed 1 most_half (take 49 (drop 97 (drop 9 v))) × Listed 1 most_half (drop 49 (drop 97 (drop 9 v))))))
unfolding roomy_reshape
reshape_good v g =
    let e = g.row in
    let q = all_parts _ g.roomy in
    let H = reshape_head e in
    let S = seat_table e.val.seats in
    let L = id_table most_half e.val.left in
    let R = id_table most_half e.val.right in
    let d0 : v ≡ H ++ (S ++ (L ++ R)) = g.words ∙ reshape_parts_lem e in
    let ls : length S ≡ 97 = table_length seat_words seat_width most_seats e.val.seats in
    let ll : length L ≡ 49 = table_length id_words 1 most_half e.val.left in
    let d9 : drop 9 v ≡ S ++ (L ++ R) = ap (drop 9) d0 ∙ drop_at H (S ++ (L ++ R)) 9 (head_wide e) in
    let dl : drop 97 (drop 9 v) ≡ L ++ R = ap (drop 97) d9 ∙ drop_at S (L ++ R) 97 ls in
    let t0 : take 9 v ≡ H = ap (take 9) d0 ∙ take_at H (S ++ (L ++ R)) 9 (head_wide e) in
    let ts : take 97 (drop 9 v) ≡ S = ap (take 97) d9 ∙ take_at S (L ++ R) 97 ls in
    let tl : take 49 (drop 97 (drop 9 v)) ≡ L = ap (take 49) dl ∙ take_at L R 49 ll in
    let tr : drop 49 (drop 97 (drop 9 v)) ≡ R = ap (drop 49) dl ∙ drop_at L R 49 ll in (
      reshape_is v (ap length g.words ∙ reshape_wide e),
      (
        (omega arith, ap length t0 ∙ head_wide e),
        (
          subst⁻¹ (Listed seat_width most_seats) ts (table_listed seat_words seat_width seat_wide most_seats e.val.seats (leb-true _ _ q.0)),
          (
            subst⁻¹ (Listed 1 most_half) tl (table_listed id_words 1 id_wide most_half e.val.left (leb-true _ _ q.1.0)),
            subst⁻¹ (Listed 1 most_half) tr (table_listed id_words 1 id_wide most_half e.val.right (leb-true _ _ q.1.1.0)),
          ),
        ),
      ),
    )

module _ (ws out a b c d : List ℕ) (at m n o : ℕ) (r : Option ℕ) where
  -- the row when one, two, three and four parts are written
  abbrev row1 : List ℕ
  row1 = put_mid 0 9 out a

  abbrev row2 : List ℕ
  row2 = put_mid 9 97 row1 b

  abbrev row3 : List ℕ
  row3 = put_mid 106 49 row2 c

  pub reshape_read : length out ≡ reshape_width → length a ≡ length (take 9 out) → length b ≡ length (take 97 (drop 9 row1)) → length c ≡ length (take 49 (drop 106 row2))
      → length d ≡ length (take 49 (drop 155 row3)) → PartRead plain (Wide (length (take 9 out))) ws a at (Some m) → PartRead (flat seat_width most_seats) (Listed seat_width most_seats) ws b m (Some n)
      → PartRead (flat 1 most_half) (Listed 1 most_half) ws c n (Some o) → PartRead (flat 1 most_half) (Listed 1 most_half) ws d o r
      → PartRead reshape (GoodRow Reshapes) ws (put_mid 155 49 row3 d) at r
  reshape_read l la lb lc ld ra rb rc rd =
      let f = filled_next 9 a (filled_none out) (omega arith) (omega arith) la in
      let g = filled_next 106 b f (omega arith) (omega arith) lb in
      let h = filled_next 155 c g (omega arith) (omega arith) lc in
      let i = filled_next 204 d h (omega arith) (omega arith) ld in
      let s : ((a ++ b) ++ c) ++ d ≡ a ++ (b ++ (c ++ d)) = simp append_assoc in
      let lb' : length b ≡ 97 = omega (arith, length-append a b, f.size, g.size) in
      let lc' : length c ≡ 49 = omega (arith, length-append (a ++ b) c, g.size, h.size) in
      subst⁻¹ (λ (t : List ℕ). PartRead reshape (GoodRow Reshapes) ws t at r) (filled_all i l ∙ s)
      (renamed (both 9 f.size (lent_words 9 out (omega arith) ra) (both 97 lb' rb (both 49 lc' rc rd))) (reshape_is (a ++ (b ++ (c ++ d))) (ap length (sym s) ∙ i.size)) reshape_good)

-- the halves, and the seats before them
abbrev halves : List ℕ → List ℕ
halves v = flat 1 most_half (take 49 v) ++ flat 1 most_half (drop 49 v)

abbrev GoodHalves : List ℕ → Type 0
GoodHalves v = Listed 1 most_half (take 49 v) × Listed 1 most_half (drop 49 v)

-- where a part is not there, no row is, whatever the words
module _ (ws out a t : List ℕ) (at : ℕ) (l : length out ≡ reshape_width) where
  pub head_none : PartRead plain (Wide (length (take 9 out))) ws a at None → PartRead reshape (GoodRow Reshapes) ws t at None
  head_none ra = renamed_none (both_none (λ v. flat seat_width most_seats (take 97 v) ++ halves (drop 97 v)) (λ v. Listed seat_width most_seats (take 97 v) × GoodHalves (drop 97 v)) 9 (lent_words 9 out (omega arith) ra)) reshape_good

  module _ (la : length a ≡ length (take 9 out)) (m : ℕ) (ra : PartRead plain (Wide (length (take 9 out))) ws a at (Some m)) where
    nine : length a ≡ 9
    nine = la ∙ length-take-le 9 out (omega arith)

    pub seats_none : (b : List ℕ) → PartRead (flat seat_width most_seats) (Listed seat_width most_seats) ws b m None → PartRead reshape (GoodRow Reshapes) ws t at None
    seats_none b rb = any_words t (renamed_none (both 9 nine (lent_words 9 out (omega arith) ra) (both_none halves GoodHalves {u = []} 97 rb)) reshape_good)

    module _ (b : List ℕ) (lb : length b ≡ length (take 97 (drop 9 (put_mid 0 9 out a)))) (n : ℕ) (rb : PartRead (flat seat_width most_seats) (Listed seat_width most_seats) ws b m (Some n)) where
      pub left_none : (c : List ℕ) → PartRead (flat 1 most_half) (Listed 1 most_half) ws c n None → PartRead reshape (GoodRow Reshapes) ws t at None
      left_none c rc =
          let f = filled_next 9 a (filled_none out) (omega arith) (omega arith) la in
          let g = filled_next 106 b f (omega arith) (omega arith) lb in
          let lb' : length b ≡ 97 = omega (arith, length-append a b, f.size, g.size) in
          any_words t (renamed_none (both 9 nine (lent_words 9 out (omega arith) ra) (both 97 lb' rb (both_none (flat 1 most_half) (Listed 1 most_half) {u = []} 49 rc))) reshape_good)

-- ---- a row of any kind

pub of_kind : {j k : RowKind} {ws t : List ℕ} {at : ℕ} {r : Option ℕ} → k ≡ j → PartRead (row_of j) (GoodRow j) ws t at r → PartRead (row_of k) (GoodRow k) ws t at r
of_kind {ws} {t} {at} {r} e q = subst⁻¹ (λ (i : RowKind). PartRead (row_of i) (GoodRow i) ws t at r) e q

-- a row without lists
pub flat_read : {k : RowKind} {ws t : List ℕ} {at : ℕ} {r : Option ℕ} (j : RowKind) (out : List ℕ) → k ≡ j → length out ≡ width_of k → 0 < width_of j → ((v : List ℕ) → row_of j v ≡ v)
    → ((e : RowOf j) → length (full_row j e) ≡ width_of j) → PartRead plain (Wide (length out)) ws t at r → PartRead (row_of k) (GoodRow k) ws t at r
flat_read {ws} {t} {at} {r} j out e l h same wide q =
    let p : PartRead plain (Wide (width_of j)) ws t at r = subst (λ (n : ℕ). PartRead plain (Wide n) ws t at r) (l ∙ ap width_of e) q in
    of_kind e (renamed p (same t) (λ v g. (same v, (h, ap length g.words ∙ wide g.row))))

pub row_wide : (k : RowKind) (e : RowOf k) → length (full_row k e) ≡ width_of k
row_wide Machines e = machine_wide e
row_wide Committees e = committee_wide e
row_wide Boundaries e = boundary_wide e
row_wide Rotations e = rotation_wide e
row_wide Reshapes e = reshape_wide e

-- a row without its room is the row in a snapshot
pub packs_row : (k : RowKind) (e : RowOf k) → roomy_row k e ≡ true → row_of k (full_row k e) ≡ snap_row k e
packs_row Machines e h = refl
packs_row Committees e h = committee_packs e h
packs_row Boundaries e h = refl
packs_row Rotations e h = refl
packs_row Reshapes e h = reshape_packs e h

-- every row has words
pub row_some : (k : RowKind) (e : RowOf k) → 0 < length (snap_row k e)
unfolding machine_words committee_words boundary_words rotation_words reshape_words
row_some Machines e = omega arith
row_some Committees e = omega arith
row_some Boundaries e = omega arith
row_some Rotations e = omega arith
row_some Reshapes e = omega arith

pub row_read : {k : RowKind} {ws t : List ℕ} {at : ℕ} {r : Option ℕ} → PartRead (row_of k) (GoodRow k) ws t at r → RowRead k ws t at r
row_read {k} {ws} {t} {at} {r} q = record {
  read = q.read;
  whole = λ e rest h p.
      let s = packs_row k e h in
      let w = q.whole (full_row k e) rest (record { row = e; roomy = h; words = refl }) (p ∙ ap (λ (u : List ℕ). u ++ rest) (sym s)) in
      (w.0, w.1 ∙ ap (λ (u : List ℕ). Some (at + length u)) s);
}
