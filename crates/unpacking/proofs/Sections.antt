-- Rows one after another, and a table of them.
use Prim.Native.Nat.{ℕ, suc, ◌+◌, ◌-◌, ◌*◌, ◌≤◌, ◌<◌}
use mathlib.Core.Path.{◌≡◌, refl, ap, sym, subst, ◌∙◌}
use mathlib.Core.List.{List, [], ◌∷◌, ◌++◌, append_assoc, append-nil}
use mathlib.Core.Bool.{true, false≢true}
use native.Mathlib.Omega.{arith}
use native.Mathlib.Nat.{mul-le-mul_right}
use borrow.Rule.Slice.PartMut.{put_mid}
use Rattle.std.specs.Prelude.{Option, None, Some, unwrap_or}
use Rattle.std.proofs.lemmas.Option.{none-some, same_Some}
use lib.ListN.{length, get_or, take, drop, replicate, length-append, length-drop, length-replicate}
use lib.Seq.{take_at, take_all, length-take-le}
use Rattle.rules.specs.Lists.{every}
use Rattle.rules.specs.Snapshot.{rows_words, section}
use Rattle.rules.proofs.Tests.{every_parts}
use Rattle.tables.specs.Rows.{table}
use Rattle.tables.proofs.Tables.{pad_is, rows_length}
use Rattle.row_tests.specs.declared.RowKind.{RowKind}
use Rattle.row_tests.specs.declared.RowKind.TheVariants.{Machines, Committees, Boundaries, Rotations, Reshapes}
use Rattle.row_tests.specs.Rows.{width_of}
use Rattle.unpacking.specs.AsWords.{AsWords}
use Rattle.unpacking.specs.Parts.{PartRead, plain, Wide}
use Rattle.unpacking.specs.Unpacked.{RowOf, full_row, snap_row, roomy_row, is_plain, RowRead, RowsRead, TableRead}
use Rattle.unpacking.proofs.Parts.{follows, lent_words, Filled, filled_none, filled_next, filled_all}
use Rattle.unpacking.proofs.Rows.{row_wide}

-- ---- rows

-- of the rows xs some are written, a words of them, and those left stand at `next`
pub record Begun (k : RowKind) (ws : List ℕ) (xs : List (RowOf k)) (rest : List ℕ) (at : ℕ) (out : List ℕ) (left a next : ℕ) : Type 0 where
  pub rows : List (RowOf k)
  pub count : length rows ≡ left
  pub roomy : every (roomy_row k) rows ≡ true
  pub source : drop next ws ≡ rows_words (snap_row k) rows ++ rest
  pub ends : next + length (rows_words (snap_row k) rows) ≡ at + length (rows_words (snap_row k) xs)
  pub words : take a out ++ rows_words (full_row k) rows ≡ rows_words (full_row k) xs

pub record Unrolled (k : RowKind) (w n : ℕ) (bytes : List ℕ) (at : ℕ) (before out : List ℕ) (left a next : ℕ) : Type 0 where
  pub width : w ≡ width_of k
  pub long : length out ≡ length before
  pub room : a + left * w ≡ length before
  pub begun : (ws : List ℕ) → AsWords bytes ws → (xs : List (RowOf k)) (rest : List ℕ) → length xs ≡ n → every (roomy_row k) xs ≡ true → drop at ws ≡ rows_words (snap_row k) xs ++ rest
      → Begun k ws xs rest at out left a next

pub unroll_start : (k : RowKind) (w n : ℕ) (bytes : List ℕ) (at : ℕ) (out : List ℕ) → w ≡ width_of k → length out ≡ n * w → Unrolled k w n bytes at out out n 0 at
unroll_start k w n bytes at out e l = record {
  width = e;
  long = refl;
  room = omega arith;
  begun = λ ws h xs rest c g s. record { rows = xs; count = c; roomy = g; source = s; ends = refl; words = refl };
}

-- what the code lends of a row, and what comes back
module _ (a w : ℕ) (out t : List ℕ) (h : a + w ≤ length out) (l : length t ≡ length (take (a + w - a) (drop a out))) where
  put_long : length t ≡ w
  put_long = l ∙ length-take-le (a + w - a) (drop a out) (omega (arith, length-drop a out)) ∙ omega arith

  pub put_same : length (put_mid a (a + w - a) out t) ≡ length out
  put_same =
      omega (arith, length-append (take a out) (t ++ drop (a + w - a) (drop a out)), length-append t (drop (a + w - a) (drop a out)), length-take-le a out (omega arith), put_long, length-drop (a + w - a) (drop a out), length-drop a out)

  put_more : take (a + w) (put_mid a (a + w - a) out t) ≡ take a out ++ t
  put_more =
      let n : length (take a out ++ t) ≡ a + w = omega (arith, length-append (take a out) t, length-take-le a out (omega arith), put_long) in
      ap (take (a + w)) (sym (append_assoc (take a out) t (drop (a + w - a) (drop a out)))) ∙ take_at (take a out ++ t) (drop (a + w - a) (drop a out)) (a + w) n

begun_turn : {k : RowKind} {ws : List ℕ} {xs : List (RowOf k)} {rest : List ℕ} {at : ℕ} {out : List ℕ} {left a next : ℕ} (w r : ℕ) (t : List ℕ)
    → Begun k ws xs rest at out left a next → 0 < left → a + w ≤ length out → length t ≡ length (take (a + w - a) (drop a out)) → RowRead k ws t next (Some r)
    → Begun k ws xs rest at (put_mid a (a + w - a) out t) (left - 1) (a + w) r
unfolding rows_words
begun_turn {k} {ws} {xs} {rest} {at} {out} {left} {a} {next} w r t b more h l q = turn b.rows b.count b.roomy b.source b.ends b.words
  where
    turn : (rows : List (RowOf k)) → length rows ≡ left → every (roomy_row k) rows ≡ true → drop next ws ≡ rows_words (snap_row k) rows ++ rest
        → next + length (rows_words (snap_row k) rows) ≡ at + length (rows_words (snap_row k) xs) → take a out ++ rows_words (full_row k) rows ≡ rows_words (full_row k) xs
        → Begun k ws xs rest at (put_mid a (a + w - a) out t) (left - 1) (a + w) r
    turn [] c g s e f = absurd (omega arith)
    turn (x ∷ rows) c g s e f =
        let p = every_parts (roomy_row k) x rows g in
        let S : List ℕ = rows_words (snap_row k) rows in
        let d : drop next ws ≡ snap_row k x ++ (S ++ rest) = s ∙ append_assoc (snap_row k x) S rest in
        let v = q.whole x (S ++ rest) p.0 d in
        record {
          rows = rows;
          count = omega arith;
          roomy = p.1;
          source = follows next r ws (snap_row k x) (S ++ rest) d (same_Some _ _ v.1);
          ends = omega (arith, same_Some _ _ v.1, length-append (snap_row k x) S);
          words = ap (λ (u : List ℕ). u ++ rows_words (full_row k) rows) (put_more a w out t h l ∙ ap (λ (u : List ℕ). take a out ++ u) v.0)
              ∙ append_assoc (take a out) (full_row k x) (rows_words (full_row k) rows)
              ∙ f;
        }

module _ {k : RowKind} {w n : ℕ} {bytes : List ℕ} {at : ℕ} {before out : List ℕ} {left a next : ℕ} (u : Unrolled k w n bytes at before out left a next) where
  pub unroll_room : 0 < left → a + w ≤ length out
  unroll_room more =
      let e : left ≡ suc (left - 1) = omega arith in
      omega (arith, ap (λ (m : ℕ). m * w) e, u.room, u.long)

  pub unroll_lent : 0 < left → length (take (a + w - a) (drop a out)) ≡ width_of k
  unroll_lent more = length-take-le (a + w - a) (drop a out) (omega (arith, length-drop a out, unroll_room more)) ∙ omega (arith, u.width)

  pub unroll_turn : (t : List ℕ) (r : ℕ) → 0 < left → length t ≡ length (take (a + w - a) (drop a out))
      → ((ws : List ℕ) → AsWords bytes ws → RowRead k ws t next (Some r)) → Unrolled k w n bytes at before (put_mid a (a + w - a) out t) (left - 1) (a + w) r
  unroll_turn t r more l q =
      let e : left ≡ suc (left - 1) = omega arith in
      record {
        width = u.width;
        long = put_same a w out t (unroll_room more) l ∙ u.long;
        room = omega (arith, ap (λ (m : ℕ). m * w) e, u.room);
        begun = λ ws h xs rest c g s. begun_turn w r t (u.begun ws h xs rest c g s) more (unroll_room more) l (q ws h);
      }

  -- the next row is not there, so the rows are not
  pub unroll_none : 0 < left → (t o ws : List ℕ) → AsWords bytes ws → RowRead k ws t next None → RowsRead k n ws o at None
  unfolding rows_words
  unroll_none more t o ws h q = record { whole = λ xs rest c g s. let b = u.begun ws h xs rest c g s in absurd (go rest b.rows b.count b.roomy b.source) }
    where
      go : (rest : List ℕ) (rows : List (RowOf k)) → length rows ≡ left → every (roomy_row k) rows ≡ true → drop next ws ≡ rows_words (snap_row k) rows ++ rest → ⊥
      go rest [] c g s = omega arith
      go rest (x ∷ rows) c g s =
          none-some _ (q.whole x (rows_words (snap_row k) rows ++ rest) (every_parts (roomy_row k) x rows g).0 (s ∙ append_assoc (snap_row k x) (rows_words (snap_row k) rows) rest)).1

  -- the next row, or else the place 0 after it
  pub unroll_on : (t : List ℕ) (r : Option ℕ) → 0 < left → length t ≡ length (take (a + w - a) (drop a out))
      → ((ws : List ℕ) → AsWords bytes ws → RowRead k ws t next r) → Unrolled k w n bytes at before (put_mid a (a + w - a) out t) (left - 1) (a + w) (unwrap_or r 0)
  unroll_on t (Some r) more l q = unroll_turn t r more l q
  unroll_on t None more l q =
      let e : left ≡ suc (left - 1) = omega arith in
      record {
        width = u.width;
        long = put_same a w out t (unroll_room more) l ∙ u.long;
        room = omega (arith, ap (λ (m : ℕ). m * w) e, u.room);
        begun = λ ws h xs rest c g s. absurd (none-some _ ((unroll_none more t [] ws h (q ws h)).whole xs rest c g s).1);
      }

  pub unroll_end : left ≤ 0 → (ws : List ℕ) → AsWords bytes ws → RowsRead k n ws out at (Some next)
  unfolding rows_words
  unroll_end z ws h = record { whole = λ xs rest c g s. let b = u.begun ws h xs rest c g s in ends xs b.rows b.count b.ends b.words }
    where
      ends : (xs rows : List (RowOf k)) → length rows ≡ left → next + length (rows_words (snap_row k) rows) ≡ at + length (rows_words (snap_row k) xs)
          → take a out ++ rows_words (full_row k) rows ≡ rows_words (full_row k) xs → (out ≡ rows_words (full_row k) xs) × (Some next ≡ Some (at + length (rows_words (snap_row k) xs)))
      ends xs [] c e f =
          let z : next ≡ at + length (rows_words (snap_row k) xs) = omega arith in
          (sym (take_all a out (omega (arith, u.room, u.long, ap (λ (m : ℕ). m * w) c))) ∙ sym (append-nil (take a out)) ∙ f, ap Some z)
      ends xs (x ∷ rows) c e f = absurd (omega arith)

-- the same, counted from the first row on
pub unrolled_at : {k : RowKind} {w n : ℕ} {bytes : List ℕ} {at : ℕ} {before out : List ℕ} {left a next m b : ℕ} → left ≡ m → a ≡ b → Unrolled k w n bytes at before out left a next
    → Unrolled k w n bytes at before out m b next
unrolled_at {k} {w} {n} {bytes} {at} {before} {out} {left} {a} {next} {m} {b} p q u =
    subst (λ (i : ℕ). Unrolled k w n bytes at before out i b next) p (subst (λ (i : ℕ). Unrolled k w n bytes at before out left i next) q u)

-- rows without lists, read at once

plain_rows : (k : RowKind) → is_plain k ≡ true → (xs : List (RowOf k)) → rows_words (snap_row k) xs ≡ rows_words (full_row k) xs
plain_rows Machines h xs = refl
plain_rows Committees h xs = absurd (false≢true h)
plain_rows Boundaries h xs = refl
plain_rows Rotations h xs = refl
plain_rows Reshapes h xs = absurd (false≢true h)

width_some : (k : RowKind) → 0 < width_of k
width_some Machines = omega arith
width_some Committees = omega arith
width_some Boundaries = omega arith
width_some Rotations = omega arith
width_some Reshapes = omega arith

pub plain_read : (k : RowKind) (w n at : ℕ) (r : Option ℕ) (ws out t : List ℕ) → is_plain k ≡ true → 0 < n → w ≡ width_of k → length out ≡ n * w → PartRead plain (Wide (length out)) ws t at r
    → RowsRead k n ws t at r
plain_read k w n at r ws out t h more width long q = record {
  whole = λ xs rest c g p.
      let e = plain_rows k h xs in
      let l : length (rows_words (full_row k) xs) ≡ length out =
      rows_length (full_row k) (width_of k) (row_wide k) xs ∙ ap (λ (m : ℕ). m * width_of k) c ∙ ap (λ (m : ℕ). n * m) (sym width) ∙ sym long in
      let s : n ≡ suc (n - 1) = omega arith in
      let some : 0 < length out = omega (arith, ap (λ (m : ℕ). m * w) s, width_some k) in
      let v = q.whole (rows_words (full_row k) xs) rest (some, l) (p ∙ ap (λ (u : List ℕ). u ++ rest) e) in
      (v.0, v.1 ∙ ap (λ (u : List ℕ). Some (at + length u)) (sym e));
}

-- ---- a table

module _ (k : RowKind) (w cap n at m : ℕ) (ws out y : List ℕ) (width : w ≡ width_of k) (long : length out ≡ 1 + cap * w) (ly : length y ≡ length (take 1 out))
    (count : n ≡ get_or (put_mid 0 1 out y) 0 0) (first : PartRead plain (Wide (length (take 1 out))) ws y at (Some m)) where
  counted : (xs : List (RowOf k)) (rest : List ℕ) → drop at ws ≡ section (snap_row k) xs ++ rest → (y ≡ length xs ∷ []) × (m ≡ at + 1) × (n ≡ length xs)
  unfolding section
  counted xs rest p =
      let q = (lent_words 1 out (omega arith) first).whole (length xs ∷ []) (rows_words (snap_row k) xs ++ rest) (omega arith, refl) p in
      (q.0, same_Some _ _ q.1, count ∙ ap (λ (l : List ℕ). get_or (l ++ drop 1 out) 0 0) q.0)

  pub table_many : (t : List ℕ) → cap < n → TableRead k cap ws t at None
  table_many t many = record { whole = λ xs rest few g p. absurd (omega (arith, (counted xs rest p).2)) }

  -- the rows are not there
  pub table_none : (u t : List ℕ) → RowsRead k n ws u m None → TableRead k cap ws t at None
  unfolding section
  table_none u t q = record {
    whole = λ xs rest few g p.
        let c = counted xs rest p in
        absurd (none-some _ (q.whole xs rest (sym c.2) g (follows at m ws (length xs ∷ []) (rows_words (snap_row k) xs ++ rest) p c.1)).1);
  }

  -- the table when the count and the rows are written
  abbrev table1 : List ℕ
  table1 = put_mid 0 1 out y

  abbrev table2 : List ℕ → List ℕ
  table2 u = put_mid 1 (1 + n * w - 1) table1 u

  pub table_read : (r : ℕ) (u z : List ℕ) → n ≤ cap → length u ≡ length (take (1 + n * w - 1) (drop 1 table1)) → z ≡ replicate (length (take (length (table2 u) - (1 + n * w)) (drop (1 + n * w) (table2 u)))) 0
      → RowsRead k n ws u m (Some r) → TableRead k cap ws (put_mid (1 + n * w) (length (table2 u) - (1 + n * w)) (table2 u) z) at (Some r)
  unfolding section
  table_read r u z some lu ez q = record { whole = wholes }
    where
      fits : 1 + n * w ≤ 1 + cap * w
      fits = omega (arith, mul-le-mul_right w some)

      f : Filled out 1 table1 y
      f = filled_next 1 y (filled_none out) (omega arith) (omega arith) ly

      g : Filled out (1 + n * w) (table2 u) (y ++ u)
      g = filled_next (1 + n * w) u f (omega arith) (omega (arith, fits)) lu

      size : length (table2 u) ≡ length out
      size = ap length g.words ∙ length-append (y ++ u) (drop (1 + n * w) out) ∙ omega (arith, g.size, length-drop (1 + n * w) out, fits)

      cleared : z ≡ replicate (1 + cap * w - (1 + n * w)) 0
      cleared =
          let i : length (take (length (table2 u) - (1 + n * w)) (drop (1 + n * w) (table2 u))) ≡ 1 + cap * w - (1 + n * w) =
          length-take-le (length (table2 u) - (1 + n * w)) (drop (1 + n * w) (table2 u)) (omega (arith, length-drop (1 + n * w) (table2 u))) ∙ omega (arith, size) in
          ez ∙ ap (λ (j : ℕ). replicate j 0) i

      all : put_mid (1 + n * w) (length (table2 u) - (1 + n * w)) (table2 u) z ≡ (y ++ u) ++ z
      all = filled_all (filled_next (length (table2 u)) z g (omega (arith, size, fits)) (omega (arith, size)) (ap length ez ∙ length-replicate _ 0)) (sym size)

      wholes : (xs : List (RowOf k)) (rest : List ℕ) → length xs ≤ cap → every (roomy_row k) xs ≡ true → drop at ws ≡ section (snap_row k) xs ++ rest
          → (put_mid (1 + n * w) (length (table2 u) - (1 + n * w)) (table2 u) z ≡ table (full_row k) (width_of k) cap xs) × (Some r ≡ Some (at + length (section (snap_row k) xs)))
      wholes xs rest few roomy p =
          let c = counted xs rest p in
          let v = q.whole xs rest (sym c.2) roomy (follows at m ws (length xs ∷ []) (rows_words (snap_row k) xs ++ rest) p c.1) in
          let rows : List ℕ = rows_words (full_row k) xs in
          let rl : length rows ≡ length xs * width_of k = rows_length (full_row k) (width_of k) (row_wide k) xs in
          let i : 1 + cap * w - (1 + n * w) ≡ cap * width_of k - length rows =
          omega (arith, rl, ap (λ (j : ℕ). cap * j) width, ap (λ (j : ℕ). n * j) width, ap (λ (j : ℕ). j * width_of k) c.2) in (
            all
                ∙ rw (c.0, v.0, cleared, i) (ap (λ (l : List ℕ). length xs ∷ l) (sym (pad_is (cap * width_of k) rows (omega (arith, rl, mul-le-mul_right (width_of k) few))))),
            (let e : r ≡ at + suc (length (rows_words (snap_row k) xs)) = omega (arith, c.1, same_Some _ _ v.1) in ap Some e),
          )

-- no count is there
pub count_none : (k : RowKind) (cap at : ℕ) (ws out y t : List ℕ) → 1 ≤ length out → PartRead plain (Wide (length (take 1 out))) ws y at None → TableRead k cap ws t at None
unfolding section
count_none k cap at ws out y t l q = record {
  whole = λ xs rest few g p. absurd (none-some _ ((lent_words 1 out l q).whole (length xs ∷ []) (rows_words (snap_row k) xs ++ rest) (omega arith, refl) p).1);
}

pub roomed : {k : RowKind} {m n : ℕ} {ws t : List ℕ} {at : ℕ} {r : Option ℕ} → m ≡ n → TableRead k m ws t at r → TableRead k n ws t at r
roomed {k} {ws} {t} {at} {r} e q = subst (λ (i : ℕ). TableRead k i ws t at r) e q
