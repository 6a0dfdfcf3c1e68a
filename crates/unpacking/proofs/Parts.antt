-- Parts that are read one after another.
use Prim.Native.Nat.{ℕ, suc, ◌+◌, ◌-◌, ◌*◌, ◌/◌, ◌≤◌, ◌<◌}
use mathlib.Core.Path.{◌≡◌, refl, ap, sym, subst, ◌∙◌}
use mathlib.Core.List.{List, [], ◌∷◌, ◌++◌, append_assoc, append-nil}
use native.Mathlib.Omega.{arith}
use native.Mathlib.Nat.{mul-le-mul_right}
use borrow.Rule.Slice.PartMut.{put_mid}
use Rattle.std.specs.Prelude.{Option, None, Some, IfSome}
use Rattle.std.proofs.lemmas.Option.{none-some, same_Some, IfSome_then}
use lib.ListN.{length, get_or, take, drop, replicate, length-append, length-drop, take-append-drop, drop_of_length-le, get_or-append}
use lib.Seq.{take_at, drop_at, drop-drop, get_or-drop, get_or-take, length-take-le}
use Rattle.rules.specs.Snapshot.{read_words, rows_words, section}
use Rattle.tables.specs.Rows.{pad, table}
use Rattle.tables.proofs.Tables.{length_pad, pad_is, rows_length}
use Rattle.packing.specs.Packed.{count_of, flat}
use Rattle.packing.proofs.Sizes.{count_few, flat_length}
use Rattle.packing.proofs.Packs.{flat_packs}
use Rattle.unpacking.specs.AsWords.{AsWords}
use Rattle.unpacking.specs.Parts.{PartRead, plain, Wide, Listed}
use Rattle.unpacking.proofs.Bytes.{total, words_are}

-- ---- what stands at a place

-- the words at a place are within the words
pub ends : (at : ℕ) (ws x y : List ℕ) → drop at ws ≡ x ++ y → 0 < length x → at + length x ≤ length ws
ends at ws x y e h = omega (arith, length-drop at ws, ap length e, length-append x y)

-- what follows them
pub follows : (at m : ℕ) (ws x y : List ℕ) → drop at ws ≡ x ++ y → m ≡ at + length x → drop m ws ≡ y
follows at m ws x y e h = ap (λ (k : ℕ). drop k ws) h ∙ sym (drop-drop (length x) at ws) ∙ ap (drop (length x)) e ∙ drop_at x y (length x) refl

first : (at : ℕ) (ws x y : List ℕ) → drop at ws ≡ x ++ y → 0 < length x → get_or ws at 0 ≡ get_or x 0 0
first at ws x y e h =
    let z : at + 0 ≡ at = omega arith in
    ap (λ (k : ℕ). get_or ws k 0) (sym z) ∙ sym (get_or-drop at ws 0 0) ∙ ap (λ (l : List ℕ). get_or l 0 0) e ∙ get_or-append x y 0 0 h

-- ---- words

module _ {bs ws : List ℕ} (h : AsWords bs ws) (at n : ℕ) (t : List ℕ) where
  pub words_read : at + n ≤ length bs / 8 → t ≡ read_words n (drop (8 * at) bs) → PartRead plain (Wide n) ws t at (Some (at + n))
  words_read r e =
      let f : t ≡ take n (drop at ws) = e ∙ words_are h at n (omega (arith, total h)) in
      record {
        read = (
          omega arith,
          omega (arith, total h),
          sym (take-append-drop n (drop at ws)) ∙ ap (λ (l : List ℕ). l ++ drop n (drop at ws)) (sym f) ∙ ap (λ (l : List ℕ). t ++ l) (drop-drop n at ws),
        );
        whole = λ v rest g p. (f ∙ ap (take n) p ∙ take_at v rest n g.1, ap Some (ap (λ (m : ℕ). at + m) (sym g.1)));
      }

  pub words_none : length bs / 8 < at + n → PartRead plain (Wide n) ws t at None
  words_none o = record { read = tt; whole = λ v rest g p. absurd (omega (arith, total h, ends at ws v rest p (omega (arith, g.0, g.1)), g.1)) }

-- where n words of a room are lent, n words are read
pub lent_words : {ws t : List ℕ} {at : ℕ} {r : Option ℕ} (n : ℕ) (lent : List ℕ) → n ≤ length lent → PartRead plain (Wide (length (take n lent))) ws t at r → PartRead plain (Wide n) ws t at r
lent_words {ws} {t} {at} {r} n lent h q = subst (λ (m : ℕ). PartRead plain (Wide m) ws t at r) (length-take-le n lent h) q

-- ---- a list

listed_length : {w cap : ℕ} {v : List ℕ} → Listed w cap v → length v ≡ 1 + cap * w
listed_length {w} {cap} {v} g = ap length g.words ∙ length_pad (1 + cap * w) (flat w cap v)

flat_first : (w cap : ℕ) (v : List ℕ) → get_or (flat w cap v) 0 0 ≡ get_or v 0 0
unfolding flat
flat_first w cap v = get_or-take (1 + count_of cap v * w) v 0 0 (omega arith)

module _ (w cap : ℕ) (v : List ℕ) (g : Listed w cap v) where
  listed_count : length (flat w cap v) ≡ 1 + get_or v 0 0 * w
  listed_count = flat_length w cap v (listed_length g) ∙ ap (λ (n : ℕ). 1 + n * w) (sym (count_few cap v g.few))

  -- the count is the first word
  listed_first : (at : ℕ) (ws rest : List ℕ) → drop at ws ≡ flat w cap v ++ rest → get_or ws at 0 ≡ get_or v 0 0
  listed_first at ws rest p = first at ws (flat w cap v) rest p (omega (arith, listed_count)) ∙ flat_first w cap v

-- rows and zeros after them are the rows without the zeros
flat_back : (w cap n : ℕ) (t z : List ℕ) → get_or t 0 0 ≡ n → n ≤ cap → length t ≡ 1 + n * w → flat w cap (t ++ z) ≡ t
unfolding flat
flat_back w cap n t z f h l =
    let c : count_of cap (t ++ z) ≡ n = sym (count_few cap (t ++ z) (omega (arith, g, f))) ∙ g ∙ f in
    ap (λ (m : ℕ). take (1 + m * w) (t ++ z)) c ∙ take_at t z (1 + n * w) l
  where
    g : get_or (t ++ z) 0 0 ≡ get_or t 0 0
    g = get_or-append t z 0 0 (omega arith)

-- lent: the room of which the list's words are lent
module _ (w cap n at : ℕ) (r : Option ℕ) (ws lent t o : List ℕ) where
  pub list_read : n ≡ get_or ws at 0 → n ≤ cap → 1 + n * w ≤ length lent → o ≡ t ++ replicate (1 + cap * w - (1 + n * w)) 0 → length t ≡ length (take (1 + n * w) lent)
      → PartRead plain (Wide (length (take (1 + n * w) lent))) ws t at r → PartRead (flat w cap) (Listed w cap) ws o at r
  list_read count few room e long lentRead = record { read = reads; whole = wholes }
    where
      k : length (take (1 + n * w) lent) ≡ 1 + n * w
      k = length-take-le (1 + n * w) lent room

      l : length t ≡ 1 + n * w
      l = long ∙ k

      q : PartRead plain (Wide (1 + n * w)) ws t at r
      q = lent_words (1 + n * w) lent room lentRead

      fits : 1 + n * w ≤ 1 + cap * w
      fits = omega (arith, mul-le-mul_right w few)

      reads : IfSome r (λ next. (at ≤ next) × (next ≤ length ws) × (drop at ws ≡ flat w cap o ++ drop next ws))
      reads = IfSome_then r q.read (λ next x.
          let f : get_or t 0 0 ≡ n = sym (first at ws t (drop next ws) x.2 (omega (arith, l))) ∙ sym count in
          (x.0, x.1, x.2 ∙ ap (λ (u : List ℕ). u ++ drop next ws) (sym (ap (flat w cap) e ∙ flat_back w cap n t _ f few l))))

      wholes : (v rest : List ℕ) → Listed w cap v → drop at ws ≡ flat w cap v ++ rest → (o ≡ v) × (r ≡ Some (at + length (flat w cap v)))
      wholes v rest g p =
          let c : n ≡ get_or v 0 0 = count ∙ listed_first w cap v g at ws rest p in
          let m : length (flat w cap v) ≡ 1 + n * w = listed_count w cap v g ∙ ap (λ (k : ℕ). 1 + k * w) (sym c) in
          let y = q.whole (flat w cap v) rest (omega arith, m) p in
          let s : flat w cap v ++ replicate (1 + cap * w - (1 + n * w)) 0 ≡ pad (1 + cap * w) (flat w cap v) =
          ap (λ (k : ℕ). flat w cap v ++ replicate (1 + cap * w - k) 0) (sym m) ∙ sym (pad_is (1 + cap * w) (flat w cap v) (omega (arith, fits))) in
          (e ∙ ap (λ (u : List ℕ). u ++ replicate (1 + cap * w - (1 + n * w)) 0) y.0 ∙ s ∙ sym g.words, y.1)

pub list_none : (w cap n at : ℕ) (ws o : List ℕ) → n ≡ get_or ws at 0 → cap < n → PartRead (flat w cap) (Listed w cap) ws o at None
list_none w cap n at ws o count many = record { read = tt; whole = λ v rest g p. absurd (omega (arith, listed_first w cap v g at ws rest p, g.few)) }

-- what is cleared from e on
pub room_cleared : (e : ℕ) (out z : List ℕ) → e ≤ length out → z ≡ replicate (length (take (length out - e) (drop e out))) 0
    → drop e (put_mid e (length out - e) out z) ≡ replicate (length out - e) 0
room_cleared e out z h q =
    let l : length (drop e out) ≡ length out - e = length-drop e out in
    let n : drop (length out - e) (drop e out) ≡ [] = drop_of_length-le (drop e out) {i = length out - e} (omega arith) in
    drop_at (take e out) (z ++ drop (length out - e) (drop e out)) e (length-take-le e out h)
    ∙ ap (λ (u : List ℕ). z ++ u) n ∙ append-nil z ∙ q ∙ ap (λ (k : ℕ). replicate k 0) (length-take-le (length out - e) (drop e out) (omega arith))

-- a table is such a list
pub table_listed : {A : Type 0} (f : A → List ℕ) (w : ℕ) (fw : (x : A) → length (f x) ≡ w) (cap : ℕ) (xs : List A) → length xs ≤ cap → Listed w cap (table f w cap xs)
unfolding section
table_listed f w fw cap xs h = record { few = h; words = words }
  where
    fits : length (rows_words f xs) ≤ cap * w
    fits = omega (arith, rows_length f w fw xs, mul-le-mul_right w h)

    words : table f w cap xs ≡ pad (1 + cap * w) (flat w cap (table f w cap xs))
    words =
        let s : 1 + cap * w - suc (length (rows_words f xs)) ≡ cap * w - length (rows_words f xs) = omega arith in
        ap (λ (u : List ℕ). length xs ∷ u) (pad_is (cap * w) (rows_words f xs) fits)
        ∙ sym (ap (pad (1 + cap * w)) (flat_packs f w fw cap xs h) ∙ pad_is (1 + cap * w) (length xs ∷ rows_words f xs) (omega (arith, fits)) ∙ rw s)

-- ---- one part after another

-- where no part stands the words are any
pub any_words : {p : List ℕ → List ℕ} {g : List ℕ → Type 0} {ws t : List ℕ} {at : ℕ} (u : List ℕ) → PartRead p g ws t at None → PartRead p g ws u at None
any_words u x = record { read = tt; whole = λ v rest c e. absurd (none-some _ (x.whole v rest c e).1) }

-- the first of two parts is not there
pub both_none : {p : List ℕ → List ℕ} {g : List ℕ → Type 0} (q : List ℕ → List ℕ) (h : List ℕ → Type 0) {ws t u : List ℕ} {at : ℕ} (a : ℕ) → PartRead p g ws t at None
    → PartRead (λ v. p (take a v) ++ q (drop a v)) (λ v. g (take a v) × h (drop a v)) ws u at None
both_none {p} q h a x = record {
  read = tt;
  whole = λ v rest c e. absurd (none-some _ (x.whole (take a v) (q (drop a v) ++ rest) c.0 (e ∙ append_assoc (p (take a v)) (q (drop a v)) rest)).1);
}

module _ {p q : List ℕ → List ℕ} {g h : List ℕ → Type 0} {ws t u : List ℕ} {at : ℕ} (a : ℕ) where
  pub both : {m : ℕ} {r : Option ℕ} → length t ≡ a → PartRead p g ws t at (Some m) → PartRead q h ws u m r
      → PartRead (λ v. p (take a v) ++ q (drop a v)) (λ v. g (take a v) × h (drop a v)) ws (t ++ u) at r
  both {m} {r} l x y = record { read = reads; whole = wholes }
    where
      reads : IfSome r (λ e. (at ≤ e) × (e ≤ length ws) × (drop at ws ≡ (p (take a (t ++ u)) ++ q (drop a (t ++ u))) ++ drop e ws))
      reads = IfSome_then r y.read (λ e z.
          let w = x.read in
          (omega (arith, z.0, w.0), z.1, rw (take_at t u a l, drop_at t u a l, append_assoc (p t) (q u) (drop e ws)) (w.2 ∙ ap (λ (k : List ℕ). p t ++ k) z.2)))

      wholes : (v rest : List ℕ) → g (take a v) × h (drop a v) → drop at ws ≡ (p (take a v) ++ q (drop a v)) ++ rest
          → (t ++ u ≡ v) × (r ≡ Some (at + length (p (take a v) ++ q (drop a v))))
      wholes v rest c e =
          let d : drop at ws ≡ p (take a v) ++ (q (drop a v) ++ rest) = e ∙ append_assoc (p (take a v)) (q (drop a v)) rest in
          let w = x.whole (take a v) (q (drop a v) ++ rest) c.0 d in
          let n : m ≡ at + length (p (take a v)) = same_Some _ _ w.1 in
          let z = y.whole (drop a v) rest c.1 (follows at m ws (p (take a v)) (q (drop a v) ++ rest) d n) in
          let s : m + length (q (drop a v)) ≡ at + length (p (take a v) ++ q (drop a v)) = omega (arith, n, length-append (p (take a v)) (q (drop a v))) in
          (rw (w.0, z.0) (take-append-drop a v), z.1 ∙ ap Some s)

-- the same part by other names
pub renamed : {p q : List ℕ → List ℕ} {g h : List ℕ → Type 0} {ws t : List ℕ} {at : ℕ} {r : Option ℕ} → PartRead p g ws t at r → q t ≡ p t → ((v : List ℕ) → h v → (q v ≡ p v) × g v)
    → PartRead q h ws t at r
renamed {p} {q} {g} {h} {ws} {t} {at} {r} x e f = record {
  read = IfSome_then r x.read (λ next y. (y.0, y.1, y.2 ∙ ap (λ (k : List ℕ). k ++ drop next ws) (sym e)));
  whole = λ v rest c d.
      let n = f v c in
      let w = x.whole v rest n.1 (d ∙ ap (λ (k : List ℕ). k ++ rest) n.0) in
      (w.0, w.1 ∙ ap (λ (k : List ℕ). Some (at + length k)) (sym n.0));
}

pub renamed_none : {p q : List ℕ → List ℕ} {g h : List ℕ → Type 0} {ws t : List ℕ} {at : ℕ} → PartRead p g ws t at None → ((v : List ℕ) → h v → (q v ≡ p v) × g v) → PartRead q h ws t at None
renamed_none x f = record {
  read = tt;
  whole = λ v rest c d. let n = f v c in absurd (none-some _ (x.whole v rest n.1 (d ∙ ap (λ (k : List ℕ). k ++ rest) n.0)).1);
}

-- ---- parts written one after another: a words are, and those past them as before

pub record Filled (out : List ℕ) (a : ℕ) (xs done : List ℕ) : Type 0 where
  pub words : xs ≡ done ++ drop a out
  pub size : length done ≡ a

pub filled_none : (out : List ℕ) → Filled out 0 out []
filled_none out = record { words = refl; size = refl }

pub filled_next : {out : List ℕ} {a : ℕ} {xs done : List ℕ} (e : ℕ) (ys : List ℕ) → Filled out a xs done → a ≤ e → e ≤ length out → length ys ≡ length (take (e - a) (drop a xs))
    → Filled out e (put_mid a (e - a) xs ys) (done ++ ys)
filled_next {out} {a} {xs} {done} e ys f m h l =
    let d : drop a xs ≡ drop a out = ap (drop a) f.words ∙ drop_at done (drop a out) a f.size in
    let t : take a xs ≡ done = ap (take a) f.words ∙ take_at done (drop a out) a f.size in
    let n : length ys ≡ e - a = l ∙ ap (λ (u : List ℕ). length (take (e - a) u)) d ∙ length-take-le (e - a) (drop a out) (omega (arith, length-drop a out)) in
    let s : a + (e - a) ≡ e = omega arith in
    record { words = rw (t, d, drop-drop (e - a) a out, s) (sym (append_assoc done ys (drop e out))); size = omega (arith, length-append done ys, f.size) }

pub filled_all : {out : List ℕ} {a : ℕ} {xs done : List ℕ} → Filled out a xs done → length out ≡ a → xs ≡ done
filled_all {out} {a} {done} f h = f.words ∙ ap (λ (u : List ℕ). done ++ u) (drop_of_length-le out {i = a} (omega arith)) ∙ append-nil done

-- nothing is written yet, and the first a words stand
pub filled_kept : (a : ℕ) (out : List ℕ) → a ≤ length out → Filled out a out (take a out)
filled_kept a out h = record { words = sym (take-append-drop a out); size = length-take-le a out h }

module _ {out : List ℕ} {a : ℕ} {xs done : List ℕ} (f : Filled out a xs done) where
  pub filled_done : take a xs ≡ done
  filled_done = ap (take a) f.words ∙ take_at done (drop a out) a f.size

  pub filled_past : (k : ℕ) → drop (a + k) xs ≡ drop (a + k) out
  filled_past k = sym (drop-drop k a xs) ∙ ap (drop k) (ap (drop a) f.words ∙ drop_at done (drop a out) a f.size) ∙ drop-drop k a out
