-- Words written over others, and so a committee's row: past the members of both nothing has to be written.
use Prim.Native.Nat.{ℕ, zero, suc, ◌+◌, ◌-◌, ◌*◌, ◌≤◌, ◌<◌}
use mathlib.Core.Path.{◌≡◌, refl, ap, sym, ◌∙◌}
use mathlib.Core.List.{List, [], ◌++◌, append_assoc}
use mathlib.Core.Bool.{Bool, true, false}
use native.Mathlib.Omega.{arith}
use native.Mathlib.Numerals.{add-one}
use borrow.Author.Tests.{ltb-true, ltb-false}
use lib.Dec.{ltb}
use lib.ListN.{length, get_or, set, take, drop, replicate, length-drop, length-set, take-append-drop, get_or-append}
use lib.Seq.{paste, paste-suc, length_paste_head, get_or-append-add, get_or-drop, get_or-take, length-take-le, take-take, drop-drop, drop-append-le, drop-append-add, set-set, get_or-set_same}
use Rattle.types.specs.Numbers.{Id}
use Rattle.rules.specs.Table.{Entry, entry, Table}
use Rattle.rules.specs.Board.{Board, most_committees, most_members, on_committees}
use Rattle.tables.proofs.Tables.{pad_is}
use Rattle.tables.proofs.Ids.{id_words_lem}
use Rattle.board.specs.Layout.{committees_at, committee_width, members_at, committee_row, encode}
use Rattle.board.specs.Held.{roomy_committee, Holds, no_committee}
use Rattle.board.specs.Leaves.{change_at}
use Rattle.board.proofs.Widths.{committee_wide}
use Rattle.board.proofs.Sections.{held_wide, committees, row_lent, row_back, key_stored}
use Rattle.board.proofs.Fitting.{every_at, every_set, set_room, held_committees}

-- ---- a turn of the copying loop

module _ (t : List ℕ) (from to n : ℕ) (f : from + n ≤ length t) (o : to + n ≤ length t) (apart : from < to → from + n ≤ to) (k : ℕ) (l : k < n) where
  abbrev so_far : List ℕ
  so_far = paste t to (drop from t) k

  -- the next word is still there
  unwritten : get_or so_far (from + k) 0 ≡ get_or t (from + k) 0
  unwritten = go (ltb from to) refl
    where
      head : List ℕ
      head = take to t ++ take k (drop from t)

      size : length (take to t ++ take k (drop from t)) ≡ to + k
      size = length_paste_head t to (drop from t) k (omega arith) (omega (arith, length-drop from t))

      go : (c : Bool) → ltb from to ≡ c → get_or so_far (from + k) 0 ≡ get_or t (from + k) 0
      go true e =
          let below = apart (ltb-true from to e) in
          get_or-append (take to t ++ take k (drop from t)) _ 0 (from + k) (omega (arith, size))
          ∙ get_or-append (take to t) _ 0 (from + k) (omega (arith, length-take-le to t (omega arith)))
          ∙ get_or-take to t (from + k) 0 (omega arith)
      go false e =
          let past = ltb-false from to e in
          let p : from + k ≡ length (take to t ++ take k (drop from t)) + (from - to) = omega (arith, size) in
          let q : to + k + (from - to) ≡ from + k = omega arith in
          ap (λ (i : ℕ). get_or so_far i 0) p
          ∙ get_or-append-add (take to t ++ take k (drop from t)) (drop (to + k) t) (from - to) 0
          ∙ get_or-drop (to + k) t (from - to) 0
          ∙ ap (λ (i : ℕ). get_or t i 0) q

  pub one_copied : (u : List ℕ) → u ≡ so_far → set u (to + k) (get_or u (from + k) 0) ≡ paste t to (drop from t) (k + 1)
  one_copied u e =
      ap (λ (x : List ℕ). set x (to + k) (get_or x (from + k) 0)) e
      ∙ ap (λ (v : ℕ). set so_far (to + k) v) (unwritten ∙ sym (get_or-drop from t k 0))
      ∙ paste-suc t to (drop from t) k 0 (omega arith) (omega (arith, length-drop from t))
      ∙ ap (paste t to (drop from t)) (sym (add-one k))

-- ---- a row

drop_zeros : (n m : ℕ) → drop n (replicate {A = ℕ} m 0) ≡ replicate (m - n) 0
drop_zeros zero m = let e : m - 0 ≡ m = omega arith in rw e
drop_zeros (suc n) zero = let e : 0 - suc n ≡ 0 = omega arith in rw e
drop_zeros (suc n) (suc m) = let e : suc m - suc n ≡ m - n = omega arith in rw e (drop_zeros n m)

-- past its members
zeros_after : (e : Entry (List Id)) (n : ℕ) → length e.val ≤ n → n ≤ most_members → drop (members_at + 1 + n) (committee_row e) ≡ replicate (most_members - n) 0
unfolding committee_row
zeros_after e n l m =
    let s : members_at + 1 + n ≡ suc (suc n) = omega arith in
    let p : n ≡ length e.val + (n - length e.val) = omega arith in
    let q : most_members - length e.val - (n - length e.val) ≡ most_members - n = omega arith in
    ap (λ (i : ℕ). drop i (committee_row e)) s
    ∙ ap (drop (suc n)) (id_words_lem most_members e.val)
    ∙ ap (drop n) (pad_is most_members e.val (omega arith))
    ∙ ap (λ (i : ℕ). drop i (e.val ++ replicate (most_members - length e.val) 0)) p
    ∙ drop-append-add e.val (replicate (most_members - length e.val) 0) (n - length e.val)
    ∙ drop_zeros (n - length e.val) (most_members - length e.val)
    ∙ ap (λ (i : ℕ). replicate i 0) q

-- the first words of one row, and zeros that both have
joined : (d e : Entry (List Id)) (n : ℕ) → length d.val ≤ n → length e.val ≤ n → n ≤ most_members
    → take (members_at + 1 + n) (committee_row d) ++ drop (members_at + 1 + n) (committee_row e) ≡ committee_row d
joined d e n l m k =
    ap (λ (x : List ℕ). take (members_at + 1 + n) (committee_row d) ++ x) (zeros_after e n m k ∙ sym (zeros_after d n l k))
    ∙ take-append-drop (members_at + 1 + n) (committee_row d)

-- a row of w words at a, after which its first m words are those at i
written : (ws R S : List ℕ) (i a m w : ℕ) → m ≤ w → a + w ≤ length ws → take w (drop i ws) ≡ R → take w (drop a ws) ≡ S → length S ≡ w → take m R ++ drop m S ≡ R
    → paste ws a (drop i ws) m ≡ take a ws ++ (R ++ drop w (drop a ws))
written ws R S i a m w h l r s n e =
    let x : take m (drop i ws) ≡ take m R = sym (take-take m w (drop i ws) h) ∙ ap (take m) r in
    let y : drop (a + m) ws ≡ drop m S ++ drop w (drop a ws) =
    sym (drop-drop m a ws)
    ∙ ap (drop m) (sym (take-append-drop w (drop a ws)) ∙ ap (λ (z : List ℕ). z ++ drop w (drop a ws)) s)
    ∙ drop-append-le m S (drop w (drop a ws)) (omega arith) in
    rw (x, y)
    (append_assoc (take a ws) (take m R) (drop m S ++ drop w (drop a ws))
    ∙ ap (λ (z : List ℕ). take a ws ++ z) (sym (append_assoc (take m R) (drop m S) (drop w (drop a ws))) ∙ ap (λ (z : List ℕ). z ++ drop w (drop a ws)) e))

-- ---- a committee's row

module _ (ws : List ℕ) (b : Board) (h : Holds ws b) where
  abbrev cs : Table (List Id)
  cs = b.committees

  module _ (i j n : ℕ) (li : i < length cs) (lj : j < length cs) (mi : length (get_or cs i no_committee).val ≤ n) (mj : length (get_or cs j no_committee).val ≤ n) (m : n ≤ most_members) where
    abbrev from_at : ℕ
    from_at = committees_at + 1 + i * committee_width

    abbrev to_at : ℕ
    to_at = committees_at + 1 + j * committee_width

    row_words : paste ws to_at (drop from_at ws) (members_at + 1 + n) ≡ encode (on_committees (λ _. set cs j (get_or cs i no_committee)) b)
    row_words =
        let x : from_at + committee_width - from_at ≡ committee_width = omega arith in
        let y : to_at + committee_width - to_at ≡ committee_width = omega arith in
        let R : List ℕ = committee_row (get_or cs i no_committee) in
        let S : List ℕ = committee_row (get_or cs j no_committee) in
        let r : take committee_width (drop from_at ws) ≡ R = rw x at (row_lent committees ws b h i no_committee li) in
        let s : take committee_width (drop to_at ws) ≡ S = rw y at (row_lent committees ws b h j no_committee lj) in
        written ws R S from_at to_at (members_at + 1 + n) committee_width (omega arith) (omega (arith, held_wide ws b h, h.fits.committees)) r s (committee_wide (get_or cs j no_committee))
        (joined (get_or cs i no_committee) (get_or cs j no_committee) n mi mj m)
        ∙ rw y at (row_back committees ws b h j no_committee lj (get_or cs i no_committee) R refl)

    pub row_copied : (vs : List ℕ) → vs ≡ paste ws to_at (drop from_at ws) (members_at + 1 + n) → Holds vs (on_committees (λ t. set t j (get_or t i no_committee)) b)
    row_copied vs e =
        held_committees ws b h vs (set cs j (get_or cs i no_committee)) (e ∙ row_words) (set_room most_committees cs j _ h.fits.committees)
        (every_set roomy_committee cs j _ h.fits.members (every_at roomy_committee cs i no_committee h.fits.members li))

-- the row that was emptied gets another shard
pub renamed : (ws : List ℕ) (b : Board) (j s : ℕ) → j < length b.committees → Holds ws (on_committees (change_at no_committee j (λ l. [])) b)
    → Holds (set ws (committees_at + 1 + j * committee_width) s) (on_committees (λ t. set t j (entry s [])) b)
unfolding committee_row roomy_committee
renamed ws b j s l h =
    let e : Entry (List Id) = entry (get_or b.committees j no_committee).key [] in
    let t : Table (List Id) = set b.committees j e in
    let c = on_committees (λ _. t) b in
    let g : set (committee_row (get_or t j no_committee)) 0 s ≡ committee_row (entry s []) = ap (λ (x : Entry (List Id)). set (committee_row x) 0 s) (get_or-set_same b.committees j e no_committee l) in
    let q : set t j (entry s []) ≡ set b.committees j (entry s []) = set-set b.committees j e (entry s []) in
    held_committees ws c h _ (set b.committees j (entry s []))
    (key_stored committees ws c h j no_committee (rw (length-set b.committees j e) l) (entry s []) s (omega arith) g ∙ ap (λ (x : Table (List Id)). encode (on_committees (λ _. x) b)) q)
    (rw (← q) (set_room most_committees t j (entry s []) h.fits.committees))
    (rw (← q) (every_set roomy_committee t j (entry s []) h.fits.members refl))
