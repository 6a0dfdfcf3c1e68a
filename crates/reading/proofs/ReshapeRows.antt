-- A reshape told by its words in a snapshot: nine words, its seats and its halves.
use Prim.Native.Nat.{ℕ, ◌+◌, ◌≤◌, ◌<◌}
use mathlib.Core.Path.{◌≡◌, refl, ap, sym, subst, ◌∙◌}
use mathlib.Core.List.{List, [], ◌++◌, append_assoc, append-nil}
use mathlib.Core.Logic.{◌⊎◌, inl, inr}
use mathlib.Core.Bool.{Bool, true, false, false≢true}
use native.Mathlib.Omega.{arith}
use Rattle.std.specs.Prelude.{None, Some}
use Rattle.std.proofs.lemmas.Option.{none-some, same_Some}
use lib.ListN.{length, get_or, take, drop, length-append, length-drop, take-append-drop}
use lib.Seq.{get_or-drop, take_at, drop-drop, length-take-le}
use Rattle.rules.specs.Table.{Entry}
use Rattle.rules.specs.Board.{Reshape, most_half}
use Rattle.rules.specs.WellFormed.{good_reshape}
use Rattle.rules.specs.Snapshot.{section, id_words, seat_words, reshape_words}
use Rattle.rules.proofs.Tests.{all_parts}
use Rattle.shifts.proofs.Parts.{gets_all}
use Rattle.board.specs.Layout.{reshape_head, reshape_row}
use Rattle.board.proofs.Widths.{head_wide}
use Rattle.word_tests.specs.Tests.{at, all_pass, any_pass, rises}
use Rattle.row_tests.specs.declared.RowKind.TheVariants.{Reshapes}
use Rattle.row_tests.specs.Rows.{reshape_head_ok, scheduled_ok}
use Rattle.row_tests.proofs.Reshapes.{join, fields_sound, fields_complete, reshape_of, head_is, reshape_good, halves_complete}
use Rattle.unpacking.proofs.Parts.{ends, follows}
use Rattle.id_lists.specs.Told.{IdsAt, TellsIdList}
use Rattle.reading.specs.Stream.{RowAt, TellsRow}
use Rattle.reading.specs.Reshape.{TellsSeats, ListsAt, TellsLists}
use Rattle.reading.proofs.Streams.{none_told}

-- ---- the seats and the halves

ids_count : {cap : ℕ} {ws : List ℕ} {a e : ℕ} (p : IdsAt cap ws a e) → get_or ws a 0 ≡ length p.ids
unfolding section
ids_count {cap} {ws} {a} p =
    let a0 : a ≡ a + 0 = omega arith in
    ap (at ws) a0 ∙ sym (get_or-drop a ws 0 0) ∙ ap (λ (u : List ℕ). at u 0) p.words

module _ (head ws : List ℕ) (a : ℕ) where
  -- no such lists stand there
  lists_none : ((e : ℕ) → ListsAt head ws a e → ⊥) → TellsLists head ws a None
  lists_none f = record { yes = tt; held = λ e p. absurd (f e p) }

  pub no_seats : TellsSeats (at head 0) ws a None → TellsLists head ws a None
  no_seats seats = lists_none (λ e p. none-some _ (seats.held p.halves p.seated))

  module _ (h : ℕ) (seats : TellsSeats (at head 0) ws a (Some h)) where
    same_halves : (e : ℕ) (p : ListsAt head ws a e) → h ≡ p.halves
    same_halves e p = same_Some _ _ (seats.held p.halves p.seated)

    left_there : (e : ℕ) (p : ListsAt head ws a e) → IdsAt most_half ws h p.middle
    left_there e p = subst (λ (k : ℕ). IdsAt most_half ws k p.middle) (sym (same_halves e p)) p.left

    pub no_left : TellsIdList most_half ws h None → TellsLists head ws a None
    no_left left = lists_none (λ e p. none-some _ (left.held p.middle (left_there e p)))

    module _ (m : ℕ) (left : TellsIdList most_half ws h (Some m)) where
      same_middle : (e : ℕ) (p : ListsAt head ws a e) → m ≡ p.middle
      same_middle e p = same_Some _ _ (left.held p.middle (left_there e p))

      right_there : (e : ℕ) (p : ListsAt head ws a e) → IdsAt most_half ws m e
      right_there e p = subst (λ (k : ℕ). IdsAt most_half ws k e) (sym (same_middle e p)) p.right

      pub no_right : TellsIdList most_half ws m None → TellsLists head ws a None
      no_right right = lists_none (λ e p. none-some _ (right.held e (right_there e p)))

      -- by the counts of the halves
      module _ (r : ℕ) (right : TellsIdList most_half ws m (Some r)) (x y : ℕ) (ex : x ≡ get_or ws h 0) (ey : y ≡ get_or ws m 0) where
        pub not_scheduled : scheduled_ok (at head 1) (at head 5) x y ≡ false → TellsLists head ws a None
        not_scheduled f = lists_none (λ e p.
            let x' : x ≡ length p.left.ids = ex ∙ ap (at ws) (same_halves e p) ∙ ids_count p.left in
            let y' : y ≡ length p.right.ids = ey ∙ ap (at ws) (same_middle e p) ∙ ids_count p.right in
            false≢true (sym f ∙ rw (x', y') p.scheduled))

        pub lists_told : scheduled_ok (at head 1) (at head 5) x y ≡ true → TellsLists head ws a (Some r)
        lists_told ok =
            let l = left.yes m refl in
            let q = right.yes r refl in
            record {
              yes = record {
                halves = h;
                middle = m;
                seated = seats.yes;
                left = l;
                right = q;
                scheduled = rw (ex ∙ ids_count l, ey ∙ ids_count q) at ok;
              };
              held = λ e p. right.held e (right_there e p);
            }

-- ---- the row

row_parts : (v : Entry Reshape) → reshape_words v ≡ reshape_head v ++ (section seat_words v.val.seats ++ (section id_words v.val.left ++ section id_words v.val.right))
unfolding reshape_head reshape_words
row_parts v = refl

row_long : (v : Entry Reshape) → length (reshape_words v) ≡ 9 + (length (section seat_words v.val.seats) + (length (section id_words v.val.left) + length (section id_words v.val.right)))
row_long v =
    let S = section seat_words v.val.seats in
    let L = section id_words v.val.left in
    let R = section id_words v.val.right in
    ap length (row_parts v) ∙ omega (arith, length-append (reshape_head v) (S ++ (L ++ R)), head_wide v, length-append S (L ++ R), length-append L R)

-- the order is by the target alone
order_is : (v : Entry Reshape) (t u : List ℕ) → at t 0 ≡ v.key → rises false (reshape_row v) u ≡ rises false t u
unfolding reshape_row reshape_head reshape_words any_pass all_pass
order_is v t u e = rw e

head_key : (v : Entry Reshape) → at (reshape_head v) 0 ≡ v.key
unfolding reshape_head reshape_words
head_key v = refl

module _ (last : Bool) (ws : List ℕ) (a : ℕ) where
  -- where a reshape stands: its first words, then its lists
  record There (e : ℕ) (v : Entry Reshape) : Type 0 where
    fits : a + 9 ≤ length ws
    first : take 9 (drop a ws) ≡ reshape_head v
    lists : ListsAt (reshape_head v) ws (a + 9) e

  there : (e : ℕ) (p : RowAt Reshapes last ws a e) → There e p.row
  unfolding reshape_head reshape_words good_reshape
  there e p =
      let v = p.row in
      let S = section seat_words v.val.seats in
      let L = section id_words v.val.left in
      let R = section id_words v.val.right in
      let Z = drop e ws in
      let g = (all_parts _ p.good).1.1.1.1.1 in
      let w : drop a ws ≡ reshape_head v ++ ((S ++ (L ++ R)) ++ Z) = p.words ∙ append_assoc (reshape_head v) (S ++ (L ++ R)) Z in
      let h = a + 9 + length S in
      let m = h + length L in
      let ds : drop (a + 9) ws ≡ S ++ ((L ++ R) ++ Z) = follows a (a + 9) ws (reshape_head v) ((S ++ (L ++ R)) ++ Z) w refl ∙ append_assoc S (L ++ R) Z in
      let dl : drop h ws ≡ L ++ (R ++ Z) = follows (a + 9) h ws S ((L ++ R) ++ Z) ds refl ∙ append_assoc L R Z in
      let dr : drop m ws ≡ R ++ Z = follows h m ws L (R ++ Z) dl refl in
      record {
        fits = omega (arith, ends a ws (reshape_head v) ((S ++ (L ++ R)) ++ Z) w (omega arith));
        first = ap (take 9) w ∙ take_at (reshape_head v) ((S ++ (L ++ R)) ++ Z) 9 refl;
        lists = record {
          halves = h;
          middle = m;
          seated = record { seats = v.val.seats; good = g.0; words = ds ∙ ap (λ (u : List ℕ). S ++ u) (sym (dl ∙ sym (append_assoc L R Z))); next = refl };
          left = record { ids = v.val.left; good = g.1.0; words = dl ∙ ap (λ (u : List ℕ). L ++ u) (sym dr); next = refl };
          right = record { ids = v.val.right; good = g.1.1.0; words = dr; next = omega (arith, p.next, row_long v) };
          scheduled = halves_complete v.val.kind v.val.terminal v.val.left v.val.right (length v.val.left) (length v.val.right) refl refl g.1.1.1.0;
        };
      }

  pub head_short : length ws < a + 9 → TellsRow Reshapes last ws a None
  head_short h = none_told Reshapes last ws a (λ e p. omega (arith, (there e p).fits))

  module _ (head : List ℕ) (read : head ≡ take 9 (drop a ws)) where
    same : (e : ℕ) (p : RowAt Reshapes last ws a e) → head ≡ reshape_head p.row
    same e p = read ∙ (there e p).first

    pub head_bad : reshape_head_ok head ≡ false → TellsRow Reshapes last ws a None
    head_bad h = none_told Reshapes last ws a (λ e p.
        false≢true (sym h ∙ ap reshape_head_ok (same e p ∙ sym (append-nil (reshape_head p.row))) ∙ fields_complete p.row [] p.good))

    lists_there : (e : ℕ) (p : RowAt Reshapes last ws a e) → ListsAt head ws (a + 9) e
    lists_there e p = subst (λ (t : List ℕ). ListsAt t ws (a + 9) e) (sym (same e p)) (there e p).lists

    pub no_lists : TellsLists head ws (a + 9) None → TellsRow Reshapes last ws a None
    no_lists told = none_told Reshapes last ws a (λ e p. none-some _ (told.held e (lists_there e p)))

    module _ (r : ℕ) (told : TellsLists head ws (a + 9) (Some r)) where
      same_last : (e : ℕ) (p : RowAt Reshapes last ws a e) → r ≡ e
      same_last e p = same_Some _ _ (told.held e (lists_there e p))

      pub reshape_falls : last ≡ false → rises false head (drop r ws) ≡ false → TellsRow Reshapes last ws a None
      reshape_falls l h = none_told Reshapes last ws a (λ e p. go e p p.order)
        where
          go : (e : ℕ) (p : RowAt Reshapes last ws a e) → (last ≡ true) ⊎ (rises false (reshape_row p.row) (drop e ws) ≡ true) → ⊥
          go e p (inl y) = false≢true (sym l ∙ y)
          go e p (inr y) =
              false≢true (sym h ∙ sym (order_is p.row head (drop r ws) (ap (λ (u : List ℕ). at u 0) (same e p) ∙ head_key p.row))
              ∙ ap (λ (m : ℕ). rises false (reshape_row p.row) (drop m ws)) (same_last e p) ∙ y)

      pub reshape_told : a + 9 ≤ length ws → reshape_head_ok head ≡ true → (last ≡ true) ⊎ (rises false head (drop r ws) ≡ true) → TellsRow Reshapes last ws a (Some r)
      reshape_told room ok o =
          let p = told.yes in
          let f = fields_sound head ok in
          let v = reshape_of f p.seated.seats p.left.ids p.right.ids in
          let S = section seat_words p.seated.seats in
          let L = section id_words p.left.ids in
          let R = section id_words p.right.ids in
          let Z = drop r ws in
          let long : length head ≡ 9 = ap length read ∙ length-take-le 9 (drop a ws) (omega (arith, length-drop a ws)) in
          let nine : take 9 (drop a ws) ≡ reshape_head v = sym read ∙ gets_all 9 head long ∙ head_is f p.seated.seats p.left.ids p.right.ids in
          let rest : drop 9 (drop a ws) ≡ S ++ (L ++ (R ++ Z)) =
          drop-drop 9 a ws ∙ p.seated.words ∙ ap (λ (u : List ℕ). S ++ u) (p.left.words ∙ ap (λ (u : List ℕ). L ++ u) p.right.words) in
          let back : reshape_head v ++ (S ++ (L ++ (R ++ Z))) ≡ reshape_words v ++ Z =
          sym (ap (λ (u : List ℕ). u ++ Z) (row_parts v) ∙ append_assoc (reshape_head v) (S ++ (L ++ R)) Z
          ∙ ap (λ (u : List ℕ). reshape_head v ++ u) (append_assoc S (L ++ R) Z ∙ ap (λ (u : List ℕ). S ++ u) (append_assoc L R Z))) in
          record {
            yes = record {
              row = v;
              good = reshape_good f p.seated.seats p.left.ids p.right.ids p.seated.good p.left.good p.right.good refl refl p.scheduled;
              words = sym (take-append-drop 9 (drop a ws)) ∙ join nine rest ∙ back;
              next = omega (arith, p.seated.next, p.left.next, p.right.next, row_long v);
              order = go v refl o;
            };
            held = λ e p. ap Some (same_last e p);
          }
        where
          go : (v : Entry Reshape) → at head 0 ≡ v.key → (last ≡ true) ⊎ (rises false head (drop r ws) ≡ true)
              → (last ≡ true) ⊎ (rises false (reshape_row v) (drop r ws) ≡ true)
          go v e (inl y) = inl y
          go v e (inr y) = inr (order_is v head (drop r ws) e ∙ y)
