-- A committee's members while the seated are taken out: those kept, in front, and those to come.
use Prim.Native.Nat.{ℕ, ◌+◌, ◌-◌, ◌*◌, ◌≤◌, ◌<◌}
use mathlib.Core.Path.{◌≡◌, refl, ap, sym, ◌∙◌}
use mathlib.Core.List.{List, ◌++◌}
use mathlib.Core.Option.{none}
use mathlib.Core.Bool.{Bool, true}
use native.Mathlib.Omega.{arith}
use borrow.Rule.Slice.PartMut.{put_mid}
use lib.ListN.{length, get_or, set, take, drop, length-drop, length-set, take-append-drop}
use lib.Seq.{set-set, set-get_or, get_or-set_same, length-take-le}
use Rattle.types.specs.Numbers.{Shard, Id}
use Rattle.rules.specs.Lists.{bit_of, keep}
use Rattle.rules.specs.Table.{Entry, entry, Table, at, update}
use Rattle.rules.specs.Board.{Board, most_members, on_committees}
use Rattle.rules.specs.WellFormed.{well_formed}
use Rattle.shifts.proofs.Parts.{Spot, spot_store}
use Rattle.tables.proofs.Keys.{update_none}
use Rattle.tables.proofs.Sifted.{id_set, Sifted, sifted_none, sifted_few, sifted_next, sifted_more, sifted_all}
use Rattle.board.specs.Layout.{board_size, committees_at, committee_width, members_at}
use Rattle.board.specs.Held.{Holds, no_committee}
use Rattle.board.specs.Leaves.{change_at}
use Rattle.board.proofs.Fitting.{held_as}
use Rattle.board.proofs.Keyed.{committees_rise, update_is_change}
use Rattle.board.proofs.OfCommittees.{members_room, members_lent, members_back}

-- a store in a part is a store in the whole
part_stored : (ws : List ℕ) (a n c v : ℕ) → a + n ≤ length ws → c < n → set ws (a + c) v ≡ put_mid a n ws (set (take n (drop a ws)) c v)
part_stored ws a n c v h l =
    let spot : Spot {A = List ℕ} (λ p. p) (λ p. take a ws ++ (p ++ drop n (drop a ws))) a =
    record { front = take a ws; back = drop n (drop a ws); is = λ p. refl; size = length-take-le a ws (omega arith) } in
    spot_store spot (take n (drop a ws)) (set (take n (drop a ws)) c v) ws (a + c) c v
    (sym (ap (λ (y : List ℕ). take a ws ++ y) (take-append-drop n (drop a ws)) ∙ take-append-drop a ws)) refl
    (omega (arith, length-take-le n (drop a ws) (omega (arith, length-drop a ws)))) refl

pub member_stored : (ws : List ℕ) (b : Board) (h : Holds ws b) (j : ℕ) → length ws ≡ board_size → j < length b.committees → (m v : ℕ) → m < length (get_or b.committees j no_committee).val
    → Holds (set ws (committees_at + 1 + j * committee_width + members_at + (1 + m)) v) (on_committees (change_at no_committee j (λ l. set l m v)) b)
member_stored ws b h j w l m v k =
    let members : List ℕ = (get_or b.committees j no_committee).val in
    let room = members_room ws b h j l in
    let inside = h.fits.committees in
    rw (part_stored ws (committees_at + 1 + j * committee_width + members_at) (committees_at + 1 + j * committee_width + members_at + (1 + most_members) - (committees_at + 1 + j * committee_width + members_at)) (1 + m) v (omega arith) (omega arith))
    (members_back ws b h j l (λ x. set x m v)
    (set (take (committees_at + 1 + j * committee_width + members_at + (1 + most_members) - (committees_at + 1 + j * committee_width + members_at)) (drop (committees_at + 1 + j * committee_width + members_at) ws)) (1 + m) v)
    (rw (members_lent ws b h j l) (id_set most_members members room m v k)) (rw (length-set members m v) room))

-- ---- the loop

changed_twice : {A : Type 0} (t : Table A) (d : Entry A) (j : ℕ) (f : A → A) (v : A) → j < length t → change_at d j f (change_at d j (λ _. v) t) ≡ change_at d j (λ _. f v) t
changed_twice t d j f v l = rw (get_or-set_same t j (entry (get_or t j d).key v) d l) (set-set t j (entry (get_or t j d).key v) (entry (get_or t j d).key (f v)))

abbrev members_in : ℕ → Board → List Id
members_in j b = (get_or b.committees j no_committee).val

-- m of the members of the committee at j have been tried, and k of them kept
pub record Halfway (f : Id → Bool) (b : Board) (j m k : ℕ) (ws : List ℕ) : Type 0 where
  pub members : List Id
  pub held : Holds ws (on_committees (change_at no_committee j (λ _. members)) b)
  pub sifted : Sifted f (members_in j b) m k members

module _ (f : Id → Bool) (b : Board) (j : ℕ) (l : j < length b.committees) (ws : List ℕ) where
  abbrev all : List Id
  all = members_in j b

  pub none_tried : Holds ws b → Halfway f b j 0 0 ws
  none_tried h = record {
    members = all;
    held = held_as ws _ _ (ap (λ (t : Table (List Id)). on_committees (λ _. t) b) (sym (set-get_or b.committees j no_committee))) h;
    sifted = sifted_none f all;
  }

  module _ (m k : ℕ) (w : Halfway f b j m k ws) (after : List ℕ) where
    abbrev halfway : Board
    halfway = on_committees (change_at no_committee j (λ _. w.members)) b

    stands_there : j < length halfway.committees
    stands_there = rw (length-set b.committees j (entry (get_or b.committees j no_committee).key w.members)) l

    members_there : members_in j halfway ≡ w.members
    members_there = ap (λ (e : Entry (List Id)). e.val) (get_or-set_same b.committees j (entry (get_or b.committees j no_committee).key w.members) no_committee l)

    changed : (g : List Id → List Id) → Holds after (on_committees (change_at no_committee j g) halfway) → Holds after (on_committees (change_at no_committee j (λ _. g w.members)) b)
    changed g h = held_as after _ _ (ap (λ (t : Table (List Id)). on_committees (λ _. t) b) (changed_twice b.committees no_committee j g w.members l)) h

    pub one_tried : m < length all → k ≤ m → (x : Id)
        → ((c : Board) → Holds ws c → j < length c.committees → m < length (members_in j c) → x ≡ get_or (members_in j c) m 0)
        → ((c : Board) → Holds ws c → j < length c.committees → k < length (members_in j c) → Holds after (on_committees (change_at no_committee j (λ s. set s k x)) c))
        → (r : ℕ) → ((c : Board) → Holds after c → c.reshapes ≡ b.reshapes → r ≡ bit_of (f x)) → Halfway f b j (m + 1) (k + r) after
    one_tried n o x read store r told =
        let is : x ≡ get_or all m 0 =
        read halfway w.held stands_there (rw members_there (omega (arith, w.sifted.size))) ∙ rw members_there (sifted_next f all m k w.members w.sifted) in
        let held : Holds after (on_committees (change_at no_committee j (λ _. set w.members k x)) b) =
        changed (λ s. set s k x) (store halfway w.held stands_there (rw members_there (omega (arith, w.sifted.size)))) in
        let bit : r ≡ bit_of (f x) = told _ held refl in
        record {
          members = set w.members k x;
          held = held;
          sifted = sifted_more f all m k w.members w.sifted n o x is (k + r) (ap (λ (y : ℕ). k + y) bit);
        }

    pub all_tried : length all ≤ m → ((c : Board) → Holds ws c → j < length c.committees → k ≤ length (members_in j c) → Holds after (on_committees (change_at no_committee j (take k)) c))
        → Holds after (on_committees (change_at no_committee j (keep f)) b)
    all_tried n cut =
        held_as after _ _ (ap (λ (s : List Id). on_committees (change_at no_committee j (λ _. s)) b) (sifted_all f all m k w.members w.sifted n))
        (changed (take k) (cut halfway w.held stands_there (rw members_there (sifted_few f all m k w.members w.sifted))))

-- ---- the shard's committee, at the row that was found

module _ (b : Board) (s : Shard) (g : List Id → List Id) (after : List ℕ) where
  pub no_committee_lem : at s b.committees ≡ none → Holds after b → Holds after (on_committees (update s g) b)
  no_committee_lem n h = held_as after _ _ (ap (λ (t : Table (List Id)). on_committees (λ _. t) b) (sym (update_none s g b.committees n))) h

  pub committee_changed : well_formed b ≡ true → (j : ℕ) → j < length b.committees → (get_or b.committees j no_committee).key ≡ s → Holds after (on_committees (change_at no_committee j g) b)
      → Holds after (on_committees (update s g) b)
  committee_changed ok j l k h =
      held_as after _ _ (ap (λ (t : Table (List Id)). on_committees (λ _. t) b) (sym (update_is_change b.committees (committees_rise b ok) s j no_committee l k g))) h
