-- A committee's row: the shard, and the members' table.
use Prim.Native.Nat.{ℕ, ◌+◌, ◌-◌, ◌*◌, ◌≤◌, ◌<◌}
use mathlib.Core.Path.{◌≡◌, refl, ap, ◌∙◌}
use mathlib.Core.List.{List, []}
use mathlib.Core.Bool.{true}
use native.Mathlib.Omega.{arith}
use borrow.Author.Tests.{leb-true, le-leb}
use borrow.Rule.Slice.PartMut.{put_mid}
use lib.ListN.{length, get_or, set, take, drop, replicate}
use Rattle.types.specs.Numbers.{Id}
use Rattle.rules.specs.Lists.{strike}
use Rattle.rules.specs.Table.{Entry, entry, Table}
use Rattle.rules.specs.Board.{Board, most_committees, most_members, on_committees}
use Rattle.rules.specs.Snapshot.{id_words, rows_words}
use Rattle.tables.specs.Rows.{pad, id_table, insert_at}
use Rattle.tables.proofs.Tables.{table_length}
use Rattle.tables.proofs.Drops.{keep_most}
use Rattle.board.specs.Layout.{committee_width, committees_at, members_at, committee_row, encode}
use Rattle.board.specs.Held.{roomy_committee, Holds, no_committee}
use Rattle.board.specs.Leaves.{change_at}
use Rattle.board.proofs.Sections.{committees, members_spot, key_stored, part_lent, part_back}
use Rattle.board.proofs.Fitting.{every_at, every_set, insert_at_lem, set_insert, insert_length, set_room, held_committees}

pub committee_key : (e : Entry (List Id)) → get_or (committee_row e) 0 0 ≡ e.key
unfolding committee_row
committee_key e = refl

-- no committee is written as zeros; with a shard, it has no members
pub no_committee_lem : committee_row no_committee ≡ replicate committee_width 0
unfolding committee_row rows_words pad
no_committee_lem = refl

pub shard_stored : (s : ℕ) → set (committee_row no_committee) 0 s ≡ committee_row (entry s [])
unfolding committee_row
shard_stored s = refl

roomy : (e : Entry (List Id)) → length e.val ≤ most_members → roomy_committee e ≡ true
unfolding roomy_committee
roomy e h = le-leb _ _ h

pub roomy_none : roomy_committee no_committee ≡ true
unfolding roomy_committee
roomy_none = refl

pub room_of : (e : Entry (List Id)) → roomy_committee e ≡ true → length e.val ≤ most_members
unfolding roomy_committee
room_of e h = leb-true _ _ h

pub strike_most : (x : ℕ) (l : List Id) → length (strike x l) ≤ length l
unfolding strike
strike_most x l = keep_most _ l

-- the members of the committee at j
module _ (ws : List ℕ) (b : Board) (h : Holds ws b) (j : ℕ) (l : j < length b.committees) where
  abbrev row : Entry (List Id)
  row = get_or b.committees j no_committee

  pub members_room : length row.val ≤ most_members
  members_room = room_of row (every_at roomy_committee b.committees j no_committee h.fits.members l)

  wide : length (id_table most_members row.val) ≡ 1 + most_members
  wide = table_length id_words 1 most_members row.val

  pub members_lent : take (committees_at + 1 + j * committee_width + members_at + (1 + most_members) - (committees_at + 1 + j * committee_width + members_at)) (drop (committees_at + 1 + j * committee_width + members_at) ws)
      ≡ id_table most_members row.val
  members_lent = part_lent committees ws b h j no_committee l (entry row.key) (members_spot row.key) row.val refl (1 + most_members) wide

  pub members_back : (f : List Id → List Id) (p : List ℕ) → p ≡ id_table most_members (f row.val) → length (f row.val) ≤ most_members
      → Holds (put_mid (committees_at + 1 + j * committee_width + members_at) (committees_at + 1 + j * committee_width + members_at + (1 + most_members) - (committees_at + 1 + j * committee_width + members_at)) ws p)
      (on_committees (change_at no_committee j f) b)
  members_back f p e m =
      held_committees ws b h _ (change_at no_committee j f b.committees)
      (part_back committees ws b h j no_committee l (entry row.key) (members_spot row.key) row.val refl (1 + most_members) wide (f row.val) p e)
      (set_room most_committees b.committees j _ h.fits.committees)
      (every_set roomy_committee b.committees j _ h.fits.members (roomy (entry row.key (f row.val)) m))

-- the row that `open_row` made at j gets its shard
pub committee_opened : (ws : List ℕ) (b : Board) (j s : ℕ) → Holds ws (on_committees (λ t. insert_at t j no_committee) b) → j ≤ length b.committees
    → Holds (set ws (committees_at + 1 + j * committee_width) s) (on_committees (λ t. insert_at t j (entry s [])) b)
committee_opened ws b j s h l =
    let t = insert_at b.committees j no_committee in
    let c = on_committees (λ _. t) b in
    let q : set t j (entry s []) ≡ insert_at b.committees j (entry s []) = set_insert b.committees j no_committee (entry s []) l in
    let g : set (committee_row (get_or t j no_committee)) 0 s ≡ committee_row (entry s []) = rw (insert_at_lem b.committees j no_committee no_committee l) (shard_stored s) in
    let e = key_stored committees ws c h j no_committee (omega (arith, insert_length b.committees j no_committee l)) (entry s []) s (omega arith) g in
    held_committees ws c h _ (insert_at b.committees j (entry s [])) (e ∙ ap (λ (x : Table (List Id)). encode (on_committees (λ _. x) b)) q)
    (rw (← q) (set_room most_committees t j (entry s []) h.fits.committees))
    (rw (← q) (every_set roomy_committee t j (entry s []) h.fits.members (roomy (entry s []) (omega arith))))
