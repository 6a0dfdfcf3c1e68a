-- The moves on machines and committees, by key, as the leaves do them at a row.
use Prim.Native.Nat.{ℕ, ◌≤◌, ◌<◌}
use mathlib.Core.Path.{◌≡◌, ap, sym, ◌∙◌}
use mathlib.Core.List.{List, [], ◌∷◌, ◌++◌}
use mathlib.Core.Option.{none}
use lib.ListN.{length, get_or}
use Rattle.types.specs.Numbers.{Shard, Id}
use Rattle.types.specs.declared.Place.{Place}
use Rattle.rules.specs.Lists.{strike}
use Rattle.rules.specs.Table.{entry, Table, at}
use Rattle.rules.specs.Board.{Board, on_machines, on_committees}
use Rattle.rules.specs.Moves.{members_of, place, join, quit}
use Rattle.tables.specs.Rows.{Rising, key_of, place_of, insert_at}
use Rattle.tables.proofs.Keys.{at_is, update_none, put_is_insert_at, first_most}
use Rattle.board.specs.Held.{no_machine, no_committee}
use Rattle.board.specs.Leaves.{change_at}
use Rattle.board.proofs.Fitting.{insert_at_lem, set_insert}
use Rattle.board.proofs.Keyed.{update_is_change, put_is_change}

-- ---- a machine's place

module _ (b : Board) (x : Id) (f : Place → Place) where
  pub place_at : (i : ℕ) → Rising key_of b.machines → i < length b.machines → (get_or b.machines i no_machine).key ≡ x → place x f b ≡ on_machines (change_at no_machine i f) b
  unfolding place
  place_at i r h e = ap (λ (t : Table Place). on_machines (λ _. t) b) (update_is_change b.machines r x i no_machine h e f)

  pub place_none : at x b.machines ≡ none → place x f b ≡ b
  unfolding place
  place_none q = ap (λ (t : Table Place). on_machines (λ _. t) b) (update_none x f b.machines q)

-- ---- a member of a committee

module _ (b : Board) (s : Shard) where
  abbrev cs : Table (List Id)
  cs = b.committees

  -- the committee stands at row j
  module _ (j : ℕ) (r : Rising key_of cs) (h : j < length cs) (e : (get_or cs j no_committee).key ≡ s) where
    pub members_at_lem : members_of s b ≡ (get_or cs j no_committee).val
    unfolding members_of
    members_at_lem = rw (at_is cs r s j no_committee h e, members_of)

    pub join_at : (x : Id) → join s x b ≡ on_committees (change_at no_committee j (λ l. l ++ (x ∷ []))) b
    unfolding join
    join_at x = rw members_at_lem (ap (λ (t : Table (List Id)). on_committees (λ _. t) b) (put_is_change cs r s j no_committee h e ((get_or cs j no_committee).val ++ (x ∷ []))))

    pub quit_at : (x : Id) → quit s x b ≡ on_committees (change_at no_committee j (strike x)) b
    unfolding quit
    quit_at x = ap (λ (t : Table (List Id)). on_committees (λ _. t) b) (update_is_change cs r s j no_committee h e (strike x))

  -- the shard has no committee
  module _ (q : at s cs ≡ none) where
    pub members_none : members_of s b ≡ []
    unfolding members_of
    members_none = rw (q, members_of)

    pub quit_none : (x : Id) → quit s x b ≡ b
    unfolding quit
    quit_none x = ap (λ (t : Table (List Id)). on_committees (λ _. t) b) (update_none s (strike x) cs q)

    -- 'opened if missing', then joined
    pub join_none : (x : Id) → Rising key_of cs
        → join s x b ≡ on_committees (change_at no_committee (place_of key_of s cs) (λ l. l ++ (x ∷ []))) (on_committees (λ t. insert_at t (place_of key_of s cs) (entry s [])) b)
    unfolding join
    join_none x r =
        let j = place_of key_of s cs in
        let m : j ≤ length cs = first_most _ cs in
        let g : get_or (insert_at cs j (entry s [])) j no_committee ≡ entry s [] = insert_at_lem cs j (entry s []) no_committee m in
        rw (members_none, g) (ap (λ (t : Table (List Id)). on_committees (λ _. t) b) (put_is_insert_at cs r s (x ∷ []) q ∙ sym (set_insert cs j (entry s []) (entry s (x ∷ [])) m)))
