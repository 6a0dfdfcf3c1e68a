-- A committee told by its shard and the list of its members.
use Prim.Native.Nat.{ℕ, ◌+◌, ◌≤◌, ◌<◌}
use mathlib.Core.Path.{◌≡◌, refl, ap, sym, ◌∙◌}
use mathlib.Core.List.{List, [], ◌∷◌}
use mathlib.Core.Logic.{◌⊎◌, inl, inr}
use mathlib.Core.Bool.{Bool, true, false, false≢true}
use native.Mathlib.Omega.{arith}
use native.Mathlib.Numerals.{add-one}
use lib.Dec.{ltb}
use Rattle.std.specs.Prelude.{None, Some}
use Rattle.std.proofs.lemmas.Option.{none-some, same_Some}
use lib.ListN.{length, get_or, drop}
use lib.Seq.{drop-cons}
use Rattle.types.specs.Numbers.{Id}
use Rattle.rules.specs.Table.{entry}
use Rattle.rules.specs.Board.{most_members}
use Rattle.rules.specs.WellFormed.{is_shard, good_committee}
use Rattle.rules.specs.Snapshot.{committee_words}
use Rattle.rules.proofs.Tests.{and_parts, and_joins}
use Rattle.board.specs.Layout.{committee_row}
use Rattle.row_tests.specs.declared.RowKind.TheVariants.{Committees}
use Rattle.word_tests.specs.Tests.{rises}
use Rattle.unpacking.proofs.Parts.{ends, follows}
use Rattle.id_lists.specs.Told.{IdsAt, TellsIdList}
use Rattle.reading.specs.Stream.{RowAt, TellsRow}
use Rattle.reading.proofs.Streams.{none_told, rises_one}

-- the order is by the shard alone
order_is : (ws : List ℕ) (e s : ℕ) (l : List Id) → ltb s (get_or ws e 0) ≡ rises false (committee_row (entry s l)) (drop e ws)
unfolding committee_row
order_is ws e s l = rises_one (committee_row (entry s l)) ws e (get_or ws e 0) refl

module _ (last : Bool) (ws : List ℕ) (a : ℕ) where
  -- where a committee stands, its shard and its members do
  record There (e : ℕ) (p : RowAt Committees last ws a e) : Type 0 where
    room : a < length ws
    shard : get_or ws a 0 ≡ p.row.key
    members : IdsAt most_members ws (a + 1) e

  there : (e : ℕ) (p : RowAt Committees last ws a e) → There e p
  unfolding committee_words good_committee
  there e p =
      let r : a < length ws = omega (arith, ends a ws (committee_words p.row) (drop e ws) p.words (omega arith)) in
      record {
        room = r;
        shard = ap (λ (u : List ℕ). get_or u 0 0) (sym (drop-cons ws a 0 r) ∙ p.words);
        members = record {
          ids = p.row.val;
          good = (and_parts _ _ p.good).1;
          words = follows a (a + 1) ws (p.row.key ∷ []) _ p.words refl;
          next = omega (arith, p.next);
        };
      }

  pub committee_past : length ws ≤ a → TellsRow Committees last ws a None
  committee_past h = none_told Committees last ws a (λ e p. omega (arith, (there e p).room))

  pub committee_misnamed : is_shard (get_or ws a 0) ≡ false → TellsRow Committees last ws a None
  unfolding good_committee
  committee_misnamed h = none_told Committees last ws a (λ e p. false≢true (sym h ∙ ap is_shard (there e p).shard ∙ (and_parts _ _ p.good).0))

  pub members_none : TellsIdList most_members ws (a + 1) None → TellsRow Committees last ws a None
  members_none told = none_told Committees last ws a (λ e p. none-some _ (told.held e (there e p).members))

  module _ (r : ℕ) (told : TellsIdList most_members ws (a + 1) (Some r)) where
    same_end : (e : ℕ) (p : RowAt Committees last ws a e) → r ≡ e
    same_end e p = same_Some _ _ (told.held e (there e p).members)

    pub committee_falls : last ≡ false → ltb (get_or ws a 0) (get_or ws r 0) ≡ false → TellsRow Committees last ws a None
    committee_falls l h = none_told Committees last ws a (λ e p. go e p p.order)
      where
        go : (e : ℕ) (p : RowAt Committees last ws a e) → (last ≡ true) ⊎ (rises false (committee_row p.row) (drop e ws) ≡ true) → ⊥
        go e p (inl y) = false≢true (sym l ∙ y)
        go e p (inr y) =
            false≢true (sym h ∙ ap (λ (s : ℕ). ltb s (get_or ws r 0)) (there e p).shard ∙ ap (λ (k : ℕ). ltb p.row.key (get_or ws k 0)) (same_end e p)
            ∙ order_is ws e p.row.key p.row.val ∙ y)

    pub committee_told : a < length ws → is_shard (get_or ws a 0) ≡ true → (last ≡ true) ⊎ (ltb (get_or ws a 0) (get_or ws r 0) ≡ true) → TellsRow Committees last ws a (Some r)
    unfolding committee_words good_committee
    committee_told room ok o =
        let m = told.yes r refl in
        let s = get_or ws a 0 in
        record {
          yes = record {
            row = entry s m.ids;
            good = and_joins _ _ ok m.good;
            words = drop-cons ws a 0 room ∙ ap (λ (k : ℕ). s ∷ drop k ws) (sym (add-one a)) ∙ ap (λ (u : List ℕ). s ∷ u) m.words;
            next = omega (arith, m.next);
            order = go o;
          };
          held = λ e p. ap Some (same_end e p);
        }
      where
        go : (last ≡ true) ⊎ (ltb (get_or ws a 0) (get_or ws r 0) ≡ true) → (last ≡ true) ⊎ (rises false (committee_row (entry (get_or ws a 0) (told.yes r refl).ids)) (drop r ws) ≡ true)
        go (inl y) = inl y
        go (inr y) = inr (sym (order_is ws r (get_or ws a 0) (told.yes r refl).ids) ∙ y)
