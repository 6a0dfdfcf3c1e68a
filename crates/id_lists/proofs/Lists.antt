-- A list of ids told by its count and the words after it.
use Prim.Native.Nat.{ℕ, ◌+◌, ◌≤◌, ◌<◌}
use mathlib.Core.Path.{◌≡◌, refl, ap, sym, subst, ◌∙◌}
use mathlib.Core.List.{List, [], ◌∷◌, ◌++◌}
use mathlib.Core.Bool.{true, false, false≢true}
use native.Mathlib.Omega.{arith}
use native.Mathlib.Numerals.{add-one}
use borrow.Author.Tests.{leb-true, le-leb}
use lib.ListN.{length, get_or, take, drop, length-drop, take-append-drop}
use lib.Seq.{drop-cons, drop-drop, get_or-drop, take_at, length-take-le}
use Rattle.types.specs.Numbers.{Id}
use Rattle.rules.specs.Lists.{distinct}
use Rattle.rules.specs.WellFormed.{good_ids}
use Rattle.rules.specs.Snapshot.{section, id_words}
use Rattle.rules.proofs.Tests.{all_parts, all_joins}
use Rattle.tables.proofs.Ids.{id_rows}
use Rattle.word_tests.proofs.Decides.{Words, words_cut}
use Rattle.unpacking.proofs.Parts.{ends, follows}
use Rattle.std.specs.Prelude.{Option, Some, None}
use Rattle.id_lists.specs.Told.{IdsAt, TellsIdList}
use Rattle.id_lists.proofs.Places.{from}

pub some_same : {x y : ℕ} → ◌≡◌ {A = Option ℕ} (Some x) (Some y) → x ≡ y
some_same p = cc

pub list_words : (l : List Id) → section id_words l ≡ length l ∷ l
unfolding section
list_words l = ap (λ (u : List ℕ). length l ∷ u) (id_rows l)

module _ (cap : ℕ) (ws : List ℕ) (at n : ℕ) (count : n ≡ get_or ws at 0) where
  -- where a list stands, it is of n
  record There (e : ℕ) (p : IdsAt cap ws at e) : Type 0 where
    many : length p.ids ≡ n
    next' : e ≡ at + 1 + n
    fits : at + 1 + n ≤ length ws
    same : from n (at + 1) ws ≡ p.ids

  there : (e : ℕ) (p : IdsAt cap ws at e) → There e p
  there e p =
      let l = p.ids in
      let w : drop at ws ≡ length l ∷ (l ++ drop e ws) = p.words ∙ ap (λ (u : List ℕ). u ++ drop e ws) (list_words l) in
      let z : at + 0 ≡ at = omega arith in
      let c : length l ≡ n = sym (count ∙ ap (λ (k : ℕ). get_or ws k 0) (sym z) ∙ sym (get_or-drop at ws 0 0) ∙ ap (λ (u : List ℕ). get_or u 0 0) w) in
      record {
        many = c;
        next' = omega (arith, p.next, ap length (list_words l));
        fits = omega (arith, ends at ws (length l ∷ l) (drop e ws) w (omega arith));
        same = ap (take n) (follows at (at + 1) ws (length l ∷ []) (l ++ drop e ws) w refl) ∙ take_at l (drop e ws) n c;
      }

  none : ((e : ℕ) → IdsAt cap ws at e → ⊥) → TellsIdList cap ws at None
  none h = record { yes = λ e p. absurd (cc); held = λ e p. absurd (h e p) }

  pub ids_short : length ws < at + 1 + n → TellsIdList cap ws at None
  ids_short h = none (λ e p. omega (arith, (there e p).fits))

  pub ids_many : cap < n → TellsIdList cap ws at None
  unfolding good_ids
  ids_many h = none (λ e p. omega (arith, (there e p).many, leb-true (length p.ids) cap (all_parts _ p.good).0))

  pub ids_twice : false ≡ distinct (from n (at + 1) ws) → TellsIdList cap ws at None
  unfolding good_ids
  ids_twice h = none (λ e p. false≢true (h ∙ ap distinct (there e p).same ∙ (all_parts _ p.good).1.1.0))

  pub ids_told : n ≤ cap → at + 1 + n ≤ length ws → Words ws → true ≡ distinct (from n (at + 1) ws) → TellsIdList cap ws at (Some (at + 1 + n))
  unfolding good_ids
  ids_told few room v d =
      let l = from n (at + 1) ws in
      let long : length l ≡ n = length-take-le n (drop (at + 1) ws) (omega (arith, length-drop (at + 1) ws)) in
      let rest : drop (at + 1) ws ≡ l ++ drop (at + 1 + n) ws = sym (take-append-drop n (drop (at + 1) ws)) ∙ ap (λ (u : List ℕ). l ++ u) (drop-drop n (at + 1) ws) in
      let first : drop at ws ≡ length l ∷ drop (at + 1) ws =
      drop-cons ws at 0 (omega arith) ∙ ap (λ (k : ℕ). get_or ws at 0 ∷ drop k ws) (sym (add-one at)) ∙ ap (λ (k : ℕ). k ∷ drop (at + 1) ws) (sym (long ∙ count)) in
      let ids : IdsAt cap ws at (at + 1 + n) = record {
        ids = l;
        good = all_joins _ (le-leb (length l) cap (omega arith), ((words_cut n (drop (at + 1) ws) (words_cut (at + 1) ws v).1).0, (sym d, tt)));
        words = first ∙ ap (λ (u : List ℕ). length l ∷ u) rest ∙ ap (λ (u : List ℕ). u ++ drop (at + 1 + n) ws) (sym (list_words l));
        next = omega (arith, long, ap length (list_words l));
      } in
      record { yes = λ e p. subst (IdsAt cap ws at) (some_same p) ids; held = λ e p. ap Some (sym (there e p).next') }
