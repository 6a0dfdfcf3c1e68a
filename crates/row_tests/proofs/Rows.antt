-- Each kind of flat row decided, and the settings.
use Prim.Native.Nat.{ℕ, zero, suc, ◌-◌, ◌≤◌, ◌<◌}
use mathlib.Core.Path.{◌≡◌, refl, ap, sym, ◌∙◌}
use mathlib.Core.List.{List, [], ◌∷◌}
use mathlib.Core.Logic.{inl, inr}
use mathlib.Core.Option.{Option, none, some}
use mathlib.Core.Bool.{Bool, true, false, ◌&&◌, or-false}
use native.Mathlib.Omega.{arith}
use borrow.Author.Tests.{leb-true, le-leb, lt-leb, eqb-true, eq-eqb, ne_eqb}
use lib.Dec.{eqb, leb}
use lib.ListN.{length, get_or, drop, length-drop}
use lib.Seq.{take_all}
use Rattle.types.specs.Numbers.{Id, Epoch}
use Rattle.types.specs.Places.{shard_id, epoch_at}
use Rattle.types.specs.declared.Place.{Place}
use Rattle.types.specs.declared.Place.TheVariants.{Pooled, Seated, Observing, Short, Other}
use Rattle.rules.specs.Lists.{bit_of}
use Rattle.rules.specs.Table.{Entry, entry}
use Rattle.rules.specs.Board.{Boundary, Rotation, most_members}
use Rattle.rules.specs.WellFormed.{within, is_stamp, good_option, good_place, good_machine, good_committee, good_boundary, good_rotation}
use Rattle.rules.specs.Snapshot.{flag_of, value_of, place_words, machine_words, boundary_words, rotation_words, is_one}
use Rattle.rules.proofs.Tests.{and_parts, and_joins, all_parts, all_joins}
use Rattle.shifts.proofs.Parts.{gets_all, between_length}
use Rattle.board.specs.Layout.{machine_width, members_at, committee_width, boundary_width, rotation_width, committee_row}
use Rattle.board.proofs.Widths.{machine_wide, committee_wide, boundary_wide, rotation_wide}
use Rattle.word_tests.specs.Tests.{at, between, all_pass, any_pass, ids_ok}
use Rattle.row_tests.specs.Rows.{case_ok, place_cases, machine_ok, committee_ok, option_ok, boundary_ok, rotation_ok}
use Rattle.word_tests.proofs.Tests.{Some, pass_parts, pass_joins, any_cases, any_joins}
use Rattle.word_tests.proofs.Decides.{Words, words_cut, word_at, Held, Decides, heads, ids_decides}

-- ---- parts of lists

pub between_words : (a e : ℕ) (t : List ℕ) → Words t → Words (between a e t)
between_words a e t ws = (words_cut (e - a) (drop a t) (words_cut a t ws).1).0

pub to_end : (a e : ℕ) (t : List ℕ) → length t ≤ e → between a e t ≡ drop a t
to_end a e t h = take_all (e - a) (drop a t) (omega (arith, length-drop a t))

-- ---- bits and options

pub bit_back : (n : ℕ) → n ≤ 1 → bit_of (is_one n) ≡ n
bit_back zero h = refl
bit_back (suc zero) h = refl
bit_back (suc (suc n)) h = absurd (omega arith)

pub bit_small : (c : Bool) → leb (bit_of c) 1 ≡ true
bit_small true = refl
bit_small false = refl

-- the flag and the value are those of a good option
pub record Optional (f v : ℕ) : Type 0 where
  pub value : Option Epoch
  pub flag : flag_of value ≡ f
  pub number : value_of value ≡ v
  pub fine : good_option value ≡ true

pub option_sound : (f v : ℕ) → option_ok f v ≡ true → Optional f v
unfolding option_ok flag_of value_of good_option
option_sound f v h = go (any_cases _ h)
  where
    go : Some (all_pass (eqb f 0 ∷ eqb v 0 ∷ []) ∷ all_pass (eqb f 1 ∷ is_stamp v ∷ []) ∷ []) → Optional f v
    go (inl q) = let y = pass_parts _ q in record { value = none; flag = sym (eqb-true f 0 y.0); number = sym (eqb-true v 0 y.1.0); fine = refl }
    go (inr (inl q)) = let y = pass_parts _ q in record { value = some v; flag = sym (eqb-true f 1 y.0); number = refl; fine = y.1.0 }
    go (inr (inr q)) = absurd q

pub option_complete : (o : Option Epoch) → good_option o ≡ true → option_ok (flag_of o) (value_of o) ≡ true
unfolding option_ok flag_of value_of good_option
option_complete none g = any_joins _ (inl (pass_joins _ (refl, (refl, tt))))
option_complete (some e) g = any_joins _ (inr (inl (pass_joins _ (refl, (g, tt)))))

-- ---- machines

record Case (c m r s k low high rm sm : ℕ) : Type 0 where
  code : c ≡ k
  mark : within low high m ≡ true
  ready : r ≤ rm
  stamp : leb s sm ≡ true

case_sound : (c m r s k low high rm sm : ℕ) → case_ok c m r s k low high rm sm ≡ true → Case c m r s k low high rm sm
unfolding case_ok
case_sound c m r s k low high rm sm h =
    let y = pass_parts _ h in
    record { code = eqb-true _ _ y.0; mark = y.1.0; ready = leb-true _ _ y.1.1.0; stamp = y.1.1.1.0 }

case_complete : (k low high rm sm m r s : ℕ) → within low high m ≡ true → leb r rm ≡ true → leb s sm ≡ true → case_ok k m r s k low high rm sm ≡ true
unfolding case_ok
case_complete k low high rm sm m r s b p q = pass_joins _ (eq-eqb k k refl, (b, (p, (q, tt))))

four : {a b c d a' b' c' d' : ℕ} → a ≡ a' → b ≡ b' → c ≡ c' → d ≡ d' → ◌≡◌ {A = List ℕ} (a ∷ b ∷ c ∷ d ∷ []) (a' ∷ b' ∷ c' ∷ d' ∷ [])
four p q r s = cc

nought : (n : ℕ) → leb n 0 ≡ true → n ≡ 0
nought n h = omega (arith, leb-true n 0 h)

place_sound : (c m r s : ℕ) → any_pass (place_cases c m r s) ≡ true → Held place_words good_place (c ∷ m ∷ r ∷ s ∷ [])
unfolding place_words good_place
place_sound c m r s h = go (any_cases _ h)
  where
    go : Some (place_cases c m r s) → Held place_words good_place (c ∷ m ∷ r ∷ s ∷ [])
    go (inl q) =
        let y = case_sound _ _ _ _ _ _ _ _ _ q in
        record { value = Pooled; words = four y.code (nought m (and_parts _ _ y.mark).1) (omega (arith, y.ready)) (nought s y.stamp); fine = refl }
    go (inr (inl q)) =
        let y = case_sound _ _ _ _ _ _ _ _ _ q in
        record { value = Seated (shard_id m) (is_one r) (epoch_at s); words = four y.code refl (sym (bit_back r y.ready)) refl; fine = and_joins _ _ y.mark y.stamp }
    go (inr (inr (inl q))) =
        let y = case_sound _ _ _ _ _ _ _ _ _ q in
        record { value = Observing (shard_id m) (epoch_at s); words = four y.code refl (omega (arith, y.ready)) refl; fine = and_joins _ _ y.mark y.stamp }
    go (inr (inr (inr (inl q)))) =
        let y = case_sound _ _ _ _ _ _ _ _ _ q in
        record { value = Short; words = four y.code (nought m (and_parts _ _ y.mark).1) (omega (arith, y.ready)) (nought s y.stamp); fine = refl }
    go (inr (inr (inr (inr (inl q))))) =
        let y = case_sound _ _ _ _ _ _ _ _ _ q in
        record { value = Other m; words = four y.code refl (omega (arith, y.ready)) (nought s y.stamp); fine = y.mark }
    go (inr (inr (inr (inr (inr q))))) = absurd q

place_complete : (p : Place) → good_place p ≡ true → any_pass (place_cases (at (place_words p) 0) (at (place_words p) 1) (at (place_words p) 2) (at (place_words p) 3)) ≡ true
unfolding place_words good_place
place_complete Pooled g = any_joins _ (inl (case_complete _ _ _ _ _ 0 0 0 (and_joins _ _ refl refl) refl refl))
place_complete (Seated s r e) g = let p = and_parts _ _ g in any_joins _ (inr (inl (case_complete _ _ _ _ _ s.0 (bit_of r) e.0 p.0 (bit_small r) p.1)))
place_complete (Observing s e) g = let p = and_parts _ _ g in any_joins _ (inr (inr (inl (case_complete _ _ _ _ _ s.0 0 e.0 p.0 refl p.1))))
place_complete Short g = any_joins _ (inr (inr (inr (inl (case_complete _ _ _ _ _ 0 0 0 (and_joins _ _ refl refl) refl refl)))))
place_complete (Other n) g = any_joins _ (inr (inr (inr (inr (inl (case_complete _ _ _ _ _ n 0 0 g refl refl))))))

machine_sound : (t : List ℕ) → Words t → length t ≡ machine_width → machine_ok t ≡ true → Held machine_words good_machine t
unfolding machine_ok machine_words good_machine
machine_sound t ws l h =
    let p = place_sound (at t 1) (at t 2) (at t 3) (at t 4) h in
    record { value = entry (at t 0) p.value; words = gets_all 5 t l ∙ ap (λ (u : List ℕ). at t 0 ∷ u) p.words; fine = and_joins _ _ (word_at t 0 ws) p.fine }

machine_complete : (e : Entry Place) → good_machine e ≡ true → machine_ok (machine_words e) ≡ true
unfolding machine_ok machine_words good_machine
machine_complete e g = place_complete e.val (and_parts _ _ g).1

-- by its code: what the words of a place may be, asked once
place_known : (c m r s : ℕ) → c ≤ 4
    → (within (get_or (0 ∷ 1 ∷ 1 ∷ 0 ∷ 1 ∷ []) c 0) (get_or (0 ∷ 65535 ∷ 65535 ∷ 0 ∷ 255 ∷ []) c 0) m && leb r (get_or (0 ∷ 1 ∷ 0 ∷ 0 ∷ 0 ∷ []) c 0) && leb s (get_or (0 ∷ 8589934591 ∷ 8589934591 ∷ 0 ∷ 0 ∷ []) c 0))
    ≡ any_pass (place_cases c m r s)
unfolding any_pass all_pass case_ok
place_known zero m r s h = simp or-false
place_known (suc zero) m r s h = simp or-false
place_known (suc (suc zero)) m r s h = simp or-false
place_known (suc (suc (suc zero))) m r s h = simp or-false
place_known (suc (suc (suc (suc zero)))) m r s h = refl
place_known (suc (suc (suc (suc (suc c))))) m r s h = absurd (omega arith)

-- the same by branches, with the bounds that a code has
module _ (c m r s low high ready stamp : ℕ) (h : c ≤ 4) (el : low ≡ get_or (0 ∷ 1 ∷ 1 ∷ 0 ∷ 1 ∷ []) c 0) (eh : high ≡ get_or (0 ∷ 65535 ∷ 65535 ∷ 0 ∷ 255 ∷ []) c 0)
    (er : ready ≡ get_or (0 ∷ 1 ∷ 0 ∷ 0 ∷ 0 ∷ []) c 0) (es : stamp ≡ get_or (0 ∷ 8589934591 ∷ 8589934591 ∷ 0 ∷ 0 ∷ []) c 0) where
  place_is : (within low high m && leb r ready && leb s stamp) ≡ any_pass (place_cases c m r s)
  place_is = rw (el, eh, er, es) (place_known c m r s h)

  pub mark_fails : within low high m ≡ false → false ≡ any_pass (place_cases c m r s)
  mark_fails e = rw e at place_is

  pub ready_fails : within low high m ≡ true → ready < r → false ≡ any_pass (place_cases c m r s)
  ready_fails e l = rw (e, lt-leb r ready l) at place_is

  pub stamp_tells : within low high m ≡ true → r ≤ ready → leb s stamp ≡ any_pass (place_cases c m r s)
  stamp_tells e l = rw (e, le-leb r ready l) at place_is

pub place_other : (c m r s : ℕ) → 4 < c → false ≡ any_pass (place_cases c m r s)
unfolding any_pass all_pass case_ok
place_other c m r s h =
    let e0 : eqb c 0 ≡ false = ne_eqb c 0 (λ e. omega arith) in
    let e1 : eqb c 1 ≡ false = ne_eqb c 1 (λ e. omega arith) in
    let e2 : eqb c 2 ≡ false = ne_eqb c 2 (λ e. omega arith) in
    let e3 : eqb c 3 ≡ false = ne_eqb c 3 (λ e. omega arith) in
    let e4 : eqb c 4 ≡ false = ne_eqb c 4 (λ e. omega arith) in
    rw (e0, e1, e2, e3, e4)

pub machine_decides : Decides machine_words good_machine machine_width machine_ok
machine_decides = record { wide = machine_wide; sound = machine_sound; complete = machine_complete }

-- ---- committees

committee_sound : (t : List ℕ) → Words t → length t ≡ committee_width → committee_ok t ≡ true → Held committee_row good_committee t
unfolding committee_ok committee_row good_committee
committee_sound t ws l h =
    let y = pass_parts _ h in
    let r = (ids_decides most_members).sound (between members_at committee_width t) (between_words members_at committee_width t ws) (between_length members_at committee_width t (omega arith)) y.1.0 in
    record {
      value = entry (at t 0) r.value;
      words = heads t (omega arith) ∙ ap (λ (u : List ℕ). at t 0 ∷ u) (sym (to_end members_at committee_width t (omega arith)) ∙ r.words);
      fine = and_joins _ _ y.0 r.fine;
    }

committee_complete : (e : Entry (List Id)) → good_committee e ≡ true → committee_ok (committee_row e) ≡ true
unfolding committee_ok committee_row good_committee
committee_complete e g =
    let p = and_parts _ _ g in
    let l : length (committee_row e) ≤ committee_width = omega (arith, committee_wide e) in
    pass_joins _ (p.0, (ap (ids_ok most_members) (to_end members_at committee_width (committee_row e) l) ∙ (ids_decides most_members).complete e.val p.1, tt))

pub committee_decides : Decides committee_row good_committee committee_width committee_ok
committee_decides = record { wide = committee_wide; sound = committee_sound; complete = committee_complete }

-- ---- boundaries

boundary_sound : (t : List ℕ) → Words t → length t ≡ boundary_width → boundary_ok t ≡ true → Held boundary_words good_boundary t
unfolding boundary_ok boundary_words good_boundary
boundary_sound t ws l h =
    let y = pass_parts _ h in
    let o = option_sound (at t 4) (at t 5) y.1.1.1.0 in
    let q = option_sound (at t 6) (at t 7) y.1.1.1.1.0 in
    record {
      value = entry (at t 0) (record { height = at t 1; formed = at t 2; last_live = at t 3; terminal = o.value; admitted = q.value });
      words = gets_all 8 t l ∙ rw (o.flag, o.number, q.flag, q.number);
      fine = all_joins _ (y.0, (word_at t 1 ws, (y.1.0, (y.1.1.0, (o.fine, (q.fine, tt))))));
    }

boundary_complete : (e : Entry Boundary) → good_boundary e ≡ true → boundary_ok (boundary_words e) ≡ true
unfolding boundary_ok boundary_words good_boundary
boundary_complete e g =
    let p = all_parts _ g in
    pass_joins _ (
      p.0,
      (p.1.1.0, (p.1.1.1.0, (option_complete e.val.terminal p.1.1.1.1.0, (option_complete e.val.admitted p.1.1.1.1.1.0, tt)))),
    )

pub boundary_decides : Decides boundary_words good_boundary boundary_width boundary_ok
boundary_decides = record { wide = boundary_wide; sound = boundary_sound; complete = boundary_complete }

-- ---- rotations

rotation_sound : (t : List ℕ) → Words t → length t ≡ rotation_width → rotation_ok t ≡ true → Held rotation_words good_rotation t
unfolding rotation_ok rotation_words good_rotation
rotation_sound t ws l h =
    let y = pass_parts _ h in
    record {
      value = record { shard = at t 0; victim = at t 1; entrant = at t 2; opened = at t 3 };
      words = gets_all 4 t l;
      fine = all_joins _ (y.0, (word_at t 1 ws, (word_at t 2 ws, (y.1.0, tt))));
    }

rotation_complete : (r : Rotation) → good_rotation r ≡ true → rotation_ok (rotation_words r) ≡ true
unfolding rotation_ok rotation_words good_rotation
rotation_complete r g = let p = all_parts _ g in pass_joins _ (p.0, (p.1.1.1.0, tt))

pub rotation_decides : Decides rotation_words good_rotation rotation_width rotation_ok
rotation_decides = record { wide = rotation_wide; sound = rotation_sound; complete = rotation_complete }
