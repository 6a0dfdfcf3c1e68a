-- A draw and a shuffle, as the code has them: a turn, and each way out.
use Prim.Native.Nat.{ℕ, suc, ◌+◌, ◌-◌, ◌≤◌, ◌<◌}
use mathlib.Core.Path.{◌≡◌, refl, ap, sym, ◌∙◌, subst}
use mathlib.Core.List.{List, [], ◌∷◌}
use mathlib.Core.Bool.{Bool, true, false, cond}
use native.Mathlib.Omega.{arith}
use native.Mathlib.Numerals.{add-one}
use borrow.Author.Tests.{le-leb, lt-leb}
use lib.Dec.{leb}
use lib.ListN.{length, get_or, set, drop, drop_of_length-le}
use lib.Seq.{drop-cons}
use Rattle.std.specs.List.{swap}
use Rattle.std.proofs.lemmas.List.Edits.{swap_is}
use Rattle.rules.specs.Draws.{Drawn, drew, missing, too_large, and_then, draw_index, exchange, shuffle_from}
use Rattle.rules.proofs.Tests.{le_of}
use Rattle.sampling.specs.Reads.{Read, no_draw, mixed_from}
use Rattle.sampling.specs.declared.Reader.{Reader}
use Rattle.sampling.specs.declared.DrawError.{DrawError}
use Rattle.sampling.specs.declared.DrawError.TheVariants as errors

-- ---- the next draw, at p

module _ (ds : List ℕ) (p most : ℕ) where
  pub index_missing : length ds ≤ p → draw_index most (drop p ds) ≡ missing
  unfolding draw_index
  index_missing h = rw (drop_of_length-le ds h)

  pub index_large : p < length ds → most < get_or ds p 0 → draw_index most (drop p ds) ≡ too_large
  unfolding draw_index
  index_large h k = rw (drop-cons ds p 0 h, lt-leb (get_or ds p 0) most k)

  pub index_found : p < length ds → get_or ds p 0 ≤ most → Read ds (draw_index most (drop p ds)) (get_or ds p 0) (record { at = p + 1 })
  unfolding draw_index
  index_found h k = record { within = omega arith; drew = rw (add-one p, drop-cons ds p 0 h, le-leb (get_or ds p 0) most k) }

-- ---- what a draw that gives j tells of the list that it reads

pub record Reads (most : ℕ) (l : List ℕ) (j : ℕ) (rest : List ℕ) : Type 0 where
  pub first : l ≡ j ∷ rest
  pub fits : j ≤ most
  pub test : leb j most ≡ true

pub drawn_reads : (most : ℕ) (l : List ℕ) (j : ℕ) (rest : List ℕ) → draw_index most l ≡ drew j rest → Reads most l j rest
unfolding draw_index
drawn_reads most [] j rest e = absurd (let z : ◌≡◌ {A = ℕ} 0 1 = cc in omega arith)
drawn_reads most (x ∷ l) j rest e = go (leb x most) refl e
  where
    go : (c : Bool) → leb x most ≡ c → cond c (drew x l) too_large ≡ drew j rest → Reads most (x ∷ l) j rest
    go true t f =
        let a : x ≡ j = cc in
        let b : l ≡ rest = cc in
        let u : leb j most ≡ true = rw (← a) t in
        record { first = rw (a, b) refl; fits = le_of j most u; test = u }
    go false t f = absurd (let z : ◌≡◌ {A = ℕ} 0 1 = cc in omega arith)

-- ---- the shuffle with i places to go, whose next draw is at the reader

-- what is left of the shuffle of a list is what is left of another's: its answer and its list
pub record Same (i : ℕ) (l ds : List ℕ) (x : Drawn (List ℕ)) (m : List ℕ) : Type 0 where
  pub answer : shuffle_from i l ds ≡ x
  pub list : mixed_from i l ds ≡ m

-- a turn that draws nothing leaves the list
stays : (k : ℕ) (l ds : List ℕ) (e : DrawError) → draw_index (suc k) ds ≡ no_draw e → mixed_from (suc k) l ds ≡ l
unfolding mixed_from draw_index
stays k l [] e q = refl
stays k l (j ∷ ds) e q = go (leb j (suc k)) e q
  where
    go : (c : Bool) (e : DrawError) → cond c (drew j ds) too_large ≡ no_draw e → cond c (mixed_from k (exchange (suc k) j l) ds) l ≡ l
    go true errors.Missing f = absurd (let z : ◌≡◌ {A = ℕ} 0 1 = cc in omega arith)
    go true errors.TooLarge f = absurd (let z : ◌≡◌ {A = ℕ} 0 1 = cc in omega arith)
    go false e f = refl

module _ (l ds : List ℕ) (i : ℕ) (at : Reader) (x : Drawn (List ℕ)) (m : List ℕ) (inv : Same (i - 1) l (drop at.at ds) x m) where
  abbrev k : ℕ
  k = i - 1 - 1

  -- the turn that comes next, by its number
  here : 1 < i → Same (suc k) l (drop at.at ds) x m
  here h = let e : i - 1 ≡ suc k = omega arith in rw (← e) inv

  pub turn : (j : ℕ) (left : Reader) → 1 < i → i ≤ length l → Read ds (draw_index (i - 1) (drop at.at ds)) j left → Same k (swap l (i - 1) j) (drop left.at ds) x m
  unfolding shuffle_from mixed_from and_then exchange
  turn j left h q r =
      let e : i - 1 ≡ suc k = omega arith in
      let d = drawn_reads (i - 1) (drop at.at ds) j (drop left.at ds) r.drew in
      let f : j < length l = omega (arith, d.fits) in
      let s = swap_is l (i - 1) j 0 (omega arith) f in
      let now : Same (suc k) l (j ∷ drop left.at ds) x m = rw (← d.first) (here h) in
      let t : leb j (suc k) ≡ true = rw (← e) d.test in
      let y : draw_index (suc k) (j ∷ drop left.at ds) ≡ drew j (drop left.at ds) = subst (λ n. draw_index n (j ∷ drop left.at ds) ≡ drew j (drop left.at ds)) e (rw d.first at r.drew) in
      rw (← s) (subst (λ n. Same k (set (set l n (get_or l j 0)) j (get_or l n 0)) (drop left.at ds) x m) (sym e) (record {
        answer = sym (ap (λ (z : Drawn ℕ). and_then z (λ v rest. shuffle_from k (exchange (suc k) v l) rest)) y) ∙ now.answer;
        list = sym (ap (λ b. cond b (mixed_from k (exchange (suc k) j l) (drop left.at ds)) l) t) ∙ now.list;
      }))

  -- what the caller gets where a turn draws nothing
  pub record Out (e : DrawError) : Type 0 where
    pub tells : x ≡ no_draw e
    pub left : l ≡ m

  pub out : (e : DrawError) → 1 < i → draw_index (i - 1) (drop at.at ds) ≡ no_draw e → Out e
  unfolding shuffle_from and_then
  out e h q =
      let f : i - 1 ≡ suc k = omega arith in
      let d : draw_index (suc k) (drop at.at ds) ≡ no_draw e = rw (← f) q in
      record {
        tells = sym (here h).answer ∙ ap (λ (y : Drawn ℕ). and_then y (λ v rest. shuffle_from k (exchange (suc k) v l) rest)) d ∙ fails e;
        left = sym (stays k l (drop at.at ds) e d) ∙ (here h).list;
      }
    where
      fails : (e : DrawError) → and_then {A = ℕ} (no_draw e) (λ v rest. shuffle_from k (exchange (suc k) v l) rest) ≡ no_draw e
      fails errors.Missing = refl
      fails errors.TooLarge = refl

  pub done : i ≤ 1 → (drew l (drop at.at ds) ≡ x) × (l ≡ m)
  unfolding shuffle_from mixed_from
  done h =
      let e : i - 1 ≡ 0 = omega arith in
      let s : Same 0 l (drop at.at ds) x m = rw (← e) inv in
      (s.answer, s.list)
