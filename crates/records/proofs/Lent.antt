-- One machine's record lent by `&mut`, whose place is rewritten by a method by value: all that the proofs of such functions share.
-- Such a function is `m.place = m.place.f(..)`, with any number of parameters by value beside m.
--     ByValue          a type of such a parameter. Its values own facts alone, so what they own is had for nothing, and they are seen at exit as they were passed
--     slots, Move      such parameters in a signature;  a place's move, which may read them
--     Moves            the contract of a method that makes a move:  the result is the move of `self`
--     Says             what is left to show of a function that makes the same move on a record lent to it:  its clauses hold where at exit the record has the moved place, and is else as it was
--     lending          what a function has of the record while it is lent
--     rewrites         the walk of such a function's body, up to its `return`
--     walks_alone      the whole walk of one that is passed nothing beside m
--     lent_meets       such a function meets its contract, once it is walked from `lending` to `lending` at the new record
-- Assumes `Logic`.
use mathlib.Core.Path.{◌≡◌, refl, ◌∙◌, ap, subst}
use Prim.Native.Nat.{ℕ}
use mathlib.Core.List.{List, [], ◌∷◌}
use seplogic.Ra.Ura.{Ura}
use base.Fraction.{full_share}
use mir.Syntax.{named, mut, ty_ref, ty_unit, Ty, Callee, local, value_local, Fn, Opd as Operand, Body, place, copy, deref, field, rv_opd, opd_unit, assign, call, seq, return}
use mir.Val.{Val, vunit, vptr}
use base.Logic.{SProp, ent, sep, emp, via, fst∗, snd∗, ex_e, id⊢, emp∗, comm∗, mono_l}
use base.Stored.{Gv}
use base.Fml.{GName, Lft, Share, Fml, ftrue, flft, fobs, fauth, fbor, fobor, fat, froom}
use prog.Wp.{Calls, Loops, Env, WpFn}
use types.Logic.{Logic, sem}
use contract.Lifetimes.{Lfts}
use contract.Monad.{Fun, Mono, fact}
use types.Kit.{Item, Step, step, Post, runs, ‵, raw, ◌⊛◌, ⋆, some, later, !, ◌$◌, ◌∵◌, qed, by, move, keep, drop, use0, use1, split, join, pick, await, rewrite, fsplit, fsplit3, fjoin, fjoin3, feq_i, suffices, frame, done}
use types.Run.{Finds, Opds, look, init, forget, stop, hop, fld, from, load, unit_lit, of_opd, and_then, no_more, assigns, land, returns, enter, alloc1, alloc0, params1, pass1, pass0, free1, free0}
use types.Part.{whole, sub, look_in, store_in}
use types.SemTy.{Body as Behind}
use sound.WpLaws.{FmC}
use denote.RattleType.{RattleType, Denots, Valss, owns, flat}
use denote.Laws.{Is, Ises, Are, Tells, Tellss, Spells, valss, Lawful, Makes, shows}
use denote.Memory.{mem, cell_at, pointee}
use denote.Exit.{Last, left, yes}
use denote.Plain.{bool_vals, bool_Tells, bool_Lawful, bool_Makes}
use denote.Builtin.{RefMutOf, unit, bool}
use denote.Ref.{MutBor, MutRef, mut_vals, mut_Tells}
use denote.Signature.{Slot, plain, types_at}
use denote.Steps.{only, opens, closes, owned, peeks, facts, heard, nothing}
use denote.Struct.Steps.{spelt}
use denote.Struct.Declared.{Declared, row, fields}
use denote.Struct.Struct.{Plains}
use denote.Struct.Laws as LL
use denote.Enum.Laws as EL
use denote.Triple.Entry.{on_entry}
use denote.Triple.Statement.{Contract, Triple}
use denote.Triple.Call.{calls_at}
use denote.Triple.Clauses.{Ended, Clauses, at_exit, ensured, closing, lasts}
use denote.Triple.End.{Kepts, Fins}
use denote.Triple.Spec.{Meets, triple_of}
use denote.Triple.Walked.{Stays, stay_ref, stay_none, fits_of, has_of, AllGo, Goes-ref, Goes-none, ends_at, walked, walk_Meets, walk_of}
use Rattle.types.specs.declared.Machine.{Machine}
use Rattle.types.specs.declared.Place.{Place}
use Rattle.types.specs.contracts.ShardId as Sid
use Rattle.types.proofs.ShardId.TheLaws as Sid'
use Rattle.types.specs.contracts.Epoch as Ep
use Rattle.types.proofs.Epoch.TheLaws as Ep'
use Rattle.types.specs.contracts.Machine as T
use Rattle.types.proofs.Machine.TheLaws as T'
use Rattle.types.specs.contracts.Place as P
use Rattle.types.proofs.Place.TheLaws as P'

-- ---- the parameters beside the record
pub record ByValue : Type 2 where
  pub row : RattleType
  pub vals : row.Denot → List Val
  pub tells : Tells row (Is row) vals
  pub lawful : (M : Type 1) (𝓤 : Ura M) (𝓛 : Logic 𝓤) → Lawful 𝓛 row
  pub makes : (M : Type 1) (𝓤 : Ura M) (𝓛 : Logic 𝓤) → Makes 𝓛 row (Is row)
  pub last : (x : row.Denot) → Last (row.exit yes) x
  pub silent : (x : row.Denot) (f : Last (row.exit yes) x) → left (row.exit yes) x f ≡ ftrue

-- a struct of such fields
abbrev of_struct : (D : Declared) → LL.Laws D → Plains (fields D) → ((x : D.D) → Last ((row D).exit yes) x) → ((x : D.D) (f : Last ((row D).exit yes) x) → left ((row D).exit yes) x f ≡ ftrue) → ByValue
of_struct D L plains last silent = record {
  row = row D;
  vals = LL.vals D L;
  tells = LL.tells D L;
  lawful = λ M 𝓤 𝓛. LL.lawful D L 𝓛;
  makes = λ M 𝓤 𝓛. LL.makes D plains 𝓛;
  last = last;
  silent = silent;
}

abbrev pub shard_id : ByValue
shard_id = of_struct Sid.the_type Sid'.the_laws Sid'.the_plain (λ x. tt) (λ x f. refl)

abbrev pub epoch : ByValue
epoch = of_struct Ep.the_type Ep'.the_laws Ep'.the_plain (λ x. tt) (λ x f. refl)

abbrev pub flag : ByValue
flag = record {
  row = bool;
  vals = bool_vals;
  tells = bool_Tells;
  lawful = λ M 𝓤 𝓛. bool_Lawful 𝓛;
  makes = λ M 𝓤 𝓛. bool_Makes 𝓛;
  last = λ x. tt;
  silent = λ x f. refl;
}

-- what is had for nothing is had beside anything
with_it : {M : Type 1} (𝓤 : Ura M) {P Q : SProp 𝓤} → ent 𝓤 (emp 𝓤) Q → ent 𝓤 P (sep 𝓤 P Q)
with_it 𝓤 {P} {Q} had = via 𝓤 (sep 𝓤 Q P) (via 𝓤 (sep 𝓤 (emp 𝓤) P) (emp∗ 𝓤 P) (mono_l 𝓤 P had)) (comm∗ 𝓤 Q P)

module _ (n : ℕ) where
  abbrev pub slots : List ByValue → List (Slot n)
  slots [] = []
  slots (p ∷ ps) = plain (λ _. p.row) ∷ slots ps

  abbrev kept : (ps : List ByValue) → Kepts (slots ps)
  kept [] = tt
  kept (p ∷ ps) = (yes, kept ps)

  abbrev stays : (ps : List ByValue) → Stays (slots ps) (kept ps)
  stays [] = tt
  stays (p ∷ ps) = (stay_none (λ _. p.row) yes, stays ps)

  abbrev pub Passed : List ByValue → Lfts n → Type 0
  Passed ps κs = Denots (types_at (slots ps) κs)

  abbrev pub Move : List ByValue → Type 0
  Move ps = (κs : Lfts n) → Passed ps κs → Place → Place

  module _ (κs : Lfts n) where
    abbrev spells : (ps : List ByValue) → Spells (types_at (slots ps) κs)
    spells [] = tt
    spells (p ∷ ps) = (p.vals, spells ps)

    abbrev tellss : (ps : List ByValue) → Tellss (types_at (slots ps) κs) (Ises (types_at (slots ps) κs)) (spells ps)
    tellss [] = tt
    tellss (p ∷ ps) = (p.tells, tellss ps)

    abbrev vals_of : (ps : List ByValue) → Passed ps κs → Valss (types_at (slots ps) κs)
    vals_of ps a = valss (types_at (slots ps) κs) (spells ps) a

    abbrev pub Known : (ps : List ByValue) → Passed ps κs → Type 0
    Known ps a = Are (types_at (slots ps) κs) (Ises (types_at (slots ps) κs)) a (vals_of ps a)

    abbrev pub words : (ps : List ByValue) → Passed ps κs → List Val
    words ps a = flat (types_at (slots ps) κs) (vals_of ps a)

    abbrev fins : (ps : List ByValue) (a : Passed ps κs) → Fins κs (slots ps) (kept ps) a
    fins [] a = tt
    fins (p ∷ ps) a = (p.last a.0, fins ps a.1)

    fits : (ps : List ByValue) (a : Passed ps κs) → fits_of κs (slots ps) (kept ps) (stays ps) a (fins ps a)
    fits [] a = tt
    fits (p ∷ ps) a = (tt, fits ps a.1)

module _ {M : Type 1} {𝓤 : Ura M} (𝓛 : Logic 𝓤) (n : ℕ) where
  goes : (ps : List ByValue) → AllGo 𝓛 n (slots n ps) (kept n ps) (stays n ps)
  goes [] = tt
  goes (p ∷ ps) = (Goes-none 𝓛 n (λ _. p.row) yes (λ κs. p.silent), goes ps)

  module _ (κs : Lfts n) where
    owns_all : (ps : List ByValue) (a : Passed n ps κs) → Known n κs ps a → ent 𝓤 (emp 𝓤) (sem 𝓛 (owns (types_at (slots n ps) κs) a (vals_of n κs ps a)))
    owns_all [] a are = id⊢ 𝓤 _
    owns_all (p ∷ ps) a are = qed 𝓛 [] ∵ use0 𝓛 (‵ (owns (types_at (slots n ps) κs) a.1 (vals_of n κs ps a.1))) (owns_all ps a.1 are.1) $ owned ! p.row (Is p.row) (p.makes M 𝓤 𝓛) a.0 _ are.0 $ fjoin ! $ done !

    has_all : (ps : List ByValue) (a : Passed n ps κs) → Known n κs ps a → ent 𝓤 (emp 𝓤) (sem 𝓛 (has_of κs (slots n ps) (kept n ps) (stays n ps) a (fins n κs ps a) (vals_of n κs ps a)))
    has_all [] a are = id⊢ 𝓤 _
    has_all (p ∷ ps) a are = qed 𝓛 [] ∵ use0 𝓛 (‵ (has_of κs (slots n ps) (kept n ps) (stays n ps) a.1 (fins n κs ps a.1) (vals_of n κs ps a.1))) (has_all ps a.1 are.1) $ owned ! p.row (Is p.row) (p.makes M 𝓤 𝓛) a.0 _ are.0 $ fjoin ! $ done !

-- ---- the contracts
abbrev pub placed : Machine → Place → Machine
placed h p = record { id = h.id; place = p }

abbrev move_t : List ByValue → Ended
move_t ps = record {
  signature = record { lifetimes = 0; outlives = []; params = plain (λ _. P.the_row) ∷ slots 0 ps; result = plain (λ _. P.the_row) };
  kept = (yes, kept 0 ps);
}

abbrev move_c : {M : Type 1} (𝓤 : Ura M) (ps : List ByValue) → Move 0 ps → Clauses 𝓤 (move_t ps)
move_c 𝓤 ps mv κs a = record { ghost = Unit {0}; requires = λ _. emp 𝓤; ensures = λ _ r _. fact 𝓤 (r ≡ mv κs a.1 a.0) }

abbrev pub Moves : {M : Type 1} {𝓤 : Ura M} (𝓛 : Logic 𝓤) (ps : List ByValue) → Move 0 ps → Contract 𝓤
Moves {𝓤 = 𝓤} 𝓛 ps mv = triple_of 𝓛 (move_t ps).signature (closing 𝓛 (move_t ps) (move_c 𝓤 ps mv))

abbrev lent_t : List ByValue → Ended
lent_t ps = record {
  signature = record { lifetimes = 1; outlives = []; params = RefMutOf (0 ∷ []) tt (plain (λ _. T.the_row)) (λ _. tt) ∷ slots 1 ps; result = plain (λ _. unit) };
  kept = (yes, kept 1 ps);
}

-- what an author's clauses say of the record at exit, where a function makes the move
abbrev pub Says : {M : Type 1} (𝓤 : Ura M) (ps : List ByValue) → Move 1 ps → Clauses 𝓤 (lent_t ps) → Type 1
Says 𝓤 ps mv c = (κs : Lfts 1) (m : MutBor Machine) (a : Passed 1 ps κs) (g : (c κs (m, a)).ghost) → ent 𝓤 (emp 𝓤) ((c κs (m, a)).ensures g tt (at_exit (lent_t ps) κs (m, a) (placed m.now (mv κs a m.now.place), fins 1 κs ps a)))

-- ---- the walk
-- the machine values of a place and of a record, and a record's ghost value
abbrev place_val : Place → Val
place_val = EL.val P.the_type P'.the_laws

abbrev mach : Machine → Val
mach = LL.val T.the_type T'.the_laws

abbrev code : Machine → Gv
code = (T.the_row).coded.code

-- the locals: one that holds a place, and the one that holds the reference
abbrev cell : ℕ → Val → Fml
cell l v = fat full_share P'.mir l 0 v

abbrev lent_ty : Ty
lent_ty = ty_ref (named 0) mut (pointee (T.the_row).written)

abbrev lent : ℕ → ℕ → ℕ → Fml
lent l b o = fat full_share lent_ty l 0 (vptr b o)

abbrev pub lending : {M : Type 1} {𝓤 : Ura M} → Lft → Share → ℕ → ℕ → GName → Machine → List (Item 𝓤) → List (Item 𝓤)
lending κ q b o γ h Γ = ‵ (fobs γ (code h)) ∷ ‵ (fbor κ (Behind (mem T.the_row) b o γ)) ∷ ‵ (flft κ q) ∷ Γ

-- a run takes the record lent at h to the record lent at its move
abbrev pub Walked : {M : Type 1} {𝓤 : Ura M} (𝓛 : Logic 𝓤) (ps : List ByValue) → Move 1 ps → Fun 𝓤 → Type 2
Walked {𝓤 = 𝓤} 𝓛 ps mv run = (κs : Lfts 1) (q : Share) (b o : ℕ) (γ : GName) (h : Machine) (a : Passed 1 ps κs) → Known 1 κs ps a → (Kf : Val → SProp 𝓤)
    → ent 𝓤 (⋆ 𝓛 (lending κs.0 q b o γ (placed h (mv κs a h.place)) [])) (Kf vunit) → ent 𝓤 (⋆ 𝓛 (lending κs.0 q b o γ h [])) (run (vptr b o ∷ words 1 κs ps a) Kf)

-- `m.place = m.place.f(..)`, with its operand in the local i and its result in the local j
abbrev rewriting : (i j : ℕ) → Callee → List Operand → Body
rewriting i j f xs =
    seq (assign (place i []) (rv_opd (copy (place 1 (deref T'.mir ∷ field 1 ∷ [])))))
    (seq (call f (copy (place i []) ∷ xs) (place j []))
    (seq (assign (place 1 (deref T'.mir ∷ field 1 ∷ [])) (rv_opd (copy (place j []))))
    (seq (assign (place 0 []) (rv_opd opd_unit)) return)))

-- a place that is known: its machine value, and what holds of it
known : (r p : Place) (v : Val) → r ≡ p → Is P.the_row r (v ∷ []) → (v ≡ place_val p) × Is P.the_row p (place_val p ∷ [])
known r p v e is =
    let v-is = ap only (EL.tells P.the_type P'.the_laws r (v ∷ []) is) ∙ ap place_val e in
    (v-is, subst (λ (u : Val). Is P.the_row p (u ∷ [])) v-is (subst (λ (s : Place). Is P.the_row s (v ∷ [])) e is))

module _ {M : Type 1} {𝓤 : Ura M} (𝓛 : Logic 𝓤) (ps : List ByValue) (mv : Move 0 ps) (p : Place) (a : Passed 0 ps tt) where
  abbrev ensures : Place → SProp 𝓤
  ensures = ensured 𝓛 (move_t ps) (move_c 𝓤 ps mv) tt (p, a) tt

  -- the call of the method at the place p: what its triple binds outside, that nothing but facts is asked, and what is known of its result
  abbrev pub to : (Moves 𝓛 ps mv).Ghost
  to = ((tt, tt, tt, (p, a), (place_val p ∷ [], vals_of 0 tt ps a)), tt)

  asks : Known 0 tt ps a → Is P.the_row p (place_val p ∷ []) → ent 𝓤 (emp 𝓤) ((Moves 𝓛 ps mv).pre to)
  asks are is =
      qed 𝓛 [] ∵ use0 𝓛 (‵ (owns (types_at (slots 0 ps) tt) a (vals_of 0 tt ps a))) (owns_all 𝓛 0 tt ps a are) $ owned ! P.the_row (Is P.the_row) (EL.makes P.the_type P'.the_plain 𝓛) p _ is $ fjoin ! $
      nothing ! $ join ! $ frame ! $ done !

  said : (r : Place) → ent 𝓤 (ensures r) (fact 𝓤 (r ≡ mv tt a p))
  said r = ex_e 𝓤 _ (λ ws. snd∗ 𝓤 (sem 𝓛 (lasts (move_t ps) tt (p, a) ws)) (fact 𝓤 (r ≡ mv tt a p)))

pub rewrites : {M : Type 1} {𝓤 : Ura M} {𝓛 : Logic 𝓤} {K : Type 0} {C : Calls 𝓤 𝓛.H} {Λ : Loops 𝓤 𝓛.H}
    {E : Env 𝓤 𝓛.H} {Γ : List (Item 𝓤)} {q' : Post 𝓤 𝓛.H} {κ : Lft} {q : Share} {γ : GName} {b o l₀ l₁ lᵢ lⱼ i j : ℕ} {f : Callee} {xs : List Operand}
    → K → FmC 𝓤 𝓛.H 𝓛.laws C → (ps : List ByValue) (mv : Move 0 ps) → Triple 𝓤 (C f) (Moves 𝓛 ps mv) → (h : Machine) (a : Passed 0 ps tt) → Known 0 tt ps a
    → ((Γ' : List (Item 𝓤)) → Finds K 𝓛 Γ' ((ty_unit, l₀) ∷ (lent_ty, l₁) ∷ E) (place i []) (P'.mir, lᵢ, 0))
    → ((Γ' : List (Item 𝓤)) → Finds K 𝓛 Γ' ((ty_unit, l₀) ∷ (lent_ty, l₁) ∷ E) (place j []) (P'.mir, lⱼ, 0))
    → Opds K 𝓛 (raw ((Moves 𝓛 ps mv).pre (to 𝓛 ps mv h.place a)) ∷ ‵ (fat full_share T'.mir b o (mach h)) ∷ ‵ ((T.the_row).own_val h (mach h ∷ [])) ∷ ‵ (fobor κ q (Behind (mem T.the_row) b o γ)) ∷ ‵ (fobs γ (code h)) ∷ ‵ (fauth γ (code h))
    ∷ ‵ (cell lᵢ (place_val h.place)) ∷ ‵ (froom P'.mir lⱼ 0) ∷ ‵ (lent l₁ b o) ∷ ‵ (froom ty_unit l₀ 0) ∷ Γ) ((ty_unit, l₀) ∷ (lent_ty, l₁) ∷ E) xs (words 0 tt ps a)
    → Step K 𝓛 (lending κ q b o γ (placed h (mv tt a h.place)) (‵ (cell lᵢ (place_val h.place)) ∷ ‵ (cell lⱼ (place_val (mv tt a h.place))) ∷ ‵ (lent l₁ b o) ∷ ‵ (fat full_share ty_unit l₀ 0 vunit) ∷ Γ))
    (runs C Λ ((ty_unit, l₀) ∷ (lent_ty, l₁) ∷ E) return q')
    (lending κ q b o γ h (‵ (froom P'.mir lᵢ 0) ∷ ‵ (froom P'.mir lⱼ 0) ∷ ‵ (lent l₁ b o) ∷ ‵ (froom ty_unit l₀ 0) ∷ Γ))
    (runs C Λ ((ty_unit, l₀) ∷ (lent_ty, l₁) ∷ E) (rewriting i j f xs) q')
rewrites {𝓤 = 𝓤} {𝓛 = 𝓛} {b = b} {o = o} {lⱼ = lⱼ} t fm ps mv met h a are atᵢ atⱼ os =
    let p : Place = mv tt a h.place in
    step (λ k. opens t tt T.the_row {h = h} b o (λ vs. spelt t T.the_row (Is T.the_row) (shows 𝓛 T.the_row) (LL.vals T.the_type T'.the_laws) (LL.tells T.the_type T'.the_laws) full_share h vs b o $
    use1 𝓛 (‵ (fat full_share T'.mir b o (mach h))) (𝓛.laws.raw_at full_share T'.mir b o (mach h)) $ move t (1 ∷ []) $ peeks t T.the_row (Is T.the_row) (shows 𝓛 T.the_row) h (mach h ∷ []) (λ g. move t (1 ∷ 0 ∷ []) $
    -- [the record's cell; what a Machine owns; the open borrow; obs; auth; room for _i; room for _j; _1; room for _0; …]
    assigns t (of_opd t (load t (from t (hop t (look t 7 refl) (fld t refl (stop t)))) (look_in t 0 (sub t 1 refl (whole t))))) (atᵢ _) (init t 5 refl ((EL.lawful P.the_type P'.the_laws 𝓛 tt).typed h.place _ (LL.owed T.the_type T'.the_laws h _ g).1.0).0) $
    use0 𝓛 (raw ((Moves 𝓛 ps mv).pre (to 𝓛 ps mv h.place a))) (asks 𝓛 ps mv h.place a are (LL.owed T.the_type T'.the_laws h _ g).1.0) $
    calls_at t fm (Moves 𝓛 ps mv) met (to 𝓛 ps mv h.place a) (and_then t (load t (atᵢ _) (look t 6 refl)) os) (λ v.
    use1 𝓛 (later (some (λ (r : Place). (‵ ftrue ⊛ ‵ ((P.the_row).own_val r (v ∷ []))) ⊛ raw (ensures 𝓛 ps mv h.place a r)))) (id⊢ 𝓤 _) $ await t tt $ pick t (λ r.
    split t $ move t (1 ∷ []) $ use1 𝓛 (raw (fact 𝓤 (r ≡ p))) (said 𝓛 ps mv h.place a r) $ heard t (r ≡ p) (λ e. split t $ drop t $ facts t P.the_row (Is P.the_row) (shows 𝓛 P.the_row) r (v ∷ []) (λ is.
    land t (atⱼ _) (init t 6 refl ((EL.lawful P.the_type P'.the_laws 𝓛 tt).typed r _ is).0) $ rewrite t 6 (λ (u : Val). ‵ (cell lⱼ u)) (known r p v e is).0 refl $
    -- [the record's cell; what a Machine owns; the open borrow; obs; auth; _i; _j; _1; room for _0; …]
    assigns t (of_opd t (load t (atⱼ _) (look t 6 refl))) (from t (hop t (look t 7 refl) (fld t refl (stop t)))) (store_in t 0 (sub t 1 refl (whole t)) ((EL.lawful P.the_type P'.the_laws 𝓛 tt).typed p _ (known r p v e is).1).0) $
    assigns t (of_opd t (unit_lit t)) (from t (stop t)) (init t 8 refl (tt, tt)) $
    move t (1 ∷ []) $ drop t $ owned t T.the_row (Is T.the_row) (LL.makes T.the_type T'.the_plain 𝓛) (placed h p) _ (LL.owes T.the_type T'.the_laws (placed h p) ((LL.owed T.the_type T'.the_laws h _ g).0, ((known r p v e is).1, tt))) $
    move t (1 ∷ []) $ use1 𝓛 (‵ (cell_at full_share (T.the_row).mir (mach (placed h p) ∷ []) b o)) (𝓛.laws.at_raw full_share T'.mir b o (mach (placed h p))) $ closes t tt T.the_row (placed h p) (mach (placed h p) ∷ []) b o $ k)))))))

-- ---- from the walk to the contract
module _ {M : Type 1} {𝓤 : Ura M} (𝓛 : Logic 𝓤) (ps : List ByValue) (mv : Move 1 ps) (c : Clauses 𝓤 (lent_t ps)) (right : Says 𝓤 ps mv c) where
  abbrev lent_stays : Stays (lent_t ps).signature.params (lent_t ps).kept
  lent_stays = (stay_ref (0 ∷ []) tt (plain (λ _. T.the_row)), stays 1 ps)

  module _ (κs : Lfts 1) (q : Share) (m : MutBor Machine) (a : Passed 1 ps κs) (are : Known 1 κs ps a) (g : (c κs (m, a)).ghost) where
    abbrev vs : List Val
    vs = vptr m.ref_ptr.0 m.ref_ptr.1 ∷ []

    abbrev moved : Machine
    moved = placed m.now (mv κs a m.now.place)

    abbrev Exit : Val → SProp 𝓤
    Exit = (walk_of 𝓛 (lent_t ps) lent_stays c).post ((κs, (q, tt), tt, (m, a), (vs, vals_of 1 κs ps a)), g)

    exits : ent 𝓤 (⋆ 𝓛 (lending κs.0 q m.ref_ptr.0 m.ref_ptr.1 m.ghost_name moved [])) (Exit vunit)
    exits =
        qed 𝓛 (lending κs.0 q m.ref_ptr.0 m.ref_ptr.1 m.ghost_name moved []) ∵
        suffices ! _ (ends_at 𝓛 (lent_t ps) lent_stays c ((κs, (q, tt), tt, (m, a), (vs, vals_of 1 κs ps a)), g) vunit tt (moved, fins 1 κs ps a) (tt, fits 1 κs ps a)) $ suffices ! _ (with_it 𝓤 (right κs m a g)) $
        nothing ! $ move ! (3 ∷ 0 ∷ []) $ join ! $ frame ! $ feq_i ! (List Val) vs vs refl $ fjoin3 ! $
        use0 𝓛 (‵ (has_of κs (slots 1 ps) (kept 1 ps) (stays 1 ps) a (fins 1 κs ps a) (vals_of 1 κs ps a))) (has_all 𝓛 1 κs ps a are) $ move ! (1 ∷ 0 ∷ []) $ fjoin ! $
        feq_i ! (List Val) (vunit ∷ []) (vunit ∷ []) refl $ move ! (1 ∷ 0 ∷ []) $ done !

    enters : (run : Fun 𝓤) → Walked 𝓛 ps mv run → ent 𝓤 (on_entry 𝓛 (lent_t ps).signature κs (q, tt) (m, a) (vs, vals_of 1 κs ps a)) (run (vptr m.ref_ptr.0 m.ref_ptr.1 ∷ words 1 κs ps a) Exit)
    enters run walk =
        qed 𝓛 ((‵ (flft κs.0 q) ⊛ ‵ ftrue) ∷ ‵ (owns (MutRef (named 0) κs.0 T.the_row ∷ types_at (slots 1 ps) κs) (m, a) (vs, vals_of 1 κs ps a)) ∷ []) ∵
        split ! $ move ! (2 ∷ []) $ fsplit ! $ fsplit3 ! $ drop ! $ keep ! (0 ∷ 1 ∷ 3 ∷ []) $ by ! (walk κs q m.ref_ptr.0 m.ref_ptr.1 m.ghost_name m.now a are Exit exits)

  pub lent_meets : (run : Fun 𝓤) → ((vs : List Val) → Mono 𝓤 (run vs)) → Walked 𝓛 ps mv run → Meets 𝓛 (lent_t ps).signature run (closing 𝓛 (lent_t ps) c)
  lent_meets run mono walk = walk_Meets 𝓛 (lent_t ps) lent_stays (Goes-ref 𝓛 1 0 tt (plain (λ _. T.the_row)), goes 𝓛 1 ps) c run mono
      (walked 𝓛 (lent_t ps) lent_stays c run (λ κs. (mut_vals, spells 1 κs ps)) (λ κs. (mut_Tells (named 0) κs.0 T.the_row, tellss 1 κs ps))
      (λ κs qs bounds a g are. via 𝓤 _ (fst∗ 𝓤 _ ((c κs a).requires g)) (enters κs qs.0 a.0 a.1 are.1 g run walk)))

-- ---- a function that is passed nothing beside the record
abbrev alone : Callee → Fn
alone f = record {
  lifetimes = 1;
  outlives = [];
  ty_params = [];
  givens = 0;
  params = 1;
  locals = local ty_unit value_local ∷ local lent_ty value_local ∷ local P'.mir value_local ∷ local P'.mir value_local ∷ [];
  body = rewriting 3 2 f [];
}

pub walks_alone : {M : Type 1} {𝓤 : Ura M} (𝓛 : Logic 𝓤) (C : Calls 𝓤 𝓛.H) (Λ : Loops 𝓤 𝓛.H) → FmC 𝓤 𝓛.H 𝓛.laws C → (f : Callee) (mv : Place → Place)
    → Triple 𝓤 (C f) (Moves 𝓛 [] (λ _ _. mv)) → Walked 𝓛 [] (λ _ _. mv) (WpFn 𝓤 𝓛.H C Λ (alone f))
walks_alone 𝓛 C Λ fm f mv met κs q b o γ h a are Kf out =
    qed 𝓛 (lending κs.0 q b o γ h []) ∵ enter ! C Λ (alone f) (vptr b o ∷ []) _ $
    alloc1 ! (λ l₀. alloc1 ! (λ l₁. alloc1 ! (λ l₂. alloc1 ! (λ l₃. alloc0 ! $ params1 ! $ pass1 ! (init ! 4 refl (tt, tt)) $ pass0 ! $
    -- [room for _3; …; room for _2; …; _1; …; room for _0; …; the lent record's three]
    move ! (8 ∷ 9 ∷ 10 ∷ 0 ∷ 2 ∷ 4 ∷ 6 ∷ []) $ rewrites ! fm [] (λ _ _. mv) met h a are (λ _. from ! (stop !)) (λ _. from ! (stop !)) (no_more !) $
    -- [the lent record's three; _3; _2; _1; _0; …]
    returns ! (look ! 6 refl) $ forget ! 3 refl $ forget ! 4 refl $ forget ! 5 refl $ forget ! 6 refl $
    move ! (6 ∷ 10 ∷ []) $ free1 ! $ move ! (5 ∷ 8 ∷ []) $ free1 ! $ move ! (4 ∷ 6 ∷ []) $ free1 ! $ move ! (3 ∷ 4 ∷ []) $ free1 ! $ free0 ! $ keep ! (0 ∷ 1 ∷ 2 ∷ []) $ by ! out))))
