use Prim.Native.Nat.{◌<◌}
use mathlib.Core.Path.{refl, ap, sym, ◌∙◌}
use mathlib.Core.Bool.{not}
use native.Mathlib.Omega.{arith}
use lib.ListN.{length}
use Rattle.types.specs.Places.{is_seated_on, is_ready}
use Rattle.gathering.specs.Gathered.{Ready, Waiting}
use Rattle.gathering.proofs.Gathers.{none_elsewhere, ready_one, waiting_one, added, passed}
use borrow.Author.Rules.{rules}
use Rattle.gathering.proofs.take_seated.Goals as goal

pub returns-then-not-is_seated_on : goal.returns-then-not-is_seated_on
returns-then-not-is_seated_on c = let a = c.args in (
  omega arith,
  c.requires.1,
  c.requires.2,
  λ b h ok.
      let e = none_elsewhere a.shard.0 b a.id.0 _ (c.is_seated_on.ensures ∙ c.place_of-p.ensures b h ok (is_seated_on a.shard.0) refl) c.if-not-is_seated_on.true-raw in
      (passed Ready _ b _ a.ready.now a.counts.ready (e Ready), passed Waiting _ b _ a.waiting.now a.counts.waiting (e Waiting)),
)

pub returns-then-is_ready : goal.returns-then-is_ready
returns-then-is_ready c =
    let a = c.args in
    let p = c.requires in
    let l : a.counts.ready < length a.ready.now = omega (arith, p.1, p.3) in (
      omega arith,
      search rules,
      search rules,
      λ b h ok.
          let s = c.is_seated_on.ensures ∙ c.place_of-p.ensures b h ok (is_seated_on a.shard.0) refl in
          let r = c.is_ready.ensures ∙ c.place_of-p.ensures b h ok is_ready refl in (
            added Ready _ b _ a.ready.now a.counts.ready (sym c.if-is_ready.true ∙ ready_one _ b _ _ s c.if-not-is_seated_on.false-raw _ r) l,
            passed Waiting _ b _ a.waiting.now a.counts.waiting (ap not (sym c.if-is_ready.true) ∙ waiting_one _ b _ _ s c.if-not-is_seated_on.false-raw _ r),
          ),
    )

pub returns : goal.returns
returns c =
    let a = c.args in
    let p = c.requires in
    let l : a.counts.waiting < length a.waiting.now = omega (arith, p.2, p.3) in (
      omega arith,
      search rules,
      search rules,
      λ b h ok.
          let s = c.is_seated_on.ensures ∙ c.place_of-p.ensures b h ok (is_seated_on a.shard.0) refl in
          let r = c.is_ready.ensures ∙ c.place_of-p.ensures b h ok is_ready refl in (
            passed Ready _ b _ a.ready.now a.counts.ready (sym c.if-is_ready.false ∙ ready_one _ b _ _ s c.if-not-is_seated_on.false-raw _ r),
            added Waiting _ b _ a.waiting.now a.counts.waiting (ap not (sym c.if-is_ready.false) ∙ waiting_one _ b _ _ s c.if-not-is_seated_on.false-raw _ r) l,
          ),
    )
