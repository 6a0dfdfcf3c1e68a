use mathlib.Core.Path.{refl, ap, sym, ◌∙◌}
use native.Mathlib.Omega.{arith}
use Rattle.types.specs.Places.{observes, pooled}
use Rattle.types.specs.declared.Machine.{Machine}
use Rattle.lapses.proofs.Lapses.{sent_none, sent_not, sent_one}
use Rattle.lapses.proofs.send_back.Goals as goal

pub returns-in_default : goal.returns-in_default
returns-in_default c = (omega arith, λ b h ok. sent_none b ok _ _ _ (c.in_default.ensures.found b h ok) h)

pub returns-then-not-observes_shard : goal.returns-then-not-observes_shard
returns-then-not-observes_shard c = (
  omega arith,
  λ b h ok.
      let f = c.in-Some.ensures.found b h ok in
      let e = ap (λ (m : Machine). observes c.args.target.0 m.place) (sym (c.at-before.ensures b h f.0)) ∙ sym c.if-not-observes_shard.ensures in
      sent_not b ok _ _ _ _ f.0 f.1 _ e refl h,
)

pub returns : goal.returns
returns c = (
  omega arith,
  λ b h ok.
      let f = c.in-Some.ensures.found b h ok in
      let m = c.at-before.ensures b h f.0 in
      let e = ap (λ (y : Machine). observes c.args.target.0 y.place) (sym m) ∙ sym c.if-not-observes_shard.ensures in
      let p = c.pooled-place.ensures ∙ ap (λ (y : Machine). pooled y.place) m in
      sent_one b ok _ _ _ _ f.0 f.1 _ e refl _ p (c.put.ensures b h f.0),
)
