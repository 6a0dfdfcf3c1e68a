use mathlib.Core.List.{[]}
use mathlib.Core.Path.{◌≡◌, ap, sym, ◌∙◌}
use mathlib.Core.Bool.{true}
use native.Mathlib.Omega.{arith}
use borrow.Author.Tests.{not-true, not-false}
use Rattle.std.specs.Prelude.{Some, None}
use Rattle.types.specs.Numbers.{Height}
use Rattle.rules.specs.Board.{split}
use Rattle.rules.specs.Moves.{height_of}
use Rattle.rules.specs.Turns.{finished}
use Rattle.rules.specs.Cut.{recast, fits}
use Rattle.rules.proofs.KeptBoard.{target_within, good_of_lem, no_target}
use Rattle.rules.proofs.KeptCut.{height_word}
use Rattle.board.proofs.Keyed.{bounds_rise}
use Rattle.board.specs.Held.{no_boundary}
use Rattle.rows.proofs.Asked.{finds_stands}
use Rattle.arriving.specs.Coming.{reshape_in}
use Rattle.arriving.proofs.Comes.{height_is}
use Rattle.cut_splits.specs.Settled.{cut_board}
use Rattle.cut_splits.proofs.Cuts.{nothing_due, no_boundary_lem, no_record, no_room_lem, cuts}
use Rattle.cut_splits.proofs.cut_split.Goals as goal

pub returns-then-not-is_target : goal.returns-then-not-is_target
returns-then-not-is_target c = ((omega arith, omega (arith, c.start-left.ensures)), λ b h ok. nothing_due b ok _ (no_target (good_of_lem b ok) _ (sym c.is_target.ensures ∙ not-true _ c.if-not-is_target.true-raw)) _ h _ c.start-left.ensures)

pub returns-in_default : goal.returns-in_default
returns-in_default c = ((omega arith, omega (arith, c.start-left.ensures)), λ b h ok. nothing_due b ok _ (c.in_default.ensures.found b h ok) _ h _ c.start-left.ensures)

pub returns-in_default-find_bound : goal.returns-in_default-find_bound
returns-in_default-find_bound c = (
  tt,
  λ b h ok.
      let f = c.in-Some.ensures.found b h ok in
      (no_boundary_lem b ok _ _ f.0 f.1 (sym (finds_stands _ no_boundary b.bounds None (bounds_rise b ok) (c.in_default-find_bound.ensures.found b h ok))), h),
)

pub returns-then-not-all_recorded : goal.returns-then-not-all_recorded
returns-then-not-all_recorded c = (
  tt,
  λ b h ok.
      let f = c.in-Some.ensures.found b h ok in
      let v = sym (finds_stands _ no_boundary b.bounds (Some _) (bounds_rise b ok) (c.in-Some-find_bound.ensures.found b h ok)) in
      (no_record b ok _ _ f.0 f.1 v (sym (c.all_recorded.ensures b h ok f.0) ∙ not-true _ c.if-not-all_recorded.true-raw), h),
)

pub split_fits-requires : goal.split_fits-requires
split_fits-requires c = (c.requires, target_within _ (sym c.is_target.ensures ∙ not-false _ c.if-not-is_target.false-raw))

pub returns-then-not-split_fits : goal.returns-then-not-split_fits
returns-then-not-split_fits c = (
  tt,
  λ b h ok.
      let t = c.args.target.0 in
      let f = c.in-Some.ensures.found b h ok in
      let v = sym (finds_stands _ no_boundary b.bounds (Some _) (bounds_rise b ok) (c.in-Some-find_bound.ensures.found b h ok)) in
      let k = sym (c.all_recorded.ensures b h ok f.0) ∙ not-false _ c.if-not-all_recorded.false-raw in
      let tg = sym c.is_target.ensures ∙ not-false _ c.if-not-is_target.false-raw in
      (no_room_lem b ok _ _ f.0 f.1 v k (sym (c.split_fits.ensures b h ok tg (height_of t b)) ∙ not-true _ c.if-not-split_fits.true-raw), h),
)

pub cut_at-requires : goal.cut_at-requires
cut_at-requires c = (c.requires, c.in-Some.ensures.room, target_within _ (sym c.is_target.ensures ∙ not-false _ c.if-not-is_target.false-raw))

pub returns : goal.returns
returns c = (
  (omega arith, omega (arith, c.start-left.ensures)),
  λ b h ok.
      let t = c.args.target.0 in
      let f = c.in-Some.ensures.found b h ok in
      let g = c.in-Some-find_bound.ensures.found b h ok in
      let k = sym (c.all_recorded.ensures b h ok f.0) ∙ not-false _ c.if-not-all_recorded.false-raw in
      let tg = sym c.is_target.ensures ∙ not-false _ c.if-not-is_target.false-raw in
      let r = reshape_in c.in-Some.i b in
      let high = height_is b ok t _ g.0 g.1 ∙ sym (c.height_at-height.ensures b h g.0) in
      let room : (n : Height) → fits (recast split t n b) ≡ true = λ n. sym (c.split_fits.ensures b h ok tg n) ∙ not-false _ c.if-not-split_fits.false-raw in
      record {
        board = cut_board t r c.height_at-height.result.0 b;
        read = omega (arith, c.start-left.ensures);
        turn = rw c.start-left.ensures (cuts b ok t _ f.0 f.1 (sym (finds_stands _ no_boundary b.bounds (Some _) (bounds_rise b ok) g)) k (room (height_of t b)) ∙ ap (λ (n : Height). finished 1 [] (cut_board t r n b)) high);
        holds = c.cut_at.ensures b h ok f.0 f.1 (rw high at (height_word (good_of_lem b ok) t)) (room _);
      },
)
