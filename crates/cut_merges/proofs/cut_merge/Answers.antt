use mathlib.Core.List.{[]}
use mathlib.Core.Path.{◌≡◌, ap, sym, ◌∙◌}
use mathlib.Core.Bool.{true}
use native.Mathlib.Omega.{arith}
use borrow.Author.Tests.{not-true, not-false}
use Rattle.std.specs.Prelude.{Some, None}
use Rattle.types.specs.Numbers.{Height}
use Rattle.types.specs.declared.BlockHeight.{BlockHeight}
use Rattle.types.specs.Shards.{left_of, right_of}
use Rattle.rules.specs.Board.{merge}
use Rattle.rules.specs.Moves.{height_of}
use Rattle.rules.specs.Turns.{finished}
use Rattle.rules.specs.Cut.{recast, fits, larger}
use Rattle.rules.proofs.KeptBoard.{target_within, good_of_lem, no_target}
use Rattle.rules.proofs.KeptCut.{height_word, larger_word}
use Rattle.board.proofs.Keyed.{bounds_rise}
use Rattle.board.specs.Held.{no_boundary}
use Rattle.rows.proofs.Asked.{finds_stands}
use Rattle.arriving.specs.Coming.{reshape_in}
use Rattle.arriving.proofs.Comes.{height_is}
use Rattle.cut_merges.specs.Merged.{cut_board}
use Rattle.cut_merges.proofs.Cuts.{second_larger, first_larger, nothing_due, no_left, no_right, no_record, no_room_lem, cuts}
use Rattle.cut_merges.proofs.cut_merge.Goals as goal

pub returns-then-not-is_target : goal.returns-then-not-is_target
returns-then-not-is_target c = ((omega arith, omega (arith, c.start-left.ensures)), λ b h ok. nothing_due b ok _ (no_target (good_of_lem b ok) _ (sym c.is_target.ensures ∙ not-true _ c.if-not-is_target.true-raw)) _ h _ c.start-left.ensures)

pub returns-in_default : goal.returns-in_default
returns-in_default c = ((omega arith, omega (arith, c.start-left.ensures)), λ b h ok. nothing_due b ok _ (c.in_default.ensures.found b h ok) _ h _ c.start-left.ensures)

pub left-requires : goal.left-requires
left-requires c = omega (arith, target_within c.args.target.0 (sym c.is_target.ensures ∙ not-false _ c.if-not-is_target.false-raw))

pub returns-in_default-find_bound : goal.returns-in_default-find_bound
returns-in_default-find_bound c = (
  tt,
  λ b h ok.
      let f = c.in-Some.ensures.found b h ok in
      (no_left b ok _ _ f.0 f.1 (sym (finds_stands _ no_boundary b.bounds None (bounds_rise b ok) (rw c.left.ensures at (c.in_default-find_bound.ensures.found b h ok)))), h),
)

pub right-requires : goal.right-requires
right-requires c = omega (arith, target_within c.args.target.0 (sym c.is_target.ensures ∙ not-false _ c.if-not-is_target.false-raw))

pub returns-in_default-find_bound-2 : goal.returns-in_default-find_bound-2
returns-in_default-find_bound-2 c = (
  tt,
  λ b h ok.
      let f = c.in-Some.ensures.found b h ok in
      let u = sym (finds_stands _ no_boundary b.bounds (Some _) (bounds_rise b ok) (rw c.left.ensures at (c.in-Some-find_bound.ensures.found b h ok))) in
      (no_right b ok _ _ f.0 f.1 u (sym (finds_stands _ no_boundary b.bounds None (bounds_rise b ok) (rw c.right.ensures at (c.in_default-find_bound-2.ensures.found b h ok)))), h),
)

pub returns-then-not-seats_recorded : goal.returns-then-not-seats_recorded
returns-then-not-seats_recorded c = (
  tt,
  λ b h ok.
      let f = c.in-Some.ensures.found b h ok in
      let u = sym (finds_stands _ no_boundary b.bounds (Some _) (bounds_rise b ok) (rw c.left.ensures at (c.in-Some-find_bound.ensures.found b h ok))) in
      let v = sym (finds_stands _ no_boundary b.bounds (Some _) (bounds_rise b ok) (rw c.right.ensures at (c.in-Some-find_bound-2.ensures.found b h ok))) in
      (no_record b ok _ _ f.0 f.1 u v (sym (c.seats_recorded.ensures b h ok f.0) ∙ not-true _ c.if-not-seats_recorded.true-raw), h),
)

pub merge_fits-requires : goal.merge_fits-requires
merge_fits-requires c = (c.requires, target_within _ (sym c.is_target.ensures ∙ not-false _ c.if-not-is_target.false-raw))

pub returns-then-not-merge_fits : goal.returns-then-not-merge_fits
returns-then-not-merge_fits c = (
  tt,
  λ b h ok.
      let t = c.args.target.0 in
      let f = c.in-Some.ensures.found b h ok in
      let u = sym (finds_stands _ no_boundary b.bounds (Some _) (bounds_rise b ok) (rw c.left.ensures at (c.in-Some-find_bound.ensures.found b h ok))) in
      let v = sym (finds_stands _ no_boundary b.bounds (Some _) (bounds_rise b ok) (rw c.right.ensures at (c.in-Some-find_bound-2.ensures.found b h ok))) in
      let k = sym (c.seats_recorded.ensures b h ok f.0) ∙ not-false _ c.if-not-seats_recorded.false-raw in
      let tg = sym c.is_target.ensures ∙ not-false _ c.if-not-is_target.false-raw in
      (no_room_lem b ok _ _ f.0 f.1 u v k (sym (c.merge_fits.ensures b h ok tg (larger (height_of (left_of t) b) (height_of (right_of t) b))) ∙ not-true _ c.if-not-merge_fits.true-raw), h),
)

pub cut_at-requires : goal.cut_at-requires
cut_at-requires c = (c.requires, c.in-Some.ensures.room, target_within _ (sym c.is_target.ensures ∙ not-false _ c.if-not-is_target.false-raw))

pub returns : goal.returns
returns c = (
  (omega arith, omega (arith, c.start-left.ensures)),
  λ b h ok.
      let t = c.args.target.0 in
      let f = c.in-Some.ensures.found b h ok in
      let g = rw c.left.ensures at (c.in-Some-find_bound.ensures.found b h ok) in
      let p = rw c.right.ensures at (c.in-Some-find_bound-2.ensures.found b h ok) in
      let k = sym (c.seats_recorded.ensures b h ok f.0) ∙ not-false _ c.if-not-seats_recorded.false-raw in
      let tg = sym c.is_target.ensures ∙ not-false _ c.if-not-is_target.false-raw in
      let r = reshape_in c.in-Some.i b in
      let low = height_of (left_of t) b in
      let top = height_of (right_of t) b in
      let left = height_is b ok (left_of t) _ g.0 g.1 ∙ sym (c.height_at.ensures b h g.0) in
      let right = height_is b ok (right_of t) _ p.0 p.1 ∙ sym (c.height_at-2.ensures b h p.0) in
      let most : c.max-height.result.0 ≡ larger c.height_at.result.0 c.height_at-2.result.0 = ap (λ (n : BlockHeight). n.0) c.max-height.ensures ∙ grind (arith, second_larger, first_larger) in
      let high = ap (λ (n : Height). larger n top) left ∙ ap (larger c.height_at.result.0) right ∙ sym most in
      let room : (n : Height) → fits (recast merge t n b) ≡ true = λ n. sym (c.merge_fits.ensures b h ok tg n) ∙ not-false _ c.if-not-merge_fits.false-raw in
      let word = larger_word low top (height_word (good_of_lem b ok) (left_of t)) (height_word (good_of_lem b ok) (right_of t)) in
      record {
        board = cut_board t r c.max-height.result.0 b;
        read = omega (arith, c.start-left.ensures);
        turn = rw c.start-left.ensures (cuts b ok t _ f.0 f.1 (sym (finds_stands _ no_boundary b.bounds (Some _) (bounds_rise b ok) g)) (sym (finds_stands _ no_boundary b.bounds (Some _) (bounds_rise b ok) p)) k (room (larger low top)) ∙ ap (λ (n : Height). finished 1 [] (cut_board t r n b)) high);
        holds = c.cut_at.ensures b h ok f.0 f.1 (rw high at word) (room _);
      },
)
