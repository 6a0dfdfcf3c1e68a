use Prim.Native.Nat.{◌≤◌}
use mathlib.Core.Path.{refl, sym}
use native.Mathlib.Omega.{arith}
use lib.ListN.{get_or-eq_default}
use Rattle.phrases.specs.Texts.{bytes}
use Rattle.answers.specs.Answers.{answers, answer_text}
use Rattle.answers.proofs.text_of.Goals as goal

pub returns-in-0 : goal.returns-in-0
unfolding bytes answers answer_text
returns-in-0 c = rw c.in-0.is refl

pub returns-in-1 : goal.returns-in-1
unfolding bytes answers answer_text
returns-in-1 c = rw c.in-1.is refl

pub returns-in-2 : goal.returns-in-2
unfolding bytes answers answer_text
returns-in-2 c = rw c.in-2.is refl

pub returns-in-3 : goal.returns-in-3
unfolding bytes answers answer_text
returns-in-3 c = rw c.in-3.is refl

pub returns-in-4 : goal.returns-in-4
unfolding bytes answers answer_text
returns-in-4 c = rw c.in-4.is refl

pub returns-in-5 : goal.returns-in-5
unfolding bytes answers answer_text
returns-in-5 c = rw c.in-5.is refl

pub returns-in-6 : goal.returns-in-6
unfolding bytes answers answer_text
returns-in-6 c = rw c.in-6.is refl

pub returns-in-7 : goal.returns-in-7
unfolding bytes answers answer_text
returns-in-7 c = rw c.in-7.is refl

pub returns-in-8 : goal.returns-in-8
unfolding bytes answers answer_text
returns-in-8 c = rw c.in-8.is refl

pub returns-in-9 : goal.returns-in-9
unfolding bytes answers answer_text
returns-in-9 c = rw c.in-9.is refl

pub returns-in-10 : goal.returns-in-10
unfolding bytes answers answer_text
returns-in-10 c = rw c.in-10.is refl

pub returns-in-11 : goal.returns-in-11
unfolding bytes answers answer_text
returns-in-11 c = rw c.in-11.is refl

pub returns-in-12 : goal.returns-in-12
unfolding bytes answers answer_text
returns-in-12 c = rw c.in-12.is refl

pub returns-in_default : goal.returns-in_default
unfolding bytes answers answer_text
returns-in_default c = let past : 13 ≤ c.args.answer = omega arith in sym (get_or-eq_default answers _ past)
