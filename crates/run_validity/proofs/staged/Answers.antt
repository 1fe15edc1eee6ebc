-- `staged` meets its contract: stage 1 goes with a word, 0 and 2 with none.
use borrow.Author.Rules.{rules}
use mathlib.Core.Path.{sym}
use lib.ListN.{length}
use Rattle.lists.proofs.Tests.{eqb-true, eqb-false}
use Rattle.run_validity.proofs.Validity.{staged-at, staged-few, staged-none, staged-empty}
use mathlib.Core.Logic.{inl}
use mathlib.Core.Bool.{true≢false}
use native.Mathlib.Omega.{arith}
use Rattle.run_validity.proofs.staged.Goals as goal

pub returns-then-stage-eq1 : goal.returns-then-stage-eq1
returns-then-stage-eq1 c =
    let a = c.args in
    (λ e. inl (c.if-stage-eq1.true, c.is_word.ensures.0 e), λ e s. c.is_word.ensures.1 e (staged-at a.stage a.n a.word.now c.if-stage-eq1.true s))

pub returns-then-stage-gt2 : goal.returns-then-stage-gt2
returns-then-stage-gt2 c =
    let a = c.args in
    (λ e. absurd (true≢false (sym e)), λ e s. let l = staged-few a.stage a.n a.word.now s in omega arith)

pub returns : goal.returns
returns c =
    let a = c.args in (
      λ e. staged-none a.stage a.n a.word.now c.if-stage-eq1.false c.if-stage-gt2.false (eqb-true (length a.word.now) 0 e),
      λ e s. eqb-false (length a.word.now) 0 e (staged-empty a.stage a.n a.word.now c.if-stage-eq1.false s),
    )
