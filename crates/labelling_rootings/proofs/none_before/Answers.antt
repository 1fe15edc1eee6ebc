-- `none_before` meets its contract.
use borrow.Author.Rules.{rules}
use mathlib.Core.Path.{refl, sym, ◌∙◌}
use mathlib.Core.Bool.{true≢false}
use native.Mathlib.Omega.{arith}
use Rattle.diagrams_entries.proofs.Answers.{answer-no, yes-holds, passed-more, passed-all}
use Rattle.words.proofs.Order.{precedes-false}
use Rattle.labelling.specs.Labelling.{word_of}
use Rattle.labelling_rootings.specs.Among.{NoneBefore}
use Rattle.labelling_rootings.proofs.NotLeast.{u-not-least}
use Rattle.labelling_rootings.proofs.Tried.{none-fails}
use Rattle.labelling_rootings.proofs.none_before.Goals as goal

pub returns-then-u_comes_first-clause-answer : goal.returns-then-u_comes_first-clause-answer
returns-then-u_comes_first-clause-answer c = answer-no (u-not-least _ _ _ _ c.requires.root_value (yes-holds c.u_comes_first.ensures c.if-u_comes_first.true))

pub returns-then-comes_before-clause-answer : goal.returns-then-comes_before-clause-answer
returns-then-comes_before-clause-answer c =
    (λ e. absurd (true≢false (sym e)), λ k. absurd (none-fails _ _ _ c.loop-x.x (search rules) (sym c.comes_before.ensures.answer ∙ c.if-comes_before.true) k))

pub loop-x-preserved : goal.loop-x-preserved
loop-x-preserved c = (
  record { size_is = c.loop-x.invariant.0.size_is; fresh = c.comes_before.ensures.stamped; empty = c.comes_before.ensures.empty; long = search rules },
  passed-more _ c.loop-x.invariant.1 (search rules) (precedes-false (word_of c.args.s0.now c.args.s1.now c.loop-x.x) c.args.own.now (sym c.comes_before.ensures.answer ∙ c.if-comes_before.false)),
)

-- the last rooting is tried too
pub returns-else-comes_before-clause-answer : goal.returns-else-comes_before-clause-answer
unfolding NoneBefore
returns-else-comes_before-clause-answer c =
    let last = precedes-false (word_of c.args.s0.now c.args.s1.now c.loop-x.x) c.args.own.now (sym c.comes_before.ensures.answer ∙ c.if-comes_before.false) in
    let all = passed-all _ (passed-more _ c.loop-x.invariant.1 (search rules) last) (omega arith) in
    (λ _ y e. all y e, λ _. refl)
