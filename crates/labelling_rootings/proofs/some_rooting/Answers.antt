-- `some_rooting` meets its contract.
use borrow.Author.Rules.{rules}
use mathlib.Core.Path.{refl, sym}
use mathlib.Core.Bool.{true≢false}
use native.Mathlib.Omega.{arith}
use Rattle.diagrams_entries.proofs.Answers.{passed-more, passed-all}
use Rattle.labelling_rootings.specs.Among.{SomeRooting}
use Rattle.labelling_rootings.proofs.Tried.{unlike, some-found}
use Rattle.labelling_rootings.proofs.some_rooting.Goals as goal

pub returns-then-has_word-clause-answer : goal.returns-then-has_word-clause-answer
returns-then-has_word-clause-answer c = (λ _. some-found _ _ _ c.loop-x.x _ c.has_word.ensures.answer (search rules) c.if-has_word.true, λ _. refl)

pub loop-x-preserved : goal.loop-x-preserved
loop-x-preserved c = (
  record { size_is = c.loop-x.invariant.0.size_is; fresh = c.has_word.ensures.stamped; empty = c.has_word.ensures.empty; long = search rules },
  passed-more _ c.loop-x.invariant.1 (search rules) (unlike _ _ _ c.loop-x.x _ c.has_word.ensures.answer c.if-has_word.false),
)

-- the last rooting is tried too
pub returns-else-has_word-clause-answer : goal.returns-else-has_word-clause-answer
unfolding SomeRooting
returns-else-has_word-clause-answer c =
    let all = passed-all _ (passed-more _ c.loop-x.invariant.1 (search rules) (unlike _ _ _ c.loop-x.x _ c.has_word.ensures.answer c.if-has_word.false)) (omega arith) in
    (λ e. absurd (true≢false (sym e)), λ s. absurd (all s.0 s.1 s.2))
