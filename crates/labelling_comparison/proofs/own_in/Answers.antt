-- `own_in` meets its contract: the number of labels given decides whether the maps are accepted, and then the question is answered.
use native.Mathlib.Omega.{arith}
use Rattle.labelling.proofs.Reached.{some-unlabelled, all-labelled}
use Rattle.labelling_comparison.proofs.Comparing.{written-part}
use Rattle.labelling_comparison.proofs.own_in.Goals as goal

pub returns-then-given-n : goal.returns-then-given-n
returns-then-given-n c = let e = c.to_index-given.ensures in some-unlabelled _ _ _ c.requires.rooted_maps c.own_word-written.ensures.given_is (omega arith)

-- past the test every edge has a label
pub answer-requires-clause-accepts : goal.answer-requires-clause-accepts
answer-requires-clause-accepts c = let e = c.to_index-given.ensures in all-labelled _ _ _ c.requires.rooted_maps c.own_word-written.ensures.given_is (omega arith)

pub returns : goal.returns
returns c =
    let e = c.to_index-given.ensures in
    (all-labelled _ _ _ c.requires.rooted_maps c.own_word-written.ensures.given_is (omega arith), rw (written-part c.own_word-written.ensures) at c.answer.ensures)
