-- `label_maps` meets its contract: the number of labels given decides.
use native.Mathlib.Omega.{arith}
use Rattle.labelling.proofs.Reached.{some-unlabelled, all-labelled}
use Rattle.labelling_check.proofs.Decided.{all-given}
use Rattle.labelling_check.proofs.label_maps.Goals as goal

pub returns-then-to_index-s0 : goal.returns-then-to_index-s0
returns-then-to_index-s0 c = let e = c.to_index.ensures in some-unlabelled _ _ _ c.requires.rooted_maps c.write_word-t.ensures.written.held.given_is (omega arith)

pub returns : goal.returns
returns c =
    let r = c.requires.rooted_maps in
    let w = c.write_word-t.ensures.written in
    let e = c.to_index.ensures in
    (all-labelled _ _ _ r w.held.given_is (omega arith), all-given _ _ _ r _ _ _ _ _ _ w (omega arith))
