-- `write_relabelled` meets its contract: a whole labelling writes the word, and both lists are seen through its labels.
use Rattle.labelling_arrays.proofs.Arrays.{zeros-unlabelled}
use Rattle.pending_ring.proofs.Laws.{ring-empty}
use Rattle.labelling_relabelling.proofs.Written.{all_held, black-labels, white-labels, relabel-written}
use Rattle.labelling_relabelling.proofs.write_relabelled.Goals as goal

pub write_word-t-requires-clause-labels_held : goal.write_word-t-requires-clause-labels_held
write_word-t-requires-clause-labels_held c = (zeros-unlabelled 1025, ring-empty)

pub write_list-requires-clause-by_index : goal.write_list-requires-clause-by_index
write_list-requires-clause-by_index c =
    let a = c.requires.accepts in
    black-labels _ _ _ _ _ a (all_held _ _ _ a _ _ _ c.write_word-t.ensures.written.held)

pub write_list-requires-2-clause-by_index : goal.write_list-requires-2-clause-by_index
write_list-requires-2-clause-by_index c =
    let a = c.requires.accepts in
    white-labels _ _ _ _ _ a (all_held _ _ _ a _ _ _ c.write_word-t.ensures.written.held)

pub returns-clause-written : goal.returns-clause-written
returns-clause-written c =
    let a = c.requires.accepts in
    let w = c.write_word-t.ensures.written in
    relabel-written _ _ _ _ _ a (all_held _ _ _ a _ _ _ w.held) c.write_list.ensures c.write_list-2.ensures (rw (← w.length_is) w.word_is)
