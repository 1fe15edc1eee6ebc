-- `labels_of` meets its contract. Invariant: the items before i give the labels counted so far, at most three each.
use Rattle.upto_size.proofs.Labels.{Counted}
use Rattle.upto_size.proofs.labels_of.Given as goal

abbrev pub invariant-loop-i : goal.invariant-loop-i
invariant-loop-i l = Counted l.word l.i l.labels
