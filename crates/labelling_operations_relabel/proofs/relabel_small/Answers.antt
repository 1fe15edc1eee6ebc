-- `relabel_small` meets its contract: what is not accepted is refused, then 9 where a list is short; otherwise the word is copied, and the lists are
-- seen through the labels.
use mathlib.Core.Path.{sym, ◌∙◌}
use mathlib.Core.Bool.{true≢false}
use native.Mathlib.Omega.{arith}
use lib.ListN.{length}
use Rattle.lists.proofs.Tests.{le-true}
use Rattle.words.specs.Outputs.{Short}
use Rattle.words.proofs.Outputs.{long_enough}
use Rattle.labelling.specs.Labelling.{word_of}
use Rattle.labelling_arrays.proofs.Arrays.{zeros-unlabelled}
use Rattle.labelling_check.proofs.Decided.{written-part}
use Rattle.labelling_relabelling.proofs.Written.{black-labels, white-labels, relabel-written}
use Rattle.labelling_operations_relabel.proofs.relabel_small.Goals as goal

pub check_and_label-requires-clause-labels_held : goal.check_and_label-requires-clause-labels_held
check_and_label-requires-clause-labels_held c = zeros-unlabelled 65

pub write_list-requires-clause-by_index : goal.write_list-requires-clause-by_index
write_list-requires-clause-by_index c = black-labels _ _ _ _ _ c.in_ok-len.ensures.0 c.in_ok-len.ensures.1.held

pub write_list-requires-2-clause-by_index : goal.write_list-requires-2-clause-by_index
write_list-requires-2-clause-by_index c = white-labels _ _ _ _ _ c.in_ok-len.ensures.0 c.in_ok-len.ensures.1.held

pub returns : goal.returns
returns c =
    let w = c.in_ok-len.ensures.1 in
    let no : ¬ Short (length c.args.s0.now) c.args.t0.now c.args.t1.now c.args.word.now = λ x. absurd (true≢false (sym (c.short.ensures.1 x) ∙ c.if-short.false)) in
    let l = (long_enough _ c.args.t0.now c.args.t1.now c.args.word.now no).2 in
    let f = w.few in
    let e = w.length_is in (
      c.in_ok-len.ensures.0,
      no,
      e,
      relabel-written _ _ _ _ _ c.in_ok-len.ensures.0 w.held c.write_list.ensures c.write_list-2.ensures
          (c.fill.ensures ∙ rw (written-part _ _ _ _ _ _ _ _ _ w, le-true (length (word_of c.args.s0.now c.args.s1.now c.args.root)) (length c.args.word.now) (omega arith))),
    )
