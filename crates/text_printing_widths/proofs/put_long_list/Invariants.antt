-- The first entry, and then the others each after a comma: what is left to print is the entries to come.
use mathlib.Core.Path.{◌≡◌}
use lib.ListN.{length, drop}
use Rattle.text_printing_pieces.specs.Pieces.{output, put_all}
use Rattle.text_printing_lists.specs.Lists.{entry_pieces}
use Rattle.text_printing_widths.proofs.put_long_list.Given as goal

abbrev pub invariant-loop-x : goal.invariant-loop-x
invariant-loop-x l = (length l.out ≡ length l.initial.out) × (put_all (entry_pieces (drop l.x-index l.x-items)) (output l.out l.next) ≡ put_all (entry_pieces l.x-items) (output l.initial.out l.initial.next))
