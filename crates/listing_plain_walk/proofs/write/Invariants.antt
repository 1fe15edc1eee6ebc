-- `write` writes the items one by one. The loop's invariant: those before place i stand in the list.
use mathlib.Core.Path.{◌≡◌}
use lib.ListN.{take}
use Rattle.lists.specs.Overwriting.{overwrite_from}
use Rattle.listing_plain_walk.proofs.write.Given as goal

abbrev pub invariant-loop-i : goal.invariant-loop-i
invariant-loop-i l = l.out ≡ overwrite_from l.place (take l.i l.word) l.initial.out
