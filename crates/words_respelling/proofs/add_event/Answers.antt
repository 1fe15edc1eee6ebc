-- `add_event` notes the label on top and reads the item: from the state before it to the state after it.
use native.Mathlib.Omega.{arith}
use Rattle.words_respelling.proofs.Laws.{due-low, due-height, due-midway, due-added}
use Rattle.words_respelling.proofs.add_event.Goals as goal

pub overflow_sub-popped : goal.overflow_sub-popped
overflow_sub-popped c = let i = due-height c.requires.1 in omega arith

pub offset_bounds-popped-place : goal.offset_bounds-popped-place
offset_bounds-popped-place c = let i = due-low c.requires.1 in record { fits = omega arith }

pub bounds-popped-place : goal.bounds-popped-place
bounds-popped-place c = due-low c.requires.1

pub event-requires : goal.event-requires
event-requires c = (_, _, _, _, _, due-midway c.requires.1)

pub returns : goal.returns
returns c = λ w E. due-added E _ _ _ _ _ (c.event.ensures _ _ _ _ _ (due-midway E))
