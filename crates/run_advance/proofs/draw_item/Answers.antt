-- `draw_item` meets its contract: the item that comes next is written, and its event added.
use Rattle.run_advance.proofs.Laws.{next_place, next-due, next_drawn}
use Rattle.run_advance.proofs.draw_item.Goals as goal

pub bounds-items-place : goal.bounds-items-place
bounds-items-place c = next_place c.requires.2

pub add_event-requires : goal.add_event-requires
add_event-requires c = (_, next-due c.requires.2)

pub returns : goal.returns
returns c = λ n v E. next_drawn E (c.add_event.ensures _ (next-due E))
