-- `raise_item` meets its contract: the event is drawn, and `end_word` draws the rest.
use Rattle.run_advance.proofs.Laws.{next_place, next-ends}
use Rattle.run_advance.proofs.raise_item.Goals as goal

pub end_word-requires : goal.end_word-requires
end_word-requires c =
    let D = c.draw_item-m.ensures _ _ c.requires.1 in
    (_, D, next-ends c.requires.1 c.requires.2 D)

pub returns : goal.returns
returns c = λ v E L. let D = c.draw_item-m.ensures _ v E in c.end_word.ensures v D (next-ends E L D)
