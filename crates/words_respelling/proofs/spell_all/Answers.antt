-- `spell_all` begins the word and adds the events of its other items.
use native.Mathlib.Omega.{arith}
use Rattle.words_respelling.proofs.Laws.{listed-some, first-spelt, first-room, spelling-begun}
use Rattle.words_respelling.proofs.spell_all.Goals as goal

pub bounds-word-0 : goal.bounds-word-0
bounds-word-0 c = listed-some _ c.requires.listed_word

pub begin-m-requires : goal.begin-m-requires
begin-m-requires c =
    let pre = c.requires in
    (pre.scratch_lengths.stack_long, (_, _, first-spelt _ pre.listed_word, first-room _ pre.listed_word _ _ _ _ pre.scratch_lengths))

pub add_events-requires : goal.add_events-requires
add_events-requires c =
    let pre = c.requires in
    let L = pre.listed_word in
    let l = listed-some _ L in
    (omega arith, l, L, spelling-begun _ L _ _ _ _ _ _ _ _ _ l pre.scratch_lengths (c.begin-m.ensures _ _ (first-spelt _ L) (first-room _ L _ _ _ _ pre.scratch_lengths)))
