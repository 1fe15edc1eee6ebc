-- `write_diagram` writes the diagram that the word spells: its first item by `begin`, the rest by `events`.
use mathlib.Core.Path.{refl}
use Rattle.words_spelling_events.proofs.Laws.{word_some}
use Rattle.words_spelling.proofs.Laws.{spelt-parts, spelt-room}
use Rattle.words_spelling.proofs.write_diagram.Goals as goal

pub bounds-word-0 : goal.bounds-word-0
bounds-word-0 c = let (n, S, l, l0, l1) = c.requires in word_some n _ S

pub begin-counts-requires : goal.begin-counts-requires
begin-counts-requires c = let (n, S, l, l0, l1) = c.requires in (refl, (S.pair, _, spelt-parts n _ _ S S.spelt, spelt-room n _ _ _ _ S l l0 l1 S.spelt))

pub slice_bounds-events-count : goal.slice_bounds-events-count
slice_bounds-events-count c = let (n, S, l, l0, l1) = c.requires in word_some n _ S

pub slice_bounds-events-start : goal.slice_bounds-events-start
slice_bounds-events-start c = let (n, S, l, l0, l1) = c.requires in word_some n _ S

pub events-requires : goal.events-requires
events-requires c = let (n, S, l, l0, l1) = c.requires in (S.pair, _, _, _, c.begin-counts.ensures S.pair _ (spelt-parts n _ _ S S.spelt) (spelt-room n _ _ _ _ S l l0 l1 S.spelt))

pub returns : goal.returns
returns c = λ D e. let (n, S, l, l0, l1) = c.requires in c.events.ensures D _ _ _ (c.begin-counts.ensures D _ (spelt-parts n _ _ S e) (spelt-room n _ _ _ _ S l l0 l1 e))
