-- `draw_word` meets its contract: a word that is spelled whole has every label given and none pending.
use mathlib.Core.Logic.{inl, inr}
use Rattle.lists.proofs.Lists.{length-0}
use Rattle.words.proofs.Shape.{word-spells}
use Rattle.listing_successor.proofs.Branches.{word-there}
use Rattle.run_advance.proofs.Counts.{whole-counts}
use Rattle.run_advance.proofs.draw_word.Goals as goal

pub spell_all-requires-clause-listed_word : goal.spell_all-requires-clause-listed_word
spell_all-requires-clause-listed_word c = (_, c.requires.1.1, word-spells _ _ (word-there _ _ c.requires.1.2 c.if-word-ne0.true))

pub returns-then-word-ne0 : goal.returns-then-word-ne0
returns-then-word-ne0 c =
    λ n s h.
    let a = word-there n _ h c.if-word-ne0.true in
    record { long = c.spell_all.ensures.long; held = inr (a, whole-counts n _ a c.spell_all.ensures) }
