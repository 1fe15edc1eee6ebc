-- `events` writes the whole diagram. The loop's invariant: from where it started, the items from the index on finish the same diagram.
use mathlib.Core.Path.{◌≡◌}
use mathlib.Core.List.{List}
use Prim.Native.Nat.{ℕ}
use lib.ListN.{length, drop}
use Rattle.words.specs.Word.{Pair}
use Rattle.words_spelling_events.specs.States.{State}
use Rattle.words_spelling_events.specs.Spelling.{SpellingState}
use Rattle.words_spelling.proofs.events.Given as goal

abbrev pub invariant-loop-item : goal.invariant-loop-item
invariant-loop-item l = (length l.s0 ≡ length l.initial.s0) × (length l.s1 ≡ length l.initial.s1)
    × ((D : Pair) (S : State) (a0 a1 : List ℕ) → SpellingState D l.word S a0 a1 l.initial.stack l.initial.s0 l.initial.s1 l.initial.counts.used l.initial.counts.height
    → ((T : State) × SpellingState D (drop l.item-index l.word) T a0 a1 l.stack l.s0 l.s1 l.counts.used l.counts.height))
