-- The room left after the events passed, and the letters of the events to come, say whether all letters fit.
use mathlib.Core.Path.{◌≡◌}
use Prim.Native.Nat.{◌+◌, ◌≤◌}
use lib.ListN.{length, drop}
use Rattle.words_letters.specs.EventLetters.{events_letters}
use Rattle.words_letters.proofs.events_fit.Given as goal

abbrev pub invariant-loop-x : goal.invariant-loop-x
invariant-loop-x l = (l.left ≤ l.room) × (length (events_letters l.items) + l.left ≡ l.room + length (events_letters (drop l.x-index l.items)))
