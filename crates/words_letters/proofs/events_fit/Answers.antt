-- The room left after the events passed, and the letters of the events to come, say whether all letters fit.
use mathlib.Core.Path.{sym, ap}
use mathlib.Core.List.{List}
use Prim.Native.Nat.{ℕ}
use native.Mathlib.Omega.{arith}
use lib.ListN.{length}
use Rattle.lists.proofs.Tests.{le-true, le-false}
use Rattle.words_letters.specs.EventLetters.{events_letters}
use Rattle.words_letters.proofs.Lettering.{length_from, events-past}
use Rattle.words_letters.proofs.events_fit.Goals as goal

pub returns-then-left-n : goal.returns-then-left-n
returns-then-left-n c =
    sym (le-false (length (events_letters items)) room (omega (arith, length_from items c.loop-x.x-index c.loop-x-test.true)))
  where
    items : List ℕ
    items = c.args.items.now

    room : ℕ
    room = c.args.room

pub loop-x-preserved : goal.loop-x-preserved
loop-x-preserved c = omega (arith, length_from c.args.items.now c.loop-x.x-index c.loop-x-test.true)

pub returns : goal.returns
returns c =
    sym (le-true (length (events_letters items)) room (omega (arith, ap length (events-past items c.loop-x.x-index c.loop-x-test.false))))
  where
    items : List ℕ
    items = c.args.items.now

    room : ℕ
    room = c.args.room
