-- `own_word` meets its contract. The loop's invariant: what is written so far begins the word, and the labelling stands behind it. The
-- measure is the room that is left for items.
use mathlib.Core.Path.{◌≡◌}
use mathlib.Core.List.{List}
use Prim.Native.Nat.{ℕ, suc, ◌-◌}
use lib.ListN.{length}
use Rattle.labelling_tracing.proofs.Sofar.{Filled}
use Rattle.labelling_tracing.proofs.own_word.Given as goal

abbrev pub invariant-loop-next : goal.invariant-loop-next
invariant-loop-next l = ((w : List ℕ) × Filled l.s0 l.s1 l.root l.stamps l.root l.next l.prev l.given w l.initial.word l.word l.len) × (length l.stamps ≡ length l.initial.stamps)

abbrev pub decreases-loop-next : goal.decreases-loop-next
decreases-loop-next l = suc (length l.s0) - l.len
