-- Both lists agree below i, so what is left of them from i on decides.
use mathlib.Core.Path.{◌≡◌}
use Prim.Native.Nat.{◌≤◌}
use lib.ListN.{length, drop}
use Rattle.words_order.specs.Order.{precedes}
use Rattle.words_order.proofs.precedes.Given as goal

abbrev pub invariant-loop-i : goal.invariant-loop-i
invariant-loop-i l = (l.i ≤ length l.b) × (precedes l.a l.b ≡ precedes (drop l.i l.a) (drop l.i l.b))
