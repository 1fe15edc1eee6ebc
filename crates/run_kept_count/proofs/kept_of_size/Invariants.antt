-- All diagrams of the size, a block at a time.
use Prim.Native.Nat.{◌-◌}
use Rattle.listing.specs.Listing.{count}
use Rattle.run_kept_count.proofs.Counting.{Counting}
use Rattle.run_kept_count.proofs.kept_of_size.Given as goal

abbrev pub invariant-loop-given : goal.invariant-loop-given
invariant-loop-given l = Counting l.size l.run l.given l.kept

abbrev pub decreases-loop-given : goal.decreases-loop-given
decreases-loop-given l = count l.size - l.given
