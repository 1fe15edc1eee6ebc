-- `counted` is safe and ends: the diagrams that are left before it stops fall, and no more are kept than were given.
use Rattle.std.proofs.Common.{◌≡◌, ◌-◌, ◌≤◌, length}
use Rattle.tests.proofs.counts.counted.Given as goal

abbrev pub invariant-loop-rooted : goal.invariant-loop-rooted
invariant-loop-rooted l = (length l.s0 ≡ length l.initial.s0) × (length l.s1 ≡ length l.initial.s1) × (length l.word ≡ length l.initial.word) × (l.kept ≤ l.rooted)

abbrev pub decreases-loop-rooted : goal.decreases-loop-rooted
decreases-loop-rooted l = 1000000 - l.rooted
