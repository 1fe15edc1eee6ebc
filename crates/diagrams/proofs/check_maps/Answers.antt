-- `check_maps` meets its contract: past the k-th test the first k conditions hold; where it stops, the k-th fails.
use borrow.Author.Rules.{rules}
use Rattle.diagrams_entries.proofs.Answers.{yes-holds, no-fails}
use Rattle.diagrams.specs.Check.{no_size, no_lengths, no-root, no-blacks, no-whites, no-thrice, no-twice}
use Rattle.diagrams.proofs.check_maps.Goals as goal

pub returns-then-not-within : goal.returns-then-not-within
returns-then-not-within c = no_size (no-fails c.within.ensures c.if-not-within.true)

pub returns-then-s1-n : goal.returns-then-s1-n
returns-then-s1-n c = no_lengths (search rules) c.if-s1-n.true

pub returns-then-not-within-2 : goal.returns-then-not-within-2
returns-then-not-within-2 c = no-root (search rules) (search rules) (no-fails c.within-2.ensures c.if-not-within-2.true)

pub returns-then-not-entries_in : goal.returns-then-not-entries_in
returns-then-not-entries_in c = no-blacks (search rules) (search rules) (search rules) (no-fails c.entries_in.ensures c.if-not-entries_in.true)

pub returns-then-not-entries_in-2 : goal.returns-then-not-entries_in-2
returns-then-not-entries_in-2 c =
    no-whites (search rules) (search rules) (search rules) (search rules) (rw (← c.if-s1-n.false) (no-fails c.entries_in-2.ensures c.if-not-entries_in-2.true))

pub returns-then-not-thrice : goal.returns-then-not-thrice
returns-then-not-thrice c =
    no-thrice (search rules) (search rules) (search rules) (search rules)
    (rw (← c.if-s1-n.false) (yes-holds c.entries_in-2.ensures c.if-not-entries_in-2.false))
    (no-fails c.thrice.ensures c.if-not-thrice.true)

pub returns-then-not-twice : goal.returns-then-not-twice
returns-then-not-twice c =
    no-twice (search rules) (search rules) (search rules) (search rules)
    (rw (← c.if-s1-n.false) (yes-holds c.entries_in-2.ensures c.if-not-entries_in-2.false))
    (yes-holds c.thrice.ensures c.if-not-thrice.false)
    (no-fails c.twice.ensures c.if-not-twice.true)
