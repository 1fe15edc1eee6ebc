-- `range_in` meets its contract: past each test the condition before it holds.
use mathlib.Core.Path.{refl, sym, ◌∙◌}
use lib.Dec.{ltb→lt}
use Rattle.lists.proofs.Tests.{true→T, eqb-eq, eqb-ne, le-true, le-false}
use Rattle.refusals.specs.Named.{named}
use Rattle.book_decisions_commit_range.proofs.range_in.Goals as goal

pub returns-then-last-first : goal.returns-then-last-first
unfolding named
returns-then-last-first c = rw (le-false _ _ c.if-last-first.true) refl

pub returns-then-entry-first : goal.returns-then-entry-first
unfolding named
returns-then-entry-first c =
    let n = rw c.entry.ensures at c.if-entry-first.true in
    rw (le-true _ _ c.if-last-first.false, eqb-ne _ _ (λ z. n (sym z))) refl

pub returns-then-past : goal.returns-then-past
unfolding named
returns-then-past c =
    let e = rw c.entry.ensures at c.if-entry-first.false in
    let l = ltb→lt _ _ (true→T _ (sym c.past.ensures ∙ c.if-past.true)) in
    rw (le-true _ _ c.if-last-first.false, eqb-eq _ _ (sym e), le-false _ _ l) refl
