-- `zeros` meets its contract. Invariant: every item before the index is 0.
use mathlib.Core.Path.{sym}
use mathlib.Core.Bool.{true≢false}
use native.Mathlib.Omega.{arith}
use lib.ListN.{length}
use borrow.Author.Count.{below_more}
use borrow.Author.Rules.{rules}
use Rattle.run_validity.proofs.Validity.{zeros-all, zeros-at}
use Rattle.run_validity.proofs.zeros.Goals as goal

pub loop-x-init : goal.loop-x-init
loop-x-init c = (search rules, λ k l. absurd (omega arith))

pub returns-then-x-ne0 : goal.returns-then-x-ne0
returns-then-x-ne0 c =
    let items = c.args.items.now in
    let i = c.loop-x.x-index in
    (λ e. absurd (true≢false (sym e)), λ e z. c.if-x-ne0.true (zeros-at (length items) i items z (omega arith)))

pub loop-x-preserved : goal.loop-x-preserved
loop-x-preserved c = (search rules, below_more _ _ c.loop-x.invariant.1 c.if-x-ne0.false)

pub returns : goal.returns
returns c = (λ e. zeros-all _ (λ i l. c.loop-x.invariant.1 i (omega arith)), λ e. absurd (true≢false e))
