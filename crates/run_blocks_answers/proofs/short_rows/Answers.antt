-- `short_rows` meets its contract: a test for each list.
use borrow.Author.Rules.{rules}
use native.Mathlib.Numerals.{add-one}
use borrow.Author.Tests.{ltb-true, lt-ltb}
use mathlib.Core.Logic.{inl, inr, ⊎_elim}
use mathlib.Core.Bool.{true≢false}
use mathlib.Core.Path.{sym, ◌∙◌}
use Rattle.run_blocks_answers.proofs.short_rows.Goals as goal

pub returns-then-short : goal.returns-then-short
returns-then-short c = (λ e. inl (c.short.ensures.0 c.if-short.true), λ e. absurd (true≢false e))

pub returns-then-short-2 : goal.returns-then-short-2
returns-then-short-2 c = (λ e. inr (inl (c.short-2.ensures.0 c.if-short-2.true)), λ e. absurd (true≢false e))

pub returns-then-short-3 : goal.returns-then-short-3
returns-then-short-3 c = (λ e. inr (inr (inl (rw add-one at (c.short-3.ensures.0 c.if-short-3.true)))), λ e. absurd (true≢false e))

pub returns : goal.returns
returns c = (
  λ e. inr (inr (inr (ltb-true _ _ e))),
  λ e.
      ⊎_elim (c.short.ensures.1 c.if-short.false)
      (⊎_elim (c.short-2.ensures.1 c.if-short-2.false)
      (⊎_elim (rw add-one at (c.short-3.ensures.1 c.if-short-3.false)) (λ l. true≢false (sym (lt-ltb _ _ l) ∙ e)))),
)
