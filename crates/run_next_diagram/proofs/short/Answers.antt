-- `short` meets its contract: a test for each list.
use native.Mathlib.Omega.{arith}
use borrow.Author.Tests.{leb-true, leb-false}
use mathlib.Core.Logic.{inl, inr, ⊎_elim}
use mathlib.Core.Bool.{true≢false}
use Rattle.run_next_diagram.proofs.short.Goals as goal

pub returns-then-s0-n : goal.returns-then-s0-n
returns-then-s0-n c = (λ e. inl c.if-s0-n.true, λ e. absurd (true≢false e))

pub returns-then-s1-n : goal.returns-then-s1-n
returns-then-s1-n c = (λ e. inr (inl c.if-s1-n.true), λ e. absurd (true≢false e))

pub returns : goal.returns
returns c = (
  λ e. inr (inr (let l = leb-true c.args.word c.args.n e in omega arith)),
  λ e. let l = leb-false c.args.word c.args.n e in ⊎_elim (λ a. omega arith) (⊎_elim (λ a. omega arith) (λ a. omega arith)),
)
