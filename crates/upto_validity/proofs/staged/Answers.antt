-- `staged` meets its contract: stage 1 goes with a word of a size up to the bound and its visits, 0 with no word and no visits, 2 with no word and all
-- visits.
use borrow.Author.Rules.{rules}
use mathlib.Core.Path.{sym, ◌∙◌}
use mathlib.Core.Logic.{◌≢◌, inl, inr}
use Prim.Native.Nat.{ℕ, ◌≤◌}
use mathlib.Core.Bool.{true≢false}
use native.Mathlib.Omega.{arith}
use Rattle.lists.proofs.Tests.{eqb-true, eqb-false}
use Rattle.lists.proofs.Lists.{length-0}
use Rattle.upto_validity.proofs.Validity.{staged-at, staged-empty, staged-fresh, staged-over, staged-few, sized-within, unsized-not}
use Rattle.upto_validity.proofs.staged.Goals as goal

-- no other stage
neither : (s : ℕ) → s ≢ 1 → s ≢ 0 → s ≢ 2 → s ≤ 2 → ⊥
neither s a b c l = omega (arith, a, b, c)

pub returns-then-word_size-eq0 : goal.returns-then-word_size-eq0
returns-then-word_size-eq0 c =
    let a = c.args in
    (λ e. absurd (true≢false (sym e)), λ e s. unsized-not a.n a.word.now _ c.word_size.ensures c.if-word_size-eq0.true (staged-at a.stage a.n a.word.now a.visits c.if-stage-eq1.true s).0)

pub visits_of-requires : goal.visits_of-requires
visits_of-requires c =
    let a = c.args in
    (sized-within a.n a.word.now _ c.word_size.ensures c.if-word_size-eq0.false, search rules)

pub returns-then-stage-eq1 : goal.returns-then-stage-eq1
returns-then-stage-eq1 c =
    let a = c.args in
    let v = c.visits_of.ensures in
    let r = c.visits_of.result in (
      λ e. inl (c.if-stage-eq1.true, sized-within a.n a.word.now _ c.word_size.ensures c.if-word_size-eq0.false, sym (eqb-true r a.visits e) ∙ v),
      λ e s. eqb-false r a.visits e (v ∙ sym (staged-at a.stage a.n a.word.now a.visits c.if-stage-eq1.true s).1),
    )
