-- `comes_before` meets its contract: the root's word does not come before itself, nor a moved edge's before a fixed root's, and where a
-- traced word leaves own the two stand to each other as what follows there.
use mathlib.Core.Path.{sym, ap, ◌∙◌}
use mathlib.Core.Bool.{true≢false}
use Rattle.words.proofs.Order.{lesser-first, before-false}
use Rattle.labelling.specs.Labelling.{word_of}
use Rattle.labelling.proofs.FirstItems.{moved-not-before}
use Rattle.labelling_rootings.proofs.Tried.{traced-ended, traced-decided}
use Rattle.labelling_rootings.proofs.comes_before.Goals as goal

pub returns-then-x-root-clause-answer : goal.returns-then-x-root-clause-answer
returns-then-x-root-clause-answer c = sym (lesser-first _ _ (sym (ap (word_of _ _) c.if-x-root.true ∙ c.requires.root_value)))

pub returns-then-not-fixes-clause-answer : goal.returns-then-not-fixes-clause-answer
returns-then-not-fixes-clause-answer c =
    let m = moved-not-before c.args.s0.now c.args.s1.now c.args.root c.args.x (c.requires.root_value_2 c.if-fixed.true) (λ e. true≢false (sym (c.fixes.ensures.1 e) ∙ c.if-not-fixes.true)) in
    sym (before-false (word_of c.args.s0.now c.args.s1.now c.args.x) c.args.own.now (rw c.requires.root_value at m))

pub returns-then-t-clause-answer : goal.returns-then-t-clause-answer
returns-then-t-clause-answer c = traced-ended c.trace-t.ensures.traced c.if-t.true

pub returns-clause-answer : goal.returns-clause-answer
returns-clause-answer c = c.second_is_lesser.ensures ∙ traced-decided c.trace-t.ensures.traced c.if-t.false
