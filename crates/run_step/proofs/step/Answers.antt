-- `step` meets its contract: each return is a case of `Steps`, by the laws of `Standing`.
use Rattle.std.proofs.Common.{◌≡◌, ◌≢◌, refl, sym, ap, ◌∙◌, length}
use Rattle.words.proofs.Outputs.{untouched}
use Rattle.listing_successor.specs.declared.Held.{Held}
use Rattle.listing_successor.specs.Successor.{successor}
use Rattle.run_step.proofs.Promised.{step-34, step-over, step-9, step_end, step-next, step_gives}
use Rattle.run_step.proofs.step.Goals as goal

pub returns-then-not-valid : goal.returns-then-not-valid
returns-then-not-valid c =
    let a = c.args in
    (step-34 a.run a.s0.now a.s1.now a.word.now (c.valid.ensures.1 c.if-not-valid.true), refl, untouched a.s0.now a.s1.now a.word.now)

pub returns-then-run-eq2 : goal.returns-then-run-eq2
returns-then-run-eq2 c =
    let a = c.args in
    (step-over a.run a.s0.now a.s1.now a.word.now (c.valid.ensures.0 c.if-not-valid.false) c.if-run-eq2.true, untouched a.s0.now a.s1.now a.word.now)

pub returns-then-short : goal.returns-then-short
returns-then-short c =
    let a = c.args in
    (step-9 a.run a.s0.now a.s1.now a.word.now (c.valid.ensures.0 c.if-not-valid.false) c.if-run-eq2.false (c.short.ensures.0 c.if-short.true), refl, untouched a.s0.now a.s1.now a.word.now)

pub next_word-next-requires : goal.next_word-next-requires
next_word-next-requires c = c.valid.ensures.0 c.if-not-valid.false

pub returns-then-next-eq0 : goal.returns-then-next-eq0
returns-then-next-eq0 c =
    let a = c.args in
    let S = c.valid.ensures.0 c.if-not-valid.false in
    let long : c.next_word-next.result.length ≡ length (successor a.run.size S.word) = ap (λ (h : Held). h.length) (c.next_word-next.ensures S) in (
      step_end a.run a.s0.now a.s1.now a.word.now S c.if-run-eq2.false (c.short.ensures.1 c.if-short.false) _ c.empty.ensures (sym long ∙ c.if-next-eq0.true),
      untouched a.s0.now a.s1.now a.word.now,
    )

pub give-requires : goal.give-requires
give-requires c =
    let a = c.args in
    let S = c.valid.ensures.0 c.if-not-valid.false in
    let long : c.next_word-next.result.length ≡ length (successor a.run.size S.word) = ap (λ (h : Held). h.length) (c.next_word-next.ensures S) in
    let k = c.short.ensures.1 c.if-short.false in
    let n : length (successor a.run.size S.word) ≢ 0 = λ z. c.if-next-eq0.false (long ∙ z) in
    (S.sized.1, (successor a.run.size S.word, c.next_word-next.ensures S, step-next a.run a.s0.now a.s1.now a.word.now S c.if-run-eq2.false k n), k)

pub returns : goal.returns
returns c =
    let a = c.args in
    let S = c.valid.ensures.0 c.if-not-valid.false in
    let long : c.next_word-next.result.length ≡ length (successor a.run.size S.word) = ap (λ (h : Held). h.length) (c.next_word-next.ensures S) in
    let k = c.short.ensures.1 c.if-short.false in
    let n : length (successor a.run.size S.word) ≢ 0 = λ z. c.if-next-eq0.false (long ∙ z) in
    step_gives a.run a.s0.now a.s1.now a.word.now S c.if-run-eq2.false k c.give.result _ _ _ n
    (c.give.ensures (successor a.run.size S.word) (c.next_word-next.ensures S) (step-next a.run a.s0.now a.s1.now a.word.now S c.if-run-eq2.false k n))
