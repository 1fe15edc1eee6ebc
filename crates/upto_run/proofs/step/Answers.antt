-- `step` meets its contract: each return is a case of `UptoStepPromise`, by the laws of `Promised`.
use borrow.Author.Rules.{rules}
use mathlib.Core.Path.{◌≡◌, refl, sym, ap, ◌∙◌}
use mathlib.Core.Logic.{◌≢◌}
use mathlib.Core.List.{List, []}
use Prim.Native.Nat.{ℕ, suc, ◌+◌, ◌-◌, ◌≤◌}
use native.Mathlib.Omega.{arith}
use lib.ListN.{length}
use Rattle.words.specs.Shape.{Word}
use Rattle.words.specs.Outputs.{Short}
use Rattle.words.proofs.Outputs.{untouched}
use Rattle.words.proofs.Shape.{word_length}
use Rattle.listing_successor_endings.specs.Endings.{shared_word}
use Rattle.listing_successor_endings.specs.declared.Next.{Next}
use Rattle.upto_words.specs.Within.{labels_of}
use Rattle.upto_words.specs.Successor.{following, following_shared}
use Rattle.upto_answers.specs.declared.UptoRun.{UptoRun}
use Rattle.upto_validity.specs.Valid.{ValidUpto}
use Rattle.upto_run.proofs.Promised.{step-34, step-over, step-9, step_end, next_word, next-size, shared-below, visits-fit, step_gives}
use Rattle.upto_run.proofs.step.Goals as goal

-- the word that follows, its length, and how much of it is shared
module _ (run : UptoRun) (S : ValidUpto run) (r : Next) (e : r ≡ shared_word (following_shared run.bound S.word) (following run.bound S.word)) where
  long : r.length ≡ length (following run.bound S.word)
  long = ap (λ (x : Next). x.length) e

  shared : r.shared ≡ following_shared run.bound S.word
  shared = ap (λ (x : Next). x.shared) e

  -- where there is one
  module _ (g : run.stage ≢ 2) (z : r.length ≢ 0) where
    some : length (following run.bound S.word) ≢ 0
    some y = z (long ∙ y)

    word : Word (labels_of (following run.bound S.word)) (following run.bound S.word)
    word = next_word run [] [] [] S g some

    sized : labels_of (following run.bound S.word) ≤ 50
    sized = next-size run [] [] [] S g some

    few : length (following run.bound S.word) ≤ 51
    few = let w = word_length (labels_of (following run.bound S.word)) (following run.bound S.word) word in let m = sized in omega arith

    -- it is longer than what it shares
    more : suc r.shared ≤ r.length
    more = let l = shared-below run [] [] [] S g some in let x = long in let y = shared in omega arith

    -- the visits so far, as the code adds them
    counted : run.visits + (r.length - r.shared - 1) ≡ run.visits + (length (following run.bound S.word) - suc (following_shared run.bound S.word))
    counted = let x = long in let y = shared in omega arith

pub returns-then-not-valid : goal.returns-then-not-valid
returns-then-not-valid c =
    let a = c.args in
    (step-34 a.run a.s0.now a.s1.now a.word.now (c.if-not-valid.ensures.1 refl), refl, untouched a.s0.now a.s1.now a.word.now)

pub returns-then-run-eq2 : goal.returns-then-run-eq2
returns-then-run-eq2 c =
    let a = c.args in
    (step-over a.run a.s0.now a.s1.now a.word.now (c.if-not-valid.ensures.0 refl) c.if-run-eq2.true, untouched a.s0.now a.s1.now a.word.now)

pub returns-then-next-eq0 : goal.returns-then-next-eq0
returns-then-next-eq0 c =
    let a = c.args in
    let S = c.if-not-valid.ensures.0 refl in (
      step_end a.run a.s0.now a.s1.now a.word.now S c.if-run-eq2.false _ c.empty.ensures (sym (long a.run S c.next_word-next.result (c.next_word-next.ensures S)) ∙ c.if-next-eq0.true),
      untouched a.s0.now a.s1.now a.word.now,
    )

pub size_of-size-requires : goal.size_of-size-requires
size_of-size-requires c =
    let S = c.if-not-valid.ensures.0 refl in
    (_, _, c.next_word-next.ensures S, few c.args.run S c.next_word-next.result (c.next_word-next.ensures S) c.if-run-eq2.false c.if-next-eq0.false)

pub returns-then-short : goal.returns-then-short
returns-then-short c =
    let a = c.args in
    let S = c.if-not-valid.ensures.0 refl in
    let e = c.next_word-next.ensures S in
    let n = c.size_of-size.ensures _ _ e in
    (step-9 a.run a.s0.now a.s1.now a.word.now S c.if-run-eq2.false (some a.run S c.next_word-next.result e c.if-run-eq2.false c.if-next-eq0.false) (rw n at (c.short.ensures.0 c.if-short.true)), refl, untouched a.s0.now a.s1.now a.word.now)

pub overflow_sub-new : goal.overflow_sub-new
overflow_sub-new c = let S = c.if-not-valid.ensures.0 refl in let l = more c.args.run S c.next_word-next.result (c.next_word-next.ensures S) c.if-run-eq2.false c.if-next-eq0.false in omega arith

pub overflow_sub-new-2 : goal.overflow_sub-new-2
overflow_sub-new-2 c = let S = c.if-not-valid.ensures.0 refl in let l = more c.args.run S c.next_word-next.result (c.next_word-next.ensures S) c.if-run-eq2.false c.if-next-eq0.false in omega arith

pub overflow_add-run : goal.overflow_add-run
overflow_add-run c =
    let a = c.args in
    let S = c.if-not-valid.ensures.0 refl in
    let e = c.next_word-next.ensures S in
    let f = visits-fit a.run a.s0.now a.s1.now a.word.now S c.if-run-eq2.false (some a.run S c.next_word-next.result e c.if-run-eq2.false c.if-next-eq0.false) in
    let q = counted a.run S c.next_word-next.result e c.if-run-eq2.false c.if-next-eq0.false in
    omega arith

pub give-requires : goal.give-requires
give-requires c =
    let a = c.args in
    let S = c.if-not-valid.ensures.0 refl in
    let e = c.next_word-next.ensures S in
    let n = c.size_of-size.ensures _ _ e in
    let g = c.if-run-eq2.false in
    let z = c.if-next-eq0.false in
    (rw n (sized a.run S c.next_word-next.result e g z), (_, _, e, rw n (word a.run S c.next_word-next.result e g z)), c.short.ensures.1 c.if-short.false)

pub returns : goal.returns
returns c =
    let a = c.args in
    let S = c.if-not-valid.ensures.0 refl in
    let e = c.next_word-next.ensures S in
    let n = c.size_of-size.ensures _ _ e in
    let g = c.if-run-eq2.false in
    let z = c.if-next-eq0.false in
    step_gives a.run a.s0.now a.s1.now a.word.now S g (some a.run S c.next_word-next.result e g z) c.give.result _ _ _ (rw n at (c.short.ensures.1 c.if-short.false))
    (rw (n, counted a.run S c.next_word-next.result e g z) at (c.give.ensures _ _ e (rw n (word a.run S c.next_word-next.result e g z))))
