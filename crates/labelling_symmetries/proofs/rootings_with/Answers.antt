-- `rootings_with` meets its contract.
use borrow.Author.Rules.{rules}
use mathlib.Core.Path.{◌≡◌}
use mathlib.Core.Bool.{Bool, true, false}
use mathlib.Core.Logic.{◌↔◌}
use mathlib.Core.List.{List}
use Prim.Native.Nat.{ℕ, ◌+◌}
use native.Mathlib.Omega.{arith}
use lib.ListN.{length}
use Rattle.std.specs.Int.{from_bool}
use Rattle.lists.specs.Ranges.{card}
use Rattle.lists.proofs.Ranges.{card-most}
use Rattle.words.specs.Order.{same}
use Rattle.labelling.specs.Labelling.{word_of}
use Rattle.labelling_rootings.specs.Among.{rootings_with}
use Rattle.labelling_rootings.proofs.Tried.{card-more}
use Rattle.labelling_symmetries.proofs.rootings_with.Goals as goal

-- the rooting x counted too
counted : (s0 s1 own : List ℕ) (k x found : ℕ) (b : Bool) → x ≡ k + 1 → found ≡ card k (λ y. same (word_of s0 s1 y) own) → (b ≡ true) ↔ (word_of s0 s1 x ≡ own) → found + from_bool b ≡ card (k + 1) (λ y. same (word_of s0 s1 y) own)
counted s0 s1 own k x found true e f is = let g = card-more s0 s1 own k true (rw e at is) in omega arith
counted s0 s1 own k x found false e f is = let g = card-more s0 s1 own k false (rw e at is) in omega arith

pub overflow_add-found : goal.overflow_add-found
overflow_add-found c =
    let (k, x, f) = c.loop-x.invariant.1 in
    let e = counted c.args.s0.now c.args.s1.now c.args.own.now k c.loop-x.x c.loop-x.found c.has_word.result x f c.has_word.ensures.answer in
    let i = card-most (k + 1) (λ y. same (word_of c.args.s0.now c.args.s1.now y) c.args.own.now) in
    let n = c.requires.accepts.size in
    omega arith

pub loop-x-preserved : goal.loop-x-preserved
loop-x-preserved c =
    let (k, x, f) = c.loop-x.invariant.1 in
    let e = counted c.args.s0.now c.args.s1.now c.args.own.now k c.loop-x.x c.loop-x.found c.has_word.result x f c.has_word.ensures.answer in (
      record { size_is = c.loop-x.invariant.0.size_is; fresh = c.has_word.ensures.stamped; empty = c.has_word.ensures.empty; long = search rules },
      (k + 1, omega arith, omega arith),
    )

-- the last rooting is tried too
pub returns-2-clause-number : goal.returns-2-clause-number
unfolding rootings_with
returns-2-clause-number c =
    let (k, x, f) = c.loop-x.invariant.1 in
    let e = counted c.args.s0.now c.args.s1.now c.args.own.now k c.loop-x.x c.loop-x.found c.has_word.result x f c.has_word.ensures.answer in
    let r : c.loop-x.found + c.from-found.result ≡ card (k + 1) (λ y. same (word_of c.args.s0.now c.args.s1.now y) c.args.own.now) = omega arith in
    let l : k + 1 ≡ length c.args.s0.now = omega arith in
    rw l at r
