-- `shares_valid` meets its contract: the loop's invariant: the shares so far are valid, and their ends are those of a division of j times the count by k.
use mathlib.Core.Path.{◌≡◌, sym, ◌∙◌}
use mathlib.Core.Bool.{Bool, true, false}
use Prim.Native.Nat.{ℕ, suc, ◌+◌, ◌*◌, ◌≤◌}
use native.Mathlib.Numerals.{add-one}
use native.Mathlib.Omega.{arith}
use Rattle.lists.specs.Ranges.{every}
use Rattle.book.proofs.Entries.{every-false}
use Rattle.book_validity.proofs.Ends.{ended, end_more, shared}
use Rattle.book.specs.Shares.{last}
use Rattle.book_entries.specs.Entries.{book_with, own_valid}
use Rattle.book_validity.proofs.shares_valid.Goals as goal

all_valid : (k : ℕ) (t : ℕ → Bool) (i : ℕ) → k ≤ i → i ≤ k → every i t ≡ true → every k t ≡ true
all_valid k t i l u h = let e : i ≡ k = omega arith in rw e at h

pub returns-then-not-own_valid : goal.returns-then-not-own_valid
returns-then-not-own_valid c =
    let f : c.onward-ends.result.last * c.args.h.shares + c.onward-ends.result.rest ≡ (c.loop-i.i + 1) * c.args.total = end_more c.args.h.shares c.loop-i.i c.loop-i.before c.loop-i.rest c.onward-ends.result.last c.onward-ends.result.rest _ _ c.args.total c.onward-ends.ensures.1 c.loop-i.invariant.3 (shared c.args.total c.args.h.shares) in
    let s : c.loop-i.before ≡ last c.args.h.size c.args.h.shares c.loop-i.i = ended _ _ _ _ c.loop-i.rest c.args.total c.requires.0 c.loop-i.invariant.3 c.loop-i.invariant.2 in
    let e : c.onward-ends.result.last ≡ last c.args.h.size c.args.h.shares (c.loop-i.i + 1) = ended _ _ _ _ c.onward-ends.result.rest c.args.total c.requires.0 f c.onward-ends.ensures.0 in
    sym (every-false c.args.h.shares _ (suc c.loop-i.i) (omega arith) (sym (c.own_valid.ensures c.args.h.size c.args.h.shares s e) ∙ c.if-not-own_valid.true))

pub loop-i-preserved : goal.loop-i-preserved
loop-i-preserved c =
    let f : c.onward-ends.result.last * c.args.h.shares + c.onward-ends.result.rest ≡ (c.loop-i.i + 1) * c.args.total = end_more c.args.h.shares c.loop-i.i c.loop-i.before c.loop-i.rest c.onward-ends.result.last c.onward-ends.result.rest _ _ c.args.total c.onward-ends.ensures.1 c.loop-i.invariant.3 (shared c.args.total c.args.h.shares) in
    let s : c.loop-i.before ≡ last c.args.h.size c.args.h.shares c.loop-i.i = ended _ _ _ _ c.loop-i.rest c.args.total c.requires.0 c.loop-i.invariant.3 c.loop-i.invariant.2 in
    let e : c.onward-ends.result.last ≡ last c.args.h.size c.args.h.shares (c.loop-i.i + 1) = ended _ _ _ _ c.onward-ends.result.rest c.args.total c.requires.0 f c.onward-ends.ensures.0 in
    (omega arith, rw (add-one, sym (c.own_valid.ensures c.args.h.size c.args.h.shares s e) ∙ c.if-not-own_valid.false) c.loop-i.invariant.1, c.onward-ends.ensures.0, f)

pub returns : goal.returns
returns c = sym (all_valid _ _ c.loop-i.i c.loop-i-test.false c.loop-i.invariant.0 c.loop-i.invariant.1)
