-- `own_valid` meets its contract: the tests of one share, put together in another order than the definition's.
use borrow.Author.Rules.{rules}
use mathlib.Core.Path.{◌≡◌, sym, ◌∙◌}
use mathlib.Core.List.{List}
use Prim.Native.Nat.{ℕ, suc, pred, ◌+◌}
use native.Mathlib.Numerals.{add-one}
use native.Mathlib.Omega.{arith}
use lib.Dec.{leb}
use Rattle.lists.specs.Lists.{at}
use Rattle.book.specs.Shares.{first, last, finished}
use Rattle.book.specs.Valid.{both, next_in, finished_free, ticket_issued, expiry_in}
use Rattle.book_entries_conditions.specs.Conditions.{placed, timely}
use Rattle.book_entries.specs.Entries.{book_of, own_valid}
use Rattle.book.proofs.Entries.{both-both}
use Rattle.book_entries.proofs.own_valid.Goals as goal

-- the tests of `own_valid`, the first two as one
own-tests : (n k latest issued : ℕ) (next ticket expiry : List ℕ) (i x y : ℕ) → x ≡ last n k i → y ≡ last n k (i + 1)
    → own_valid (book_of n k latest issued next ticket expiry) (suc i) ≡ both (placed x y (at next (suc i)) (at ticket (suc i))) (both (leb (at ticket (suc i)) issued) (timely (at ticket (suc i)) (at expiry (suc i)) latest))
unfolding own_valid next_in finished_free ticket_issued expiry_in finished first placed timely
own-tests n k latest issued next ticket expiry i x y p q =
    let e : pred (suc i) ≡ i = omega arith in
    rw (p, q, e, add-one, both-both)

pub returns-then-place_valid : goal.returns-then-place_valid
returns-then-place_valid c n k p q =
    let e = c.before in
    let t = e.before.before in
    let a = t.before.before.before.before.before.before.before.args in
    rw (c.both.ensures, e.expiry_in.ensures, own-tests n k a.latest a.issued a.next.now a.ticket.now a.expiry.now a.i _ _ p q, sym t.before.place_valid.ensures ∙ t.if-place_valid.true)

pub returns : goal.returns
returns c n k p q =
    let a = c.args in
    rw (own-tests n k a.latest a.issued a.next.now a.ticket.now a.expiry.now a.i _ _ p q, sym c.place_valid.ensures ∙ c.if-place_valid.false)
