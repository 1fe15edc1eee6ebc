-- `share_free` meets its contract: a valid book has its share among 32 entries; the tests are then the definition's.
use native.Mathlib.Omega.{arith}
use mathlib.Core.Path.{◌≡◌, refl, sym, ◌∙◌}
use mathlib.Core.Bool.{true}
use Prim.Native.Nat.{ℕ}
use Rattle.refusals.specs.Named.{named}
use Rattle.lists.proofs.Tests.{lt-true, lt-false}
use Rattle.book.specs.declared.types.Book.{Book}
use Rattle.book_entries.specs.Entries.{book_with}
use Rattle.lists.specs.Ranges.{OneTo}
use Rattle.book.specs.Shares.{finished, lapsed}
use Rattle.book.specs.Valid.{valid}
use Rattle.book.specs.Calls.{held}
use Rattle.book_claims.specs.Claims.{share_number}
use Rattle.book.proofs.ValidBook.{valid-facts}
use Rattle.book_claims.proofs.share_free.Goals as goal

one-of-32 : (b : Book) (j : ℕ) → valid b ≡ true → OneTo b.shares j → OneTo 32 j
one-of-32 b j v e = let S = valid-facts b v in let k = S.shares_in in omega arith

pub entry-requires : goal.entry-requires
entry-requires c = (one-of-32 (book_with c.args.h c.args.nexts.now c.args.tickets.now c.args.expiries.now) c.args.share c.requires.0 c.requires.1, c.requires.2.0)

pub past-requires : goal.past-requires
past-requires c =
    let b = book_with c.args.h c.args.nexts.now c.args.tickets.now c.args.expiries.now in
    let S = valid-facts b c.requires.0 in
    (S.size_in, S.shares_in, one-of-32 b c.args.share c.requires.0 c.requires.1)

pub entry-requires-2 : goal.entry-requires-2
entry-requires-2 c = (one-of-32 (book_with c.args.h c.args.nexts.now c.args.tickets.now c.args.expiries.now) c.args.share c.requires.0 c.requires.1, c.requires.2.1)

pub entry-requires-3 : goal.entry-requires-3
entry-requires-3 c = (one-of-32 (book_with c.args.h c.args.nexts.now c.args.tickets.now c.args.expiries.now) c.args.share c.requires.0 c.requires.1, c.requires.2.2)

-- the three tests, as the definitions make them
pub returns-then-past : goal.returns-then-past
unfolding share_number finished named
returns-then-past c = rw (rw c.entry.ensures at (sym c.past.ensures ∙ c.if-past.true)) refl

pub returns-then-held : goal.returns-then-held
unfolding share_number finished held lapsed named
returns-then-held c =
    rw (
      rw c.entry.ensures at (sym c.past.ensures ∙ c.if-past.false),
      rw (c.entry-2.ensures, c.entry-3.ensures) at (sym c.held.ensures ∙ c.if-held.true),
    ) refl

pub returns-then-h-lt65535 : goal.returns-then-h-lt65535
unfolding share_number finished held lapsed
returns-then-h-lt65535 c =
    rw (
      rw c.entry.ensures at (sym c.past.ensures ∙ c.if-past.false),
      rw (c.entry-2.ensures, c.entry-3.ensures) at (sym c.held.ensures ∙ c.if-held.false),
      lt-true _ _ c.if-h-lt65535.true,
    ) refl

pub returns : goal.returns
unfolding share_number finished held lapsed named
returns c =
    rw (
      rw c.entry.ensures at (sym c.past.ensures ∙ c.if-past.false),
      rw (c.entry-2.ensures, c.entry-3.ensures) at (sym c.held.ensures ∙ c.if-held.false),
      lt-false _ _ c.if-h-lt65535.false,
    ) refl
