-- `valid` meets its contract: the numbers are tested before the entries, whose ends they keep small.
use borrow.Author.Rules.{rules}
use mathlib.Core.Path.{◌≡◌, sym, ◌∙◌}
use mathlib.Core.Bool.{true}
use mathlib.Core.List.{List}
use Prim.Native.Nat.{ℕ, ◌^◌, ◌<◌}
use lib.Dec.{leb, ltb}
use Rattle.lists.specs.Ranges.{OneTo}
use Rattle.lists.proofs.Tests.{both_true, ltb-true}
use Rattle.book.specs.declared.types.Heads.{Heads}
use Rattle.book.specs.Valid.{both, among, in_range, counters_in, entries_valid, valid}
use Rattle.book_entries.specs.Entries.{book_with}
use Rattle.book_heads.specs.Heads.{heads_valid}
use Rattle.book.proofs.ValidBook.{among-true}
use Rattle.book.proofs.Entries.{both-both}
use Rattle.book_validity.proofs.valid.Goals as goal

-- the test of the heads comes before that of the entries
valid-tests : (h : Heads) (p t e : List ℕ) → valid (book_with h p t e) ≡ both (heads_valid h) (entries_valid (book_with h p t e))
unfolding valid in_range counters_in
valid-tests h p t e = both-both (both (among 50 h.size) (among 32 h.shares)) (both (leb h.issued 65535) (ltb h.latest (2 ^ 48))) (entries_valid (book_with h p t e))

record Grounds (h : Heads) : Type 0 where
  size_in : OneTo 50 h.size
  shares_in : OneTo 32 h.shares
  latest_in : h.latest < 2 ^ 48

grounds : (h : Heads) → heads_valid h ≡ true → Grounds h
grounds h e =
    let q = both_true (both (among 50 h.size) (among 32 h.shares)) (both (leb h.issued 65535) (ltb h.latest (2 ^ 48))) e in
    let r = both_true (among 50 h.size) (among 32 h.shares) q.0 in
    let s = both_true (leb h.issued 65535) (ltb h.latest (2 ^ 48)) q.1 in
    record { size_in = among-true 50 h.size r.0; shares_in = among-true 32 h.shares r.1; latest_in = ltb-true h.latest (2 ^ 48) s.1 }

pub returns-then-heads_valid : goal.returns-then-heads_valid
returns-then-heads_valid c =
    rw (c.entries_valid.ensures, valid-tests, sym c.heads_valid.ensures ∙ c.if-heads_valid.true)

pub returns : goal.returns
returns c = rw (valid-tests, sym c.heads_valid.ensures ∙ c.if-heads_valid.false)

pub count_of-requires : goal.count_of-requires
count_of-requires c = (grounds c.args.h (sym c.heads_valid.ensures ∙ c.if-heads_valid.true)).size_in

pub entries_valid-requires : goal.entries_valid-requires
entries_valid-requires c =
    let s = grounds c.args.h (sym c.heads_valid.ensures ∙ c.if-heads_valid.true) in
    (c.count_of.ensures.0, c.count_of.ensures.1, s.shares_in, s.latest_in, c.requires)
