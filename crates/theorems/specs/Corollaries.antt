-- What follows from the first list of demand 3 and users will look for. The book b is the one that any list of calls from an opened book
-- left, C the positions that the list has committed.
--
--   Powerless b tick t    a session with the ticket t can neither commit, a position or a range, nor release nor take at that tick
--   SameShare b b' j      share j's entries are as they were
--   Corollaries n k b C   the statements;  CorollariesHold, that they hold after every list of calls
use Rattle.std.specs.Prelude.{◌≡◌, ◌≢◌, ◌⊎◌, true, List, ℕ, ◌≤◌, ◌<◌, length, Ok}
use Rattle.lists.specs.Lists.{Has}
use Rattle.lists.specs.Ranges.{OneTo}
use Rattle.book.specs.declared.types.Book.{Book}
use Rattle.book.specs.declared.types.Taken.{Taken}
use Rattle.book.specs.Shares.{next, ticket, expiry, committed, holder, lapsed, first}
use Rattle.book.specs.Calls.{open_answer, open_book, take_answer, commit_answer, commit_range_answer, release_answer, release_book}
use Rattle.book.specs.Holding.{ShareHolds}
use Rattle.theorems.specs.FirstList.{Call, book_after_all, commits}

pub record Powerless (b : Book) (tick t : ℕ) : Type 0 where
  pub no_commit : (p : ℕ) → commit_answer b tick t p ≢ Ok tt
  pub no_range : (p q : ℕ) → commit_range_answer b tick t p q ≢ Ok tt
  pub no_release : release_answer b tick t ≢ Ok tt
  pub no_take : (l0 l1 lw : ℕ) (g : Taken) → take_answer b tick t l0 l1 lw ≢ Ok g

pub record SameShare (b b' : Book) (j : ℕ) : Type 0 where
  pub same_next : next b' j ≡ next b j
  pub same_ticket : ticket b' j ≡ ticket b j
  pub same_expiry : expiry b' j ≡ expiry b j

pub record Corollaries (n k : ℕ) (b : Book) (C : List ℕ) : Type 0 where
  -- a ticket that stands at no share, because it has been replaced or has ended, has no power, nor has one that has lapsed
  pub ended : (tick t : ℕ) → holder b t ≡ 0 → Powerless b tick t
  pub lapses : (tick t : ℕ) → lapsed b (holder b t) tick ≡ true → Powerless b tick t
  -- and a ticket that has been issued and stands nowhere never stands again
  pub for_good : (t : ℕ) → t ≤ b.issued → holder b t ≡ 0 → (more : List Call) → holder (book_after_all b more) t ≡ 0
  -- a release touches no share but the one where the ticket that it names stands
  pub own_share : (tick t j : ℕ) → OneTo 32 j → j ≢ holder b t → SameShare b (release_book b tick t) j
  -- the committed positions of a share are always a beginning of it
  pub beginning : (j p q : ℕ) → ShareHolds n k j p → Has p C → first n k j ≤ q → q < p → Has q C
  -- the report never falls
  pub never_falls : (more : List Call) → committed b ≤ committed (book_after_all b more)

abbrev pub CorollariesHold : Type 0
CorollariesHold =
    (lent : Book) (n k : ℕ) → open_answer n k ≡ Ok tt
    → (calls : List Call) → Corollaries n k (book_after_all (open_book lent n k) calls) (commits (open_book lent n k) calls)
