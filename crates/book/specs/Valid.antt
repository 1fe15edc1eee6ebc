-- A valid book, each condition of refusal 50 by name (document 01, "Share book").
--
--   in_range b            the size is 1..50 and the number of shares 1..32
--   counters_in b         at most 65,535 tickets issued, and the latest tick is below 2^48
--   next_in b j           share j's next position is in the share or just past it
--   finished_free b j     share j has no ticket if it is finished
--   ticket_once b j       share j's ticket, if it has one, stands at no share before
--   ticket_issued b j     share j's ticket is not above those issued
--   expiry_in b j         share j's expiry is 0 without a ticket, and at most 65,535 beyond the latest tick
--   share_valid b j       the last five of share j;  entry_unused b j, entry j of the three lists is 0
--   entries_valid b       the shares 1..k are valid, and the entries after them unused
--   valid b               all of it: the book is not refused 50
use Rattle.std.specs.Prelude.{Bool, true, false, cond, ℕ, zero, suc, ◌+◌, ◌-◌, ◌^◌, eqb, leb, ltb}
use Rattle.lists.specs.Lists.{at}
use Rattle.lists.specs.Ranges.{every}
pub use Rattle.book_connectives.specs.Connectives.{both, either, among}
use Rattle.book.specs.declared.types.Book.{Book}
use Rattle.book.specs.Shares.{first, last, next, ticket, expiry, finished}

-- the size is 1..50, the number of shares 1..32
unfoldable pub in_range : Book → Bool
in_range b = both (among 50 b.size) (among 32 b.shares)

-- a share's next position is in the share or just past it
unfoldable pub next_in : Book → ℕ → Bool
next_in b j = both (leb (first b.size b.shares j) (next b j)) (leb (next b j) (suc (last b.size b.shares j)))

-- a finished share has no ticket
unfoldable pub finished_free : Book → ℕ → Bool
finished_free b j = cond (finished b j) (eqb (ticket b j) 0) true

-- a ticket other than 0 stands at no share before j
unfoldable pub ticket_once : Book → ℕ → Bool
ticket_once b j = either (eqb (ticket b j) 0) (every (j - 1) (λ i. cond (eqb (ticket b i) (ticket b j)) false true))

-- a ticket has been issued
unfoldable pub ticket_issued : Book → ℕ → Bool
ticket_issued b j = leb (ticket b j) b.issued

-- without a ticket the expiry is 0; it lies at most 65,535 beyond the latest tick
unfoldable pub expiry_in : Book → ℕ → Bool
expiry_in b j = both (either (eqb (expiry b j) 0) (cond (eqb (ticket b j) 0) false true)) (leb (expiry b j) (b.latest + 65535))

-- all of these at share j
unfoldable pub share_valid : Book → ℕ → Bool
share_valid b j = both (next_in b j) (both (finished_free b j) (both (ticket_once b j) (both (ticket_issued b j) (expiry_in b j))))

-- entry j of the three lists is 0
unfoldable pub entry_unused : Book → ℕ → Bool
entry_unused b j = both (eqb (next b j) 0) (both (eqb (ticket b j) 0) (eqb (expiry b j) 0))

-- shares 1..k are valid, entries k + 1..32 unused
unfoldable pub entries_valid : Book → Bool
entries_valid b = every 32 (λ j. cond (leb j b.shares) (share_valid b j) (entry_unused b j))

-- at most 65,535 tickets issued; the latest tick is below 2^48
unfoldable pub counters_in : Book → Bool
counters_in b = both (leb b.issued 65535) (ltb b.latest (2 ^ 48))

unfoldable pub valid : Book → Bool
valid b = both (in_range b) (both (counters_in b) (entries_valid b))
