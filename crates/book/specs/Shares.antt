-- The shares of a book (document 01, "Share book"). Shares are numbered 1 to k; share j of k holds the positions
-- floor((j - 1)·N/k) + 1 to floor(j·N/k), N being the count of the size.
--
--   first n k j, last n k j            the first and the last position that share j of k holds, for size n
--   next b j, ticket b j, expiry b j   share j's entries in the book b
--   finished b j                       share j's next position is past its last
--   done b j                           how many positions of share j have been committed
--   committed b, complete b            how many in all; every share is finished
--   holder b t                         the share where the ticket t stands; 0 where it stands at none (0 never does)
--   lapsed b j tick                    at that tick, share j's ticket has lapsed
--
-- In the field's words: a book is a lease table, a share a shard of the work, a ticket the fencing token of a share's lease.
use Rattle.std.specs.Prelude.{Bool, true, false, cond, ℕ, zero, suc, ◌+◌, ◌-◌, ◌*◌, ◌/◌, pred, eqb, leb, ltb}
use Rattle.lists.specs.Lists.{at}
use Rattle.lists.specs.Ranges.{every, sum}
use Rattle.listing.specs.Listing.{count}
use Rattle.book.specs.declared.types.Book.{Book}

-- a share is a shard: consecutive positions, of which one session at a time works
unfoldable pub last : ℕ → ℕ → ℕ → ℕ
last n k j = j * count n / k

unfoldable pub first : ℕ → ℕ → ℕ → ℕ
first n k j = suc (last n k (pred j))

abbrev pub next : Book → ℕ → ℕ
next b j = at b.next j

-- the ticket is the fencing token of the share's lease: numbers only grow, and an old one has no power
abbrev pub ticket : Book → ℕ → ℕ
ticket b j = at b.ticket j

-- the tick, logical time given by the caller, at which the lease ends
abbrev pub expiry : Book → ℕ → ℕ
expiry b j = at b.expiry j

unfoldable pub finished : Book → ℕ → Bool
finished b j = ltb (last b.size b.shares j) (next b j)

unfoldable pub done : Book → ℕ → ℕ
done b j = next b j - first b.size b.shares j

-- what the report tells: the progress
unfoldable pub committed : Book → ℕ
committed b = sum b.shares (done b)

-- all the work is finished
unfoldable pub complete : Book → Bool
complete b = every b.shares (finished b)

-- the first of the shares 1..m, counted down from m, where the ticket stands
abbrev pub standing : Book → ℕ → ℕ → ℕ
standing b t zero = 0
standing b t (suc m) = cond (eqb (ticket b (suc m)) t) (suc m) (standing b t m)

unfoldable pub holder : Book → ℕ → ℕ
holder b t = cond (eqb t 0) 0 (standing b t b.shares)

-- the lease has expired
unfoldable pub lapsed : Book → ℕ → ℕ → Bool
lapsed b j tick = leb (expiry b j) tick
