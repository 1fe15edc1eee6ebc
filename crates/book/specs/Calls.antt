-- What each operation of the share book answers and the book that it leaves, as functions of the book and the arguments (document 01,
-- "Share book"). A refused call leaves the book as it was.
--
--   open_number ..                  the number of the first condition that applies to an open, 0 where none does; so for claim, take, commit
--                                   and release
--   open_answer ..                  the answer of an open: accepted with its values, or the refusal of that number (refusals, Named); so for the others and the
--                                   report
--   open_book ..                    the book that an open leaves; so for claim, take, commit and release. The report alters nothing
--   opened n k                      the book of size n in k shares, each at its first position, without tickets
--   entered b tick issues j p t e   the book b with the next position p, the ticket t and the expiry e at share j, that latest tick, those
--                                   issued
--   ticked b tick                   the book b with that latest tick
--   tick_in b tick                  the tick is not below the latest, and below 2^48 (refusal 52)
--   held b j tick                   a ticket stands at share j and has not lapsed (refusal 56)
--   ticket_number b tick t rest     what take, commit and release check first: 50, 52, 58, 59
--   due b t                         the next position of the share where the ticket t stands
--   lists_hold n l0 l1 lw           lists of these lengths hold a diagram of n edges and its word (refusal 9)
--   take_list .. x a                what a take leaves in the lent list a, of which it writes x over the beginning where it is accepted
--   moved_to b tick j p              the book b with p as share j's next position; past the last position its ticket ends
--   book_moved_on b tick j                the book b with share j moved on by one
--   commits_number b tick t ps      the number of the first refusal where the positions ps are committed one after another, 0 where none is refused
--   commits_book b tick t ps        the book after all of them
--   positions p q                   the positions p, p + 1, .., q
--   commit_range_number ..          a range of commits: its number, its answer and the book that it leaves, as above
--   range_number b t p q            the same number in closed form, where the ticket is good (theorems, BookNumbers)
use Rattle.std.specs.Prelude.{◌≡◌, Bool, true, false, cond, List, [], ◌∷◌, ℕ, zero, suc, ◌+◌, ◌-◌, ◌^◌, eqb, leb, ltb, length, replicate, Result, Ok, Err}
use Rattle.lists.specs.Lists.{at, put, tabulate}
use Rattle.lists.specs.Ranges.{stretch}
use Rattle.words.specs.Outputs.{overwrite}
use Rattle.words.specs.Word.{Pair}
use Rattle.listing.specs.Position.{word_at}
use Rattle.listing.specs.Diagrams.{diagram_at}
use Rattle.refusals.specs.declared.Refusal.{Refusal}
use Rattle.refusals.specs.declared.Refusal.TheVariants as refusal
use Rattle.refusals.specs.Named.{answered}
use Rattle.book.specs.declared.types.Book.{Book}
use Rattle.book.specs.declared.types.Taken.{Taken}
use Rattle.book.specs.declared.types.Progress.{Progress}
use Rattle.book.specs.Shares.{first, last, next, finished, committed, complete, holder, lapsed}
use Rattle.book.specs.Valid.{both, either, among, valid}
pub use Rattle.book_connectives.specs.Connectives.{unless, not}

-- ---- open, a new lease table: 31, 51

unfoldable pub open_number : ℕ → ℕ → ℕ
open_number n k = unless (among 50 n) 31 (unless (among 32 k) 51 0)

-- shares 1..k of size n begin at their first positions, and nobody holds a ticket
unfoldable pub opened : ℕ → ℕ → Book
opened n k = record {
  size = n;
  shares = k;
  latest = 0;
  issued = 0;
  next = tabulate (λ j. cond (leb j k) (first n k j) 0) 32;
  ticket = replicate 32 0;
  expiry = replicate 32 0;
}

unfoldable pub open_answer : ℕ → ℕ → Result (Unit {0}) Refusal
open_answer n k = answered (open_number n k) tt

unfoldable pub open_book : Book → ℕ → ℕ → Book
open_book b n k = cond (eqb (open_number n k) 0) (opened n k) b

-- ---- the book with other entries at share j, and the tick kept as the latest

unfoldable pub entered : Book → ℕ → ℕ → ℕ → ℕ → ℕ → ℕ → Book
entered b tick issues j p t e = record {
  size = b.size;
  shares = b.shares;
  latest = tick;
  issued = issues;
  next = put b.next j p;
  ticket = put b.ticket j t;
  expiry = put b.expiry j e;
}

-- the book with that tick as the latest
unfoldable pub ticked : Book → ℕ → Book
ticked b tick = record { size = b.size; shares = b.shares; latest = tick; issued = b.issued; next = b.next; ticket = b.ticket; expiry = b.expiry }

-- 52: the tick is below the latest, or 2^48 and above
unfoldable pub tick_in : Book → ℕ → Bool
tick_in b tick = both (leb b.latest tick) (ltb tick (2 ^ 48))

-- ---- claim, acquiring a share's lease: 50, 52, 53 share outside 1..k, 54 length outside 1..65,535, 55 finished, 56 held and not lapsed, 57 all tickets issued

-- a ticket stands at share j and has not lapsed
unfoldable pub held : Book → ℕ → ℕ → Bool
held b j tick = both (not (eqb (at b.ticket j) 0)) (not (lapsed b j tick))

unfoldable pub claim_number : Book → ℕ → ℕ → ℕ → ℕ
claim_number b tick j len =
    unless (valid b) 50
    (unless (tick_in b tick) 52
    (unless (among b.shares j) 53
    (unless (among 65535 len) 54
    (unless (not (finished b j)) 55
    (unless (not (held b j tick)) 56
    (unless (ltb b.issued 65535) 57 0))))))

unfoldable pub claim_answer : Book → ℕ → ℕ → ℕ → Result ℕ Refusal
claim_answer b tick j len = answered (claim_number b tick j len) (suc b.issued)

unfoldable pub claim_book : Book → ℕ → ℕ → ℕ → Book
claim_book b tick j len = cond (eqb (claim_number b tick j len) 0) (entered b tick (suc b.issued) j (next b j) (suc b.issued) (tick + len)) b

-- ---- what take, commit and release check first, that the ticket is the token of a live lease: 50, 52, 58 the ticket stands at no share, 59 it has lapsed

unfoldable pub ticket_number : Book → ℕ → ℕ → ℕ → ℕ
ticket_number b tick t rest =
    unless (valid b) 50
    (unless (tick_in b tick) 52
    (unless (not (eqb (holder b t) 0)) 58
    (unless (not (lapsed b (holder b t) tick)) 59 rest)))

-- ---- take, reading the next unit of work: then 9, the output lists of lengths l0, l1 and lw being short

-- the position that a take with the ticket t gives
unfoldable pub due : Book → ℕ → ℕ
due b t = next b (holder b t)

-- n, n and n + 1 for the word
unfoldable pub lists_hold : ℕ → ℕ → ℕ → ℕ → Bool
lists_hold n l0 l1 lw = both (leb n l0) (both (leb n l1) (leb (suc n) lw))

unfoldable pub take_number : Book → ℕ → ℕ → ℕ → ℕ → ℕ → ℕ
take_number b tick t l0 l1 lw = ticket_number b tick t (unless (lists_hold b.size l0 l1 lw) 9 0)

unfoldable pub take_answer : Book → ℕ → ℕ → ℕ → ℕ → ℕ → Result Taken Refusal
take_answer b tick t l0 l1 lw =
    answered (take_number b tick t l0 l1 lw) (record { share = holder b t; position = due b t; length = length (word_at b.size (due b t)) })

unfoldable pub take_book : Book → ℕ → ℕ → ℕ → ℕ → ℕ → Book
take_book b tick t l0 l1 lw = cond (eqb (take_number b tick t l0 l1 lw) 0) (ticked b tick) b

-- the three lists after a take, from the lists before it
unfoldable pub take_list : Book → ℕ → ℕ → ℕ → ℕ → ℕ → List ℕ → List ℕ → List ℕ
take_list b tick t l0 l1 lw x a = cond (eqb (take_number b tick t l0 l1 lw) 0) (overwrite x a) a

-- ---- commit, recording a finished position under a live lease: then 60, not that share's next position

unfoldable pub commit_number : Book → ℕ → ℕ → ℕ → ℕ
commit_number b tick t p = ticket_number b tick t (unless (eqb p (due b t)) 60 0)

unfoldable pub commit_answer : Book → ℕ → ℕ → ℕ → Result (Unit {0}) Refusal
commit_answer b tick t p = answered (commit_number b tick t p) tt

-- the share goes on at p; past its last position its ticket ends
unfoldable pub moved_to : Book → ℕ → ℕ → ℕ → Book
moved_to b tick j p =
    cond (finished (entered b tick b.issued j p (at b.ticket j) (at b.expiry j)) j)
    (entered b tick b.issued j p 0 0)
    (entered b tick b.issued j p (at b.ticket j) (at b.expiry j))

-- the share moves on by one
unfoldable pub book_moved_on : Book → ℕ → ℕ → Book
book_moved_on b tick j = moved_to b tick j (suc (next b j))

unfoldable pub commit_book : Book → ℕ → ℕ → ℕ → Book
commit_book b tick t p = cond (eqb (commit_number b tick t p) 0) (book_moved_on b tick (holder b t)) b

-- ---- a range of commits: the positions first, first + 1, .., last are committed one after another at one tick, all of them or none: 60 also where
-- first is above last, after 50, 52, 58 and 59

-- the number of the first of these commits that is refused, each on the book that the one before left; 0 where none is
unfoldable pub commits_number : Book → ℕ → ℕ → List ℕ → ℕ
commits_number b tick t [] = 0
commits_number b tick t (p ∷ ps) =
    cond (eqb (commit_number b tick t p) 0) (commits_number (commit_book b tick t p) tick t ps) (commit_number b tick t p)

-- the book after all of them
unfoldable pub commits_book : Book → ℕ → ℕ → List ℕ → Book
commits_book b tick t [] = b
commits_book b tick t (p ∷ ps) = commits_book (commit_book b tick t p) tick t ps

-- the positions p, .., q
unfoldable pub positions : ℕ → ℕ → List ℕ
positions p q = stretch p (suc q - p)

unfoldable pub commit_range_number : Book → ℕ → ℕ → ℕ → ℕ → ℕ
commit_range_number b tick t p q = cond (leb p q) (commits_number b tick t (positions p q)) (ticket_number b tick t 60)

unfoldable pub commit_range_answer : Book → ℕ → ℕ → ℕ → ℕ → Result (Unit {0}) Refusal
commit_range_answer b tick t p q =
    answered (commit_range_number b tick t p q) tt

unfoldable pub commit_range_book : Book → ℕ → ℕ → ℕ → ℕ → Book
commit_range_book b tick t p q = cond (eqb (commit_range_number b tick t p q) 0) (commits_book b tick t (positions p q)) b

-- what a range of commits under a good ticket is refused by, of its two ends alone: 60, it is empty, or p is not the share's next position;
-- 58, q is past the share's last position, so that a commit of the range finds its ticket ended
unfoldable pub range_number : Book → ℕ → ℕ → ℕ → ℕ
range_number b t p q = unless (leb p q) 60 (unless (eqb p (due b t)) 60 (unless (leb q (last b.size b.shares (holder b t))) 58 0))

-- ---- release, giving the lease back

unfoldable pub release_number : Book → ℕ → ℕ → ℕ
release_number b tick t = ticket_number b tick t 0

unfoldable pub release_answer : Book → ℕ → ℕ → Result (Unit {0}) Refusal
release_answer b tick t = answered (release_number b tick t) tt

unfoldable pub release_book : Book → ℕ → ℕ → Book
release_book b tick t = cond (eqb (release_number b tick t) 0) (entered b tick b.issued (holder b t) (due b t) 0 0) b

-- ---- report, the progress: 50; it alters nothing

unfoldable pub report_answer : Book → Result Progress Refusal
report_answer b = cond (valid b) (Ok (record { committed = committed b; complete = complete b })) (Err refusal.BookNotValid)
