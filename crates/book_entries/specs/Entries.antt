-- What the code over a book's entries tests. It is lent the book's lists and numbers, and speaks of the book made of them.
--
--   book_of n k ..          the book of size n in k shares with that latest tick, those tickets issued and those lists
--   book_with h ..          the same, the four numbers as one value
--   Full p t e             each of the three lists has 32 entries
--   own_valid b j          share j's own entries are valid: all of share_valid but ticket_once, which looks at other shares
--   unused_after p t e k   the entries k + 1..32 of the three lists are 0
use Rattle.std.specs.Prelude.{◌≡◌, Bool, List, ℕ, ◌+◌, ◌-◌, eqb, length}
use Rattle.lists.specs.Lists.{at}
use Rattle.lists.specs.Ranges.{every}
use Rattle.book.specs.declared.types.Book.{Book}
use Rattle.book.specs.declared.types.Heads.{Heads}
use Rattle.book.specs.Valid.{both, next_in, finished_free, ticket_issued, expiry_in}

abbrev pub book_of : ℕ → ℕ → ℕ → ℕ → List ℕ → List ℕ → List ℕ → Book
book_of n k tick issues p t e = record { size = n; shares = k; latest = tick; issued = issues; next = p; ticket = t; expiry = e }

abbrev pub book_with : Heads → List ℕ → List ℕ → List ℕ → Book
book_with h p t e = book_of h.size h.shares h.latest h.issued p t e

abbrev pub Full : List ℕ → List ℕ → List ℕ → Type 0
Full p t e = (length p ≡ 32) × (length t ≡ 32) × (length e ≡ 32)

unfoldable pub own_valid : Book → ℕ → Bool
own_valid b j = both (next_in b j) (both (finished_free b j) (both (ticket_issued b j) (expiry_in b j)))

unfoldable pub unused_after : List ℕ → List ℕ → List ℕ → ℕ → Bool
unused_after p t e k = every (32 - k) (λ m. both (eqb (at p (k + m)) 0) (both (eqb (at t (k + m)) 0) (eqb (at e (k + m)) 0)))
