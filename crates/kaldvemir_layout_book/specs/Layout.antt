-- The book as numbers in a row, the layout that callers in C and Rust see (c/kaldvemir.h).
--
--   book_numbers b     size, shares, latest, issued, then the 32 next positions, the 32 tickets, the 32 expiries: 100 numbers
--   book_in l          the book that 100 numbers are
use Rattle.std.specs.Prelude.{List, ◌∷◌, ◌++◌, ℕ, get_or, take, drop}
use Rattle.book.specs.declared.types.Book.{Book}

abbrev pub book_numbers : Book → List ℕ
book_numbers b = b.size ∷ b.shares ∷ b.latest ∷ b.issued ∷ (b.next ++ (b.ticket ++ b.expiry))

abbrev pub book_in : List ℕ → Book
book_in l = record {
  size = get_or l 0 0;
  shares = get_or l 1 0;
  latest = get_or l 2 0;
  issued = get_or l 3 0;
  next = take 32 (drop 4 l);
  ticket = take 32 (drop 36 l);
  expiry = take 32 (drop 68 l);
}
