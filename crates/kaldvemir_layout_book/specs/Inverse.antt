-- The layout of the book is inverse to taking it apart: no number is lost, none is invented.
--
--   Whole b             the three lists of the book b have 32 entries, as those of every book in the code have
--   BookLayoutInverse   100 numbers and a book determine one another
-- and from Layout: book_numbers, book_in.
use Rattle.std.specs.Prelude.{◌≡◌, List, ℕ, length}
use Rattle.book.specs.declared.types.Book.{Book}
use Rattle.kaldvemir_layout_book.specs.Layout.{book_numbers, book_in}

pub record Whole (b : Book) : Type 0 where
  pub next_long : length b.next ≡ 32
  pub ticket_long : length b.ticket ≡ 32
  pub expiry_long : length b.expiry ≡ 32

pub record BookLayoutInverse : Type 0 where
  -- taking 100 numbers apart and putting them together again gives the same numbers, and each book comes back from its numbers
  pub book_again : (l : List ℕ) → length l ≡ 100 → book_numbers (book_in l) ≡ l
  pub book_back : (b : Book) → Whole b → (length (book_numbers b) ≡ 100) × (book_in (book_numbers b) ≡ b)
