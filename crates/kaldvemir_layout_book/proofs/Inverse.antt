-- The layout of the book is inverse to taking it apart.
use mathlib.Core.Path.{◌≡◌, sym, ◌∙◌, ap}
use mathlib.Core.List.{List, ◌++◌}
use Prim.Native.Nat.{ℕ}
use native.Mathlib.Omega.{arith}
use lib.ListN.{length, take, drop, length-append}
use lib.Seq.{take_at, drop_at, take_all, drop-drop}
use Rattle.book.specs.declared.types.Book.{Book}
use Rattle.kaldvemir_layout_book.specs.Layout.{book_numbers, book_in}
use Rattle.kaldvemir_layout_book.specs.Inverse.{Whole, BookLayoutInverse}
use Rattle.kaldvemir_layout_book.proofs.Changes.{book_again}

-- three lists in a row, each taken out again
module _ (x y z : List ℕ) (hx : length x ≡ 32) (hy : length y ≡ 32) (hz : length z ≡ 32) where
  row_first : take 32 (x ++ (y ++ z)) ≡ x
  row_first = take_at x (y ++ z) 32 hx

  row-second : take 32 (drop 32 (x ++ (y ++ z))) ≡ y
  row-second = ap (take 32) (drop_at x (y ++ z) 32 hx) ∙ take_at y z 32 hy

  row-third : take 32 (drop 64 (x ++ (y ++ z))) ≡ z
  row-third =
      ap (take 32) (sym (drop-drop 32 32 (x ++ (y ++ z))) ∙ ap (drop 32) (drop_at x (y ++ z) 32 hx) ∙ drop_at y z 32 hy)
      ∙ take_all 32 z (omega arith)

  row-length : length (x ++ (y ++ z)) ≡ 96
  row-length = simp length-append (omega arith)

book_back : (b : Book) → Whole b → (length (book_numbers b) ≡ 100) × (book_in (book_numbers b) ≡ b)
book_back b w =
    let l = row-length b.next b.ticket b.expiry w.next_long w.ticket_long w.expiry_long in (
      omega arith,
      rw (row_first b.next b.ticket b.expiry w.next_long w.ticket_long w.expiry_long, row-second b.next b.ticket b.expiry w.next_long w.ticket_long w.expiry_long, row-third b.next b.ticket b.expiry w.next_long w.ticket_long w.expiry_long),
    )

pub book-layout-inverse : BookLayoutInverse
book-layout-inverse = record { book_again = book_again; book_back = book_back }
