-- The diagrams of a block: how long their lists are, one by one and together.
use mathlib.Core.Path.{◌≡◌, refl, sym, ap, ◌∙◌}
use mathlib.Core.List.{List}
use Prim.Native.Nat.{ℕ, zero, suc, ◌+◌, ◌*◌, ◌≤◌, ◌<◌}
use native.Mathlib.Nat.{zero-mul, suc-mul, mul-le-mul_right}
use native.Mathlib.Omega.{arith}
use lib.ListN.{length, length-append}
use Rattle.lists.proofs.Lists.{length-1}
use Rattle.words.specs.Shape.{Word}
use Rattle.words.proofs.Shape.{word_length}
use Rattle.listing.specs.Listing.{count}
use Rattle.listing.specs.Position.{word_at}
use Rattle.listing.specs.Diagrams.{diagram_of, diagram_at}
pub use Rattle.listing.proofs.Spelled.{spelled-of, black-length, white-length}
use Rattle.listing_successor.proofs.Places.{word_placed}
use Rattle.words_respelling.specs.SpelledSoFar.{SpelledSoFar}
use Rattle.words_respelling.proofs.Laws.{spelling-whole}
use Rattle.run_row.specs.Row.{RowBegins}
use Rattle.run_row.specs.Rows.{blacks, whites, flat_words, lengths}

-- ---- one row

module _ (n : ℕ) (w : List ℕ) (a : Word n w) where
  -- spelled whole, it is the row's diagram
  pub spelled-begins : n ≤ 50 → (used height : ℕ) (stack popped d0 d1 : List ℕ) → SpelledSoFar w stack popped d0 d1 used height → RowBegins n w d0 d1
  spelled-begins s used height stack popped d0 d1 K =
      let q = spelling-whole w stack popped d0 d1 used height K (diagram_of w) (spelled-of n w a) in
      let e = rw (black-length n w a) at q in
      let l = K.long in
      record { in_black = omega arith; in_white = omega arith; black_is = e.0; white_is = e.1 }

-- one row more
pub rows_more : (n i : ℕ) → suc i * n ≡ i * n + n
rows_more n i = suc-mul i n

pub rows-within : (n i rows l : ℕ) → i < rows → rows * n ≤ l → i * n + n ≤ l
rows-within n i rows l h r = let m = mul-le-mul_right n h in let e = rows_more n i in omega arith

-- ---- the rows after position p

module _ (n p : ℕ) where
  pub blacks-length : (k : ℕ) → p + k ≤ count n → length (blacks n p k) ≡ k * n
  unfolding blacks diagram_at
  blacks-length zero l = sym (zero-mul n)
  blacks-length (suc k) l =
      let a = blacks-length k (omega arith) in
      let b = black-length n (word_at n (suc (p + k))) (word_placed n (p + k) (omega arith)) in
      let e = rows_more n k in
      simp length-append (omega arith)

  pub whites-length : (k : ℕ) → p + k ≤ count n → length (whites n p k) ≡ k * n
  unfolding whites diagram_at
  whites-length zero l = sym (zero-mul n)
  whites-length (suc k) l =
      let a = whites-length k (omega arith) in
      let b = white-length n (word_at n (suc (p + k))) (word_placed n (p + k) (omega arith)) in
      let e = rows_more n k in
      simp length-append (omega arith)

  pub words-length : (k : ℕ) → p + k ≤ count n → length (flat_words n p k) ≤ k * suc n
  unfolding flat_words
  words-length zero l = omega arith
  words-length (suc k) l =
      let a = words-length k (omega arith) in
      let b = word_length n (word_at n (suc (p + k))) (word_placed n (p + k) (omega arith)) in
      let e = rows_more (suc n) k in
      simp length-append (omega arith)

  pub lengths-length : (k : ℕ) → length (lengths n p k) ≡ k
  unfolding lengths
  lengths-length zero = refl
  lengths-length (suc k) = rw length-1 (ap suc (lengths-length k))
