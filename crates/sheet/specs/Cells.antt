-- A sheet of words: cells of 52 numbers, each with a word's length, its items and then zeros; and what a cell is answered: what
-- reading its word into lists long enough and then asking the position of the diagram read would answer.
--
--   in_cells k s      the first k cells of the numbers s, 52 numbers each
--   cells s          the cells of the sheet s
--   word_in c         the word of the cell c: as many numbers after the first as the first says
--   tail_of c         the numbers after the word
--   blank l          the list l holds nothing but zeros
--   told r           the answer that tells r: its position, or its refusal
--   located r        the answer where read word answered r: its refusal, or what position of a diagram answers of the diagram built, with root 1
--   cell c           the answer to the cell c: 61 where its length is above 51 or something stands in its tail, otherwise that
--   answers s        the answers to the cells of s, in order;  refusals s, positions s, the two lists of them
use Rattle.std.specs.Prelude.{Bool, true, false, cond, List, [], ◌∷◌, map, ℕ, zero, suc, ◌/◌, eqb, leb, length, take, drop, Result, Ok, Err}
use Rattle.lists.specs.Lists.{at}
use Rattle.refusals.specs.declared.Refusal.{Refusal}
use Rattle.refusals.specs.Numbers.{number}
use Rattle.words_reading.specs.Read.{Read, refused, built, read}
use Rattle.labelling.specs.Labelling.{word_of}
use Rattle.listing.specs.Position.{position}
use Rattle.sheet.specs.declared.CellAnswer.{CellAnswer}

abbrev pub in_cells : ℕ → List ℕ → List (List ℕ)
in_cells zero s = []
in_cells (suc k) s = take 52 s ∷ in_cells k (drop 52 s)

unfoldable pub cells : List ℕ → List (List ℕ)
cells s = in_cells (length s / 52) s

abbrev pub word_in : List ℕ → List ℕ
word_in c = take (at c 1) (drop 1 c)

abbrev pub tail_of : List ℕ → List ℕ
tail_of c = drop (at c 1) (drop 1 c)

abbrev pub blank : List ℕ → Bool
blank [] = true
blank (x ∷ l) = cond (eqb x 0) (blank l) false

abbrev pub refused_with : ℕ → CellAnswer
refused_with k = record { refusal = k; position = 0 }

abbrev pub found_at : ℕ → CellAnswer
found_at p = record { refusal = 0; position = p }

abbrev pub told : Result ℕ Refusal → CellAnswer
told (Ok p) = found_at p
told (Err e) = refused_with (number e)

-- 31: a diagram of more than 50 edges. (Check accepts every diagram that read word builds, so that 1 to 8 do not come: crate theorems, Sheets.)
abbrev pub located : Read → CellAnswer
located (refused k) = refused_with k
located (built D) = cond (leb (length D.black) 50) (found_at (position (length D.black) (word_of D.black D.white 1))) (refused_with 31)

unfoldable pub cell : List ℕ → CellAnswer
cell c = cond (leb (at c 1) 51) (cond (blank (tail_of c)) (located (read (word_in c))) (refused_with 61)) (refused_with 61)

abbrev pub answers : List ℕ → List CellAnswer
answers s = map cell (cells s)

abbrev pub refusals : List ℕ → List ℕ
refusals s = map (λ (a : CellAnswer). a.refusal) (answers s)

abbrev pub positions : List ℕ → List ℕ
positions s = map (λ (a : CellAnswer). a.position) (answers s)
