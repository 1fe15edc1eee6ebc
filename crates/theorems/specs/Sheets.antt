-- A sheet of words in one call (request U2): its cells, what each of them is answered, and what a call leaves in the two lists.
--
--   Wide c                   c has 52 numbers;  joined cs, the cells cs one after another
--   cell_of w                 the cell of the word w: its length, its items, then zeros
--   Refusals k               k is one of the numbers that a cell can be refused with, or 0
--   CallsAnswer O r a        a is what the two calls answer: read word, which answered r and left the lists of O, and, where it gave a diagram,
--                            position of that diagram with root 1
--   StandsAt p w             the word w stands at position p in the listing of its size, which is at most 50
--   CellHolds c              what the cell c is answered
--   SheetCall                a call that was accepted: the sheet, and the two lists as they were lent and as they were handed back
--   Answers C                it is such a call, as the operation promises
--   cell_at C i               cell i of its sheet, from 0;  pair_at C i, the pair in place i of the two lists handed back
-- and from elsewhere: cells, cell, word_in, tail_of, refused_with, found_at, CellAnswer (crate sheet, Cells); Divided, SheetPromise (Promises); Outputs, front, Reads
-- (Demand2); PositionPromise (listing_ranking, Promises); count, word_at (crate listing).
use Rattle.std.specs.Prelude.{◌≡◌, ◌≢◌, List, [], ◌∷◌, ◌++◌, ℕ, ◌-◌, ◌≤◌, ◌<◌, length, get_or, replicate, Result, Ok, Err}
use Rattle.lists.specs.Lists.{at, All, Has}
use Rattle.lists.specs.Ranges.{OneTo}
use Rattle.refusals.specs.declared.Refusal.{Refusal}
use Rattle.refusals.specs.declared.Refusal.TheVariants as refusal
use Rattle.refusals.specs.Numbers.{number, refusal_number}
use Rattle.listing.specs.Listing.{count}
use Rattle.listing.specs.Position.{word_at}
use Rattle.listing_ranking.specs.Answers.{located_position}
use Rattle.listing_ranking.specs.Promises.{PositionPromise}
use Rattle.sheet.specs.declared.CellAnswer.{CellAnswer}
use Rattle.sheet.specs.Cells.{cells, word_in, tail_of, cell, refused_with, found_at}
use Rattle.sheet.specs.Promises.{Divided, SheetPromise}
use Rattle.theorems.specs.Demand2.{Outputs, front, Reads}

-- ---- the cells of a sheet

abbrev pub Wide : List ℕ → Type 0
Wide c = length c ≡ 52

abbrev pub joined : List (List ℕ) → List ℕ
joined [] = []
joined (c ∷ cs) = c ++ joined cs

-- A sheet whose length is a multiple of 52 is its cells one after another, 52 numbers each, and any such cells make a sheet of which they are the cells.
pub record CellsHold : Type 0 where
  pub whole : (s : List ℕ) → Divided s → joined (cells s) ≡ s
  pub wide : (s : List ℕ) → Divided s → All Wide (cells s)
  pub divided : (cs : List (List ℕ)) → All Wide cs → Divided (joined cs)
  pub same : (cs : List (List ℕ)) → All Wide cs → cells (joined cs) ≡ cs

abbrev pub cell_of : List ℕ → List ℕ
cell_of w = length w ∷ (w ++ replicate (51 - length w) 0)

-- ---- what a cell is answered

-- never 24, because 51 items give at most 153 labels, and never 9
abbrev pub Refusals : ℕ → Type 0
Refusals k = Has k (0 ∷ 61 ∷ 21 ∷ 26 ∷ 22 ∷ 23 ∷ 25 ∷ 31 ∷ [])

abbrev pub CallsAnswer : Outputs → Result ℕ Refusal → CellAnswer → Type 0
CallsAnswer O (Err e) a = a ≡ refused_with (number e)
CallsAnswer O (Ok n) a =
    (q : Result ℕ Refusal) → PositionPromise (front n O).black (front n O).white 1 q → (a.refusal ≡ refusal_number q) × (a.position ≡ located_position q 0)

abbrev pub StandsAt : ℕ → List ℕ → Type 0
StandsAt p w = (n : ℕ) × OneTo 50 n × OneTo (count n) p × (word_at n p ≡ w)

pub record CellHolds (c : List ℕ) : Type 0 where
  -- 61 where the length is above 51 or a number other than 0 stands in the tail,
  pub too_long : 51 < at c 1 → cell c ≡ refused_with 61
  pub in_tail : (x : ℕ) → Has x (tail_of c) → x ≢ 0 → cell c ≡ refused_with 61
  -- otherwise what the two calls answer: read word into any lists that it does not refuse as short, and then position
  pub as_calls : at c 1 ≤ 51 → All (λ x. x ≡ 0) (tail_of c) → (O : Outputs) (r : Result ℕ Refusal) → Reads (word_in c) O r → r ≢ Err refusal.ListShort → CallsAnswer O r (cell c)
  -- lists of 100 are long enough
  pub long_enough : at c 1 ≤ 51 → (O : Outputs) (r : Result ℕ Refusal) → 100 ≤ length O.s0 → 100 ≤ length O.s1 → Reads (word_in c) O r → r ≢ Err refusal.ListShort
  -- a refused cell has position 0, and one that is not refused the position where its word stands
  pub numbers : Refusals (cell c).refusal
  pub refused_at_0 : (cell c).refusal ≢ 0 → (cell c).position ≡ 0
  pub placed : (cell c).refusal ≡ 0 → StandsAt (cell c).position (word_in c)

-- ---- what a call leaves

pub record SheetCall : Type 0 where
  pub numbers : List ℕ
  pub refusals : List ℕ
  pub positions : List ℕ
  pub refusals_after : List ℕ
  pub positions_after : List ℕ

abbrev pub Answers : SheetCall → Type 0
Answers C = SheetPromise C.numbers C.refusals C.positions C.refusals_after C.positions_after (Ok tt)

abbrev pub pair_at : SheetCall → ℕ → CellAnswer
pair_at C i = record { refusal = get_or C.refusals_after i 0; position = get_or C.positions_after i 0 }

abbrev pub cell_at : SheetCall → ℕ → List ℕ
cell_at C i = get_or (cells C.numbers) i []

pub record SheetsHold : Type 0 where
  pub cells_hold : CellsHold
  pub each_cell : (c : List ℕ) → CellHolds c
  -- every listed word fits a cell and is found: the cell of the word at position p is answered p
  pub found : (n p : ℕ) → OneTo 50 n → OneTo (count n) p → Wide (cell_of (word_at n p)) × (cell (cell_of (word_at n p)) ≡ found_at p)
  -- each cell's pair stands in its place; the lists stay as long as they were, and behind the pairs they hold what they held
  pub stands : (C : SheetCall) → Answers C → (i : ℕ) → i < length (cells C.numbers) → pair_at C i ≡ cell (cell_at C i)
  pub rest : (C : SheetCall) → Answers C → (i : ℕ) → length (cells C.numbers) ≤ i
      → (get_or C.refusals_after i 0 ≡ get_or C.refusals i 0) × (get_or C.positions_after i 0 ≡ get_or C.positions i 0)
  pub lengths : (C : SheetCall) → Answers C → (length C.refusals_after ≡ length C.refusals) × (length C.positions_after ≡ length C.positions)
  -- the pair of a cell does not depend on any other cell: in any two calls, of any sheets and lists, the same cell has the same pair, wherever it stands
  pub independent : (C E : SheetCall) → Answers C → Answers E → (i j : ℕ) → i < length (cells C.numbers) → j < length (cells E.numbers)
      → cell_at C i ≡ cell_at E j → pair_at C i ≡ pair_at E j
  -- an empty sheet is taken with any lists and writes nothing
  pub empty : (a b c d : List ℕ) (r : Result (Unit {0}) Refusal) → SheetPromise [] a b c d r → (r ≡ Ok tt) × (c ≡ a) × (d ≡ b)
