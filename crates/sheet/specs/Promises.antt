-- What the operation on a sheet promises, by the cases of its answer.
-- The lists for refusals and positions are named a and b as they were lent, c and d as they are handed back.
--
--   Divided s                    the length of s is a multiple of 52
--   ShortForCells s a b          one of the two lists has fewer places than s has cells
--   RefusedSheet s a b number    what is refused: 61, then 9
--   SheetPromise s a b c d answer    the promise: answered, the two lists of the cells' answers stand in the first places of the lists, and the
--                                rest is untouched; refused, both lists are as they were
use Rattle.std.specs.Prelude.{◌≡◌, ◌⊎◌, List, ℕ, ◌*◌, ◌<◌, length, Result, Ok, Err}
use Rattle.lists.specs.Overwriting.{overwrite}
use Rattle.refusals.specs.declared.Refusal.{Refusal}
use Rattle.refusals.specs.Numbers.{number}
use Rattle.sheet.specs.Cells.{cells, refusals, positions}

abbrev pub Divided : List ℕ → Type 0
Divided s = (k : ℕ) × (length s ≡ k * 52)

abbrev pub ShortForCells : List ℕ → List ℕ → List ℕ → Type 0
ShortForCells s a b = (length a < length (cells s)) ⊎ (length b < length (cells s))

-- 61: the length of the sheet is no multiple of 52; 9: one of the lists is short
abbrev pub RefusedSheet : List ℕ → List ℕ → List ℕ → ℕ → Type 0
RefusedSheet s a b k = ((k ≡ 61) × (¬ Divided s)) ⊎ ((k ≡ 9) × Divided s × ShortForCells s a b)

abbrev pub SheetPromise : List ℕ → List ℕ → List ℕ → List ℕ → List ℕ → Result (Unit {0}) Refusal → Type 0
SheetPromise s a b c d (Ok u) = Divided s × (¬ ShortForCells s a b) × (c ≡ overwrite (refusals s) a) × (d ≡ overwrite (positions s) b)
SheetPromise s a b c d (Err e) = RefusedSheet s a b (number e) × (c ≡ a) × (d ≡ b)
