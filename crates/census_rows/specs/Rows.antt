-- The lines of a block: diagrams of n edges that lie one after another in lists, as the listing in blocks writes them (crate run_blocks).
--
--   part l i k               the k entries of l from place i on; none where l has not so many there
--   items_before lengths i    how many items the words of the first i diagrams have
--   kept_among marks i        how many of the first i keep marks are 1
--   rows_printed p n k        k; 0 where that is more than 48 rows, n is more than 50, or positions up to p + k do not fit 64 bits
--   RowsPut ..  k o o'       the lines of the first k diagrams, put one after another into o, leave o'; the first is at position p + 1
--   PutRowsPromise ..        what `put_rows` leaves: these lines from the beginning of the buffer on, and how many of the diagrams are kept
use Rattle.std.specs.Prelude.{◌≡◌, cond, List, [], ℕ, zero, suc, ◌+◌, ◌*◌, eqb, leb, ltb, length, get_or, take, drop, Result}
use Rattle.invariants.specs.Promises.{InvariantsPromise}
use Rattle.invariants.specs.declared.Numbers.{Numbers}
use Rattle.refusals.specs.declared.Refusal.{Refusal}
use Rattle.text_printing.specs.Printing.{Output, output, put_all}
use Rattle.census_lines.specs.Lines.{line_pieces}

unfoldable pub part : List ℕ → ℕ → ℕ → List ℕ
part l i k = cond (leb (i + k) (length l)) (take k (drop i l)) []

unfoldable pub items_before : List ℕ → ℕ → ℕ
items_before lengths zero = 0
items_before lengths (suc i) = items_before lengths i + get_or lengths i 0

unfoldable pub kept_among : List ℕ → ℕ → ℕ
kept_among marks zero = 0
kept_among marks (suc i) = kept_among marks i + cond (eqb (get_or marks i 0) 1) 1 0

unfoldable pub rows_printed : ℕ → ℕ → ℕ → ℕ
rows_printed p n k = cond (leb k 48) (cond (leb n 50) (cond (ltb (p + k) 18446744073709551616) k 0) 0) 0

pub data RowsPut (p n : ℕ) (s0 s1 words lengths marks : List ℕ) : ℕ → Output → Output → Type 0 where
  none : {o : Output} → RowsPut p n s0 s1 words lengths marks 0 o o
  more : {i : ℕ} {o o' o'' : Output} (a : Result Numbers Refusal)
      → RowsPut p n s0 s1 words lengths marks i o o'
      → InvariantsPromise (part s0 (i * n) n) (part s1 (i * n) n) 1 a
      → o'' ≡ put_all (line_pieces (p + suc i) (part words (items_before lengths i) (get_or lengths i 0)) (part s0 (i * n) n) (part s1 (i * n) n) a (get_or marks i 0)) o'
      → RowsPut p n s0 s1 words lengths marks (suc i) o o''

-- the position before the first row, the edges of a diagram, the rows and their lists; the buffer before; the buffer after, the place after the
-- lines, and the number kept
pub record PutRowsPromise (p n k : ℕ) (s0 s1 words lengths marks out out' : List ℕ) (place kept : ℕ) : Type 0 where
  pub lines : RowsPut p n s0 s1 words lengths marks (rows_printed p n k) (output out 0) (output out' place)
  pub counted : kept ≡ kept_among marks (rows_printed p n k)
