-- The text of a census (document 01, "Small sizes, by hand"), as ASCII bytes, said of the listing and the invariants and not of a program that
-- prints them.
--
--   ascii s             the bytes of the text s
--   signed z            z in decimal, a minus before a negative one
--   joined b ss         the texts ss, with the byte b between any two of them
--   commas l            the entries of l in decimal, parted by commas
--   is_kept_word D            whether the diagram D is kept: its word is the least of all its rootings' words
--   numbers D           the invariants e2, e3, c, t and level of the diagram D, in decimal
--   fields n p          position, word in letters, s0, s1, the invariants, and K or a hyphen, of the diagram at position p of size n
--   row n p             these parted by one space each, and a newline
--   rows n p k          the rows p + 1, .., p + k, one after another
--   kept_among n p k     how many of these diagrams are kept
--   kept_count n         how many of all diagrams of size n are kept
--   header n            the first line;  totals k m, the last line: k listed, m kept
--   census n            the whole text
--   refusal k           the line that stands in its place where the input is refused with the number k
--   summary_line n       the size n, how many diagrams it has and how many of them are kept
--   summary s           the summary lines of the sizes 1 to 9, with the text s behind each
--   row_bytes n          bytes enough for a row of size n (theorem `row_fits`)
use Rattle.std.specs.Prelude.{Bool, cond, ℕ, zero, suc, ◌+◌, ◌*◌, ℤ, pos, negsuc, length}
use mathlib.Core.List.{List, [], ◌∷◌, ◌++◌, map, flatten}
use Prim.Native.Char.{code}
use Prim.Native.String.{String, [] as none, ◌∷◌ as ◌then◌}
use Rattle.lists.specs.Lists.{at}
use Rattle.lists.specs.Ranges.{stretch}
use Rattle.words_decimals.specs.Decimals.{decimal}
use Rattle.words.specs.Order.{same}
use Rattle.words.specs.Word.{Pair}
use Rattle.words.specs.Letters.{letters}
use Rattle.labelling.specs.Labelling.{word_of}
use Rattle.labelling.specs.Rootings.{least_word}
use Rattle.invariants_cycles.specs.Cycles.{e2, e3, c, t, level}
use Rattle.listing.specs.Listing.{count}
use Rattle.listing.specs.Position.{word_at}
use Rattle.listing.specs.Diagrams.{diagram_at}

-- ---- texts

abbrev pub ascii : String → List ℕ
ascii none = []
ascii (x then s) = code x ∷ ascii s

abbrev pub signed : ℤ → List ℕ
signed (pos n) = decimal n
signed (negsuc n) = ascii "-" ++ decimal (suc n)

abbrev pub joined : ℕ → List (List ℕ) → List ℕ
joined b [] = []
joined b (s ∷ []) = s
joined b (s ∷ (u ∷ ss)) = s ++ (b ∷ joined b (u ∷ ss))

abbrev pub commas : List ℕ → List ℕ
commas l = joined 44 (map decimal l)

-- ---- a row

unfoldable pub is_kept_word : Pair → Bool
is_kept_word D = same (word_of D.black D.white 1) (least_word D.black D.white)

abbrev pub numbers : Pair → List (List ℕ)
numbers D =
    let n = length D.black in
    let f = at D.black in
    let g = at D.white in
    decimal (e2 n f g) ∷ decimal (e3 n f g) ∷ decimal (c n f g) ∷ signed (t n f g) ∷ decimal (level n f g) ∷ []

abbrev pub fields : ℕ → ℕ → List (List ℕ)
fields n p =
    let D = diagram_at n p in
    (decimal p ∷ letters (word_at n p) ∷ commas D.black ∷ commas D.white ∷ numbers D) ++ (cond (is_kept_word D) (ascii "K") (ascii "-") ∷ [])

unfoldable pub row : ℕ → ℕ → List ℕ
row n p = joined 32 (fields n p) ++ ascii "\n"

-- ---- rows one after another

unfoldable pub rows : ℕ → ℕ → ℕ → List ℕ
rows n p zero = []
rows n p (suc k) = rows n p k ++ row n (suc (p + k))

unfoldable pub kept_among : ℕ → ℕ → ℕ → ℕ
kept_among n p zero = 0
kept_among n p (suc k) = kept_among n p k + cond (is_kept_word (diagram_at n (suc (p + k)))) 1 0

abbrev pub kept_count : ℕ → ℕ
kept_count n = kept_among n 0 (count n)

-- ---- the whole text

unfoldable pub header : ℕ → List ℕ
header n = ascii "rooted trivalent diagrams, size " ++ (decimal n ++ ascii "\n")

unfoldable pub totals : ℕ → ℕ → List ℕ
totals k m = decimal k ++ (ascii " listed, " ++ (decimal m ++ ascii " kept\n"))

unfoldable pub census : ℕ → List ℕ
census n = header n ++ (rows n 0 (count n) ++ totals (count n) (kept_count n))

unfoldable pub refusal : ℕ → List ℕ
refusal k = ascii "refused " ++ (decimal k ++ ascii "\n")

-- ---- what empty input is answered (request U4)

abbrev pub summary_line : ℕ → List ℕ
summary_line n = joined 32 (map decimal (n ∷ count n ∷ kept_count n ∷ []))

unfoldable pub summary : List ℕ → List ℕ
summary s = flatten (map (λ n. summary_line n ++ s) (stretch 1 9))

-- ---- room

-- 16 digits of the position; 2 n + 1 letters; n entries of two digits and a comma each, twice; e2, e3 and c of two digits, t of three and a sign,
-- the level of n + 2; nine spaces, the mark and the newline
unfoldable pub row_bytes : ℕ → ℕ
row_bytes n = 9 * n + 40
