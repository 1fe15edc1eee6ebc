-- What is printed into a lent buffer: pieces of ASCII text, one after another. Those of a list stand in `text_printing_lists`; Output and
-- what is put into it, in `text_printing_pieces`.
--
--   signed_pieces z     a minus for a negative z; then its absolute value in decimal
--   word_pieces w       the letters of the word w; none where its first item has no letter
use Rattle.std.specs.Prelude.{cond, List, [], ◌∷◌, ℕ, suc, ℤ, pos, negsuc}
use Rattle.words.specs.Letters.{decimal, letters, starts_with_root}
pub use Rattle.text_printing_pieces.specs.Pieces.{Output, output}
unfoldable pub use Rattle.text_printing_pieces.specs.Pieces.{put, put_all}
unfoldable pub use Rattle.text_printing_lists.specs.Lists.{entry_pieces, list_pieces}

unfoldable pub signed_pieces : ℤ → List (List ℕ)
signed_pieces (pos n) = decimal n ∷ []
signed_pieces (negsuc n) = (45 ∷ []) ∷ decimal (suc n) ∷ []

unfoldable pub word_pieces : List ℕ → List (List ℕ)
word_pieces w = cond (starts_with_root w) (letters w ∷ []) []
