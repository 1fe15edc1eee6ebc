-- What is printed into a lent buffer: pieces of ASCII text, one after another.
--
--   Output             a buffer, and the place of the next byte in it
--   output d i         the buffer d with i as that place
--   put s o            s written at the next place, where it fits; where it does not, o as it is
--   put_all ss o        the pieces ss one after another, each put so
use Rattle.std.specs.Prelude.{cond, List, [], ◌∷◌, ℕ, ◌+◌, leb, length}
use Rattle.lists.specs.Overwriting.{overwrite_from}

pub record Output : Type 0 where
  pub bytes : List ℕ
  pub next : ℕ

abbrev pub output : List ℕ → ℕ → Output
output d i = record { bytes = d; next = i }

unfoldable pub put : List ℕ → Output → Output
put s o = cond (leb (o.next + length s) (length o.bytes)) (output (overwrite_from o.next s o.bytes) (o.next + length s)) o

unfoldable pub put_all : List (List ℕ) → Output → Output
put_all [] o = o
put_all (s ∷ ss) o = put_all ss (put s o)
