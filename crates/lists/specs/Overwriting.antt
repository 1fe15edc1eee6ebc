-- A list that is written to: the first places, or those from a place on, hold what was written, and the rest is untouched.
--
--   overwrite x a          the list a with x written over its beginning
--   overwrite_from i x a    the list a with x written over it from place i on; places go from 0
use Rattle.std.specs.Prelude.{List, ◌++◌, ℕ, ◌+◌, length, take, drop}

abbrev pub overwrite : List ℕ → List ℕ → List ℕ
overwrite x a = x ++ drop (length x) a

unfoldable pub overwrite_from : ℕ → List ℕ → List ℕ → List ℕ
overwrite_from i x a = take i a ++ (x ++ drop (i + length x) a)
