-- The text of some rows, written over the beginning of a lent list of bytes.
--
--   RowsText n p k ..    the rows p + 1, .., p + k of size n were written: `bytes` bytes, `kept` of the diagrams are kept, the run is left as k
--                        steps would leave it, and the list of bytes is else as it was
use Rattle.std.specs.Prelude.{◌≡◌, List, ℕ, ◌+◌, length}
use Rattle.lists.specs.Overwriting.{overwrite}
use Rattle.run_answers.specs.declared.Run.{Run}
use Rattle.run_answers.specs.Promises.{run_after}
use Rattle.census_definition.specs.Census.{rows, kept_among}

-- the list before; what is told; the run and the list after
pub record RowsText (n p k : ℕ) (out : List ℕ) (bytes kept : ℕ) (next : Run) (out' : List ℕ) : Type 0 where
  pub bytes_are : bytes ≡ length (rows n p k)
  pub kept_are : kept ≡ kept_among n p k
  pub next_is : next ≡ run_after n (p + k)
  pub written : out' ≡ overwrite (rows n p k) out
