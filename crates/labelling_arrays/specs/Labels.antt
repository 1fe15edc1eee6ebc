-- The lent arrays of labels: what they hold, in terms of the labelled edges o, the last labelled first. The arrays are la (labels, by edge)
-- and od (order, the edge of each label).
--
--   LabelsHeld la od given o   the labels of the edges o, of which there are `given`
use Rattle.std.specs.Prelude.{◌≡◌, List, ℕ, length, get_or}
use Rattle.lists.specs.Ranges.{OneTo}
use Rattle.labelling.specs.Labelling.{label_of, edge_of}

-- an edge without a label has 0; what `order` holds past the labels given does not count
pub record LabelsHeld (la od : List ℕ) (given : ℕ) (o : List ℕ) : Type 0 where
  pub given_is : given ≡ length o
  pub label_at : (x : ℕ) → get_or la x 0 ≡ label_of o x
  pub edge_listed : (j : ℕ) → OneTo (length o) j → get_or od j 0 ≡ edge_of o j
