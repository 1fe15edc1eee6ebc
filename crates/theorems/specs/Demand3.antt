-- Demand 3, whole: the two lists and the keep mark (document 01, "The lists of demand 3").
use Rattle.words.specs.Word.{Pair}
use Rattle.theorems.specs.Demand2.{Characteristic, KeptOnce}
use Rattle.theorems.specs.FirstList.{FirstListHolds}
use Rattle.theorems.specs.SecondList.{SecondListHolds}
use Rattle.theorems.specs.KeepMark.{KeepMarkHolds}

pub record Demand3 : Type 0 where
  -- the share book: when the report says complete, the table is the list, whatever the calls were and in whatever order
  pub first_list : FirstListHolds
  -- the run: the diagrams at positions 1, 2, 3, .. without a gap, and "end" exactly after all
  pub second_list : SecondListHolds
  -- the keep mark picks exactly one diagram of each class taken without a root: of those in characteristic labelling, by its definition,
  pub keep_mark : (D : Pair) → Characteristic D → KeptOnce D
  -- and of those at the positions of a size, by what kept answers
  pub keep_mark_answered : KeepMarkHolds
