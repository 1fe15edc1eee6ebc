-- All statements of this crate together: what the user demands, and what follows from it.
use Rattle.theorems.specs.Demand2.{Demand2}
use Rattle.theorems.specs.Demand3.{Demand3}
use Rattle.theorems.specs.KeptCount.{KeptCountHolds}
use Rattle.theorems.specs.Corollaries.{CorollariesHold}
use Rattle.theorems.specs.SecondList.{BegunAtHolds}
use Rattle.theorems.specs.SingleList.{SingleListHolds, VisitsHold}
use Rattle.theorems.specs.UptoSteps.{UptoListHolds}
use Rattle.theorems.specs.Sheets.{SheetsHold}
use Rattle.theorems.specs.Blocks.{BlocksAreSteps, MarkedBlocksAreSteps, WalkAgreesHolds}
use Rattle.theorems.specs.BookNumbers.{BookNumbers}
use Rattle.theorems.specs.Determined.{Determined}
use Rattle.theorems.specs.Table.{Table, Limits}

pub record Theorems : Type 0 where
  -- the labelling is Vidal's; counts, positions and invariants equal their definitions
  pub demand_2 : Demand2
  -- the share book, the run and the keep mark
  pub demand_3 : Demand3
  -- kept count answers the number of classes taken without a root
  pub kept_counted : KeptCountHolds
  -- what users look for in the first list: tickets that have ended, releases, the report
  pub corollaries : CorollariesHold
  -- a run that begins at a position is one that steps could have left
  pub begun_at : BegunAtHolds
  -- a listing in blocks is a history of steps, without and with keep marks
  pub blocks : BlocksAreSteps
  pub marked_blocks : MarkedBlocksAreSteps
  -- the plain walk agrees with the run
  pub walk : WalkAgreesHolds
  -- the list of all sizes up to a bound is the union of their listings, sorted, with each rooted class once
  pub single_list : SingleListHolds
  -- the visits along it count the branches entered, and are at most 2 · diagrams - 1 at its end
  pub visits : VisitsHold
  -- the steps of a run through it give its diagrams in order, without a gap, and end after all
  pub upto_list : UptoListHolds
  -- a sheet of words in one call: each cell has the pair that two calls give it, and no other cell alters it
  pub sheets : SheetsHold
  -- the share book's answers have 01's numbers
  pub book_numbers : BookNumbers
  -- every other promise leaves one answer, and one content of what was lent
  pub determined : Determined
  -- 01's table (a) to (l) and an example of each request that has landed, and the edges beside it
  pub table : Table
  pub limits : Limits
