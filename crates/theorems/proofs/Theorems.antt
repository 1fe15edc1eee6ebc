-- All theorems together.
use Rattle.theorems.specs.Theorems.{Theorems}
use Rattle.theorems.proofs.Demand2.{demand_2}
use Rattle.theorems.proofs.Demand3.{demand_3}
use Rattle.theorems.proofs.KeptCount.{kept-count-holds}
use Rattle.theorems.proofs.Corollaries.{corollaries-hold}
use Rattle.theorems.proofs.SecondList.{begun-at-holds}
use Rattle.theorems.proofs.SingleList.{single-list-holds, visits-hold}
use Rattle.theorems.proofs.UptoSteps.{upto-list-holds}
use Rattle.theorems.proofs.Sheets.{sheets-hold}
use Rattle.theorems.proofs.Blocks.{blocks-are-steps, marked-blocks-are-steps, walk-agrees-holds}
use Rattle.theorems.proofs.BookNumbers.{book_numbers}
use Rattle.theorems.proofs.Determined.{determined}
use Rattle.theorems.proofs.Table.{table, limits}

pub theorems : Theorems
theorems = record {
  demand_2 = demand_2;
  demand_3 = demand_3;
  kept_counted = kept-count-holds;
  corollaries = corollaries-hold;
  begun_at = begun-at-holds;
  blocks = blocks-are-steps;
  marked_blocks = marked-blocks-are-steps;
  walk = walk-agrees-holds;
  single_list = single-list-holds;
  visits = visits-hold;
  upto_list = upto-list-holds;
  sheets = sheets-hold;
  book_numbers = book_numbers;
  determined = determined;
  table = table;
  limits = limits;
}
