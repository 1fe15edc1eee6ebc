-- The block is written, its marks are found, and they are counted.
use native.Mathlib.Omega.{arith}
use Rattle.run_blocks_answers.proofs.Given.{gave-holds, gave-few}
use Rattle.census_blocks.proofs.Texts.{lists-room}
use Rattle.run_kept_count.proofs.Counting.{block-counted}
use Rattle.run_kept_count.proofs.count_block.Goals as goal

pub rows_of-reached-requires : goal.rows_of-reached-requires
rows_of-reached-requires c = let P = c.requires in (_, P.1, lists-room _ _ P.1.sized.1 (omega arith))

pub mark_rows-requires : goal.mark_rows-requires
mark_rows-requires c = let G = c.rows_of-reached.ensures in let f = gave-few G in ((G.place, gave-holds G), omega arith)

pub kept_marks-requires : goal.kept_marks-requires
kept_marks-requires c = gave-few c.rows_of-reached.ensures

pub returns : goal.returns
returns c p R = block-counted R c.rows_of-reached.ensures c.mark_rows.ensures c.kept_marks.ensures
