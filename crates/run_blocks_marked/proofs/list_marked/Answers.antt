-- `list_marked` meets its promise: what the tests refuse is refused, a finished run answers no rows, and the rest is written and marked.
use Rattle.std.proofs.Common.{inr}
use Rattle.run_blocks_answers.proofs.Given.{gave-holds}
use Rattle.run_blocks_marked.proofs.Whole.{gave-marked}
use Rattle.run_blocks_marked.proofs.list_marked.Goals as goal

pub returns-else-marks-count : goal.returns-else-marks-count
returns-else-marks-count c =
    let G = c.rows_of-reached.ensures in
    inr (gave-marked G _ _ c.if-marks-count.false (c.mark_rows.ensures G.place (gave-holds G)))
