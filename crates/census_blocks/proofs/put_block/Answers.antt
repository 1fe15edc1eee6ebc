use Rattle.std.proofs.Common.{arith}
use Rattle.run_blocks_answers.proofs.Given.{gave-holds, gave-few}
use Rattle.census_blocks.proofs.Texts.{lists-room, block-whole}
use Rattle.census_blocks.proofs.put_block.Goals as goal

pub rows_of-reached-requires : goal.rows_of-reached-requires
rows_of-reached-requires c = let P = c.requires in (_, P.0, lists-room _ _ P.0.sized.1 P.1)

pub mark_rows-requires : goal.mark_rows-requires
mark_rows-requires c = let G = c.rows_of-reached.ensures in let f = gave-few G in let P = c.requires in ((G.place, gave-holds G), omega (arith, P.1))

pub returns : goal.returns
returns c =
    let P = c.requires in
    block-whole P.0 c.rows_of-reached.ensures P.2 P.1 P.3 c.mark_rows.ensures c.put_rows-page.ensures
