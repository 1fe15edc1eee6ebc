-- The three numbers, each but the last with a space, and the text behind them.
use Rattle.census_summary.proofs.Lines.{line-put}
use Rattle.census_summary.proofs.put_line.Goals as goal

pub returns : goal.returns
returns c =
    line-put _ _ _ _ _ _ _ _ _ _ _ c.count_of-count.ensures c.kept_of_size-kept.ensures
    c.put_number-first.ensures c.put_byte-second.ensures
    c.put_number-third.ensures c.put_byte-fourth.ensures
    c.put_number-last.ensures c.put_text.ensures
