-- `at_position` meets its contract: the word at the position, written over zeros.
use Rattle.run_beginning_at.proofs.Placed.{written-run}
use Rattle.run_beginning_at.proofs.at_position.Goals as goal

pub returns : goal.returns
returns c = written-run c.args.n c.args.p _ _ c.requires.0 c.requires.1 c.word_at-length.ensures.0 c.word_at-length.ensures.1
