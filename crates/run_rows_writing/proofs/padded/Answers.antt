-- `padded` meets its contract: the word filled into zeros.
use Rattle.listing_successor_endings.proofs.Padding.{padded-over}
use Rattle.run_rows_writing.proofs.padded.Goals as goal

pub returns : goal.returns
returns c = padded-over c.args.word.now _ c.requires c.fill.ensures
