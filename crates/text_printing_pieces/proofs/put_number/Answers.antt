-- The promise of words_decimals::put_decimal, as a piece that is put.
use Rattle.text_printing_pieces.proofs.Pieces.{put_of}
use Rattle.text_printing_pieces.proofs.put_number.Goals as goal

pub returns : goal.returns
returns c = put_of _ _ _ _ _ c.put_decimal.ensures
