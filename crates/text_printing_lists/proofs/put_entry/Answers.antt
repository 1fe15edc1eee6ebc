-- A comma, and then a number.
use mathlib.Core.Path.{sym, ap, ◌∙◌}
use Rattle.words_decimals.specs.Decimals.{decimal}
use Rattle.text_printing_pieces.specs.Pieces.{put}
use Rattle.text_printing_lists.proofs.Lists.{entry-one}
use Rattle.text_printing_lists.proofs.put_entry.Goals as goal

pub returns : goal.returns
returns c = c.put_number.ensures ∙ ap (put (decimal c.args.x)) c.put_byte-next.ensures ∙ sym (entry-one _ _)
