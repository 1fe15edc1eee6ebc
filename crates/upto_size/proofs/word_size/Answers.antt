-- `word_size` meets its contract: a list can only be a word of the size that its labels give.
use Rattle.upto_size.proofs.Sizes.{size_above, size_none}
use Rattle.upto_size.proofs.word_size.Goals as goal

pub returns-then-n-size : goal.returns-then-n-size
returns-then-n-size c = size_above _ _ _ c.labels_of-size.ensures c.if-n-size.true

pub returns : goal.returns
returns c = size_none _ _ _ c.labels_of-size.ensures (c.is_word.ensures.1 c.if-is_word.false)
