-- `locate` answers the refusal of reading, 31 for a size above 50, or the position of the word.
use native.Mathlib.Omega.{arith}
use Rattle.sheet_cell.proofs.Locating.{sized-spells, located-at}
use Rattle.sheet_cell.proofs.locate.Goals as goal

pub position_of-requires : goal.position_of-requires
position_of-requires c = (sized-spells c.args.word.now _ c.in_ok-size.ensures _ c.to_index.ensures, omega arith)

pub returns : goal.returns
returns c = located-at c.args.word.now _ c.in_ok-size.ensures _ c.to_index.ensures c.if-size.false _ c.position_of.ensures
