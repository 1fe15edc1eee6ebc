-- `fill_from` meets its contract: the part from the place on is filled and put back.
use Rattle.lists.proofs.Overwriting.{from-filled}
use Rattle.lists.proofs.fill_from.Goals as goal

pub returns : goal.returns
returns c = from-filled c.args.place c.args.src.now c.args.dst.now _ c.requires c.fill.ensures
