-- One item more is read.
use Rattle.std.proofs.Common.{rules}
use Rattle.listing_successor.proofs.Forwards.{forth-more}
use Rattle.listing_successor.proofs.fits.Goals as goal

pub loop-item-preserved : goal.loop-item-preserved
loop-item-preserved c = forth-more _ _ _ _ _ _ c.loop-item.invariant c.state_after_item-l.result (search rules) c.state_after_item-l.ensures
