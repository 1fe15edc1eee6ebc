-- `fits` meets its contract. Invariant: what is left fits the state reached exactly if the whole fits the first state.
use Rattle.listing_successor.proofs.Forwards.{Forth}
use Rattle.listing_successor.proofs.fits.Given as goal

abbrev pub invariant-loop-item : goal.invariant-loop-item
invariant-loop-item l = Forth l.height l.free l.items l.item-index l.h l.f
