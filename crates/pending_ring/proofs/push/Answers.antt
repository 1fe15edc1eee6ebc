-- Push: the top's link is an index, and the four stores are those of `ring-push`.
use native.Mathlib.Omega.{arith}
use mathlib.Core.Path.{refl}
use mathlib.Core.Logic.{inl}
use Rattle.pending_ring.proofs.Laws.{ring-push, ring-next-small}
use Rattle.pending_ring.proofs.push.Goals as goal

pub bounds-prev-t : goal.bounds-prev-t
bounds-prev-t c = let p = c.requires.by_index in omega (arith, ring-next-small _ _ _ p.1 0 (inl refl), c.to_index-t.ensures)

pub returns : goal.returns
returns c = let p = c.requires.l_nonzero in λ s r h. rw (c.to_index-index.ensures, c.to_index-t.ensures) (ring-push _ _ s r _ p.0 p.1 h)
