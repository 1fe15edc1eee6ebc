-- Pop: the top and the label below it are indices, and the two stores are those of `ring-pop`.
use native.Mathlib.Omega.{arith}
use mathlib.Core.Path.{refl}
use mathlib.Core.Logic.{inl}
use Rattle.pending_ring.proofs.Laws.{ring-pop, ring-next-small, ring-top-has, ring-top}
use Rattle.pending_ring.proofs.pop.Goals as goal

pub bounds-next-t : goal.bounds-next-t
bounds-next-t c = let p = c.requires in omega (arith, ring-next-small _ _ _ p.1 0 (inl refl), c.to_index-t.ensures)

pub bounds-prev-b : goal.bounds-prev-b
bounds-prev-b c = let p = c.requires in rw (c.to_index-b.ensures, c.to_index-t.ensures) (ring-next-small _ _ _ p.1 _ (ring-top-has _ _ _ p.1))

pub returns : goal.returns
returns c = λ s r. (ring-top _ _ s r, rw (c.to_index-b.ensures, c.to_index-t.ensures) (ring-pop _ _ s r))
