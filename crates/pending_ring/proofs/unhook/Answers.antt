-- Unhook: both links of a pending label are indices, and the two stores are those of `ring-unhook`.
use native.Mathlib.Omega.{arith}
use mathlib.Core.Logic.{inr}
use Rattle.pending_ring.proofs.Laws.{ring-unhook, ring-next-small, ring-prev-small, ring-labels}
use Rattle.pending_ring.proofs.unhook.Goals as goal

pub bounds-prev-index : goal.bounds-prev-index
bounds-prev-index c = let p = c.requires in omega (arith, c.to_index-index.ensures, ring-labels _ _ _ p.1 _ p.2)

pub bounds-next-index : goal.bounds-next-index
bounds-next-index c = let p = c.requires in omega (arith, c.to_index-index.ensures, ring-labels _ _ _ p.1 _ p.2)

pub bounds-next-a : goal.bounds-next-a
bounds-next-a c = let p = c.requires in rw (c.to_index-a.ensures, c.to_index-index.ensures) (ring-prev-small _ _ _ p.1 _ p.2)

pub bounds-prev-b : goal.bounds-prev-b
bounds-prev-b c = let p = c.requires in rw (c.to_index-b.ensures, c.to_index-index.ensures) (ring-next-small _ _ _ p.1 _ (inr p.2))

pub returns : goal.returns
returns c = λ s r h. rw (c.to_index-b.ensures, c.to_index-a.ensures, c.to_index-index.ensures) (ring-unhook _ _ s r _ h)
