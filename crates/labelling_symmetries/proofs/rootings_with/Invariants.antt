-- `rootings_with` meets its contract. The loop's invariant: the count is that of the rootings 1..k below x.
use mathlib.Core.Path.{◌≡◌}
use Prim.Native.Nat.{ℕ, ◌+◌}
use Rattle.lists.specs.Ranges.{card}
use Rattle.words.specs.Order.{same}
use Rattle.labelling.specs.Labelling.{word_of}
use Rattle.labelling_rootings.proofs.Tried.{Tried}
use Rattle.labelling_symmetries.proofs.rootings_with.Given as goal

abbrev pub invariant-loop-x : goal.invariant-loop-x
invariant-loop-x l = Tried l.s0 l.n l.next l.prev l.initial.stamps l.stamps l.x × ((k : ℕ) × (l.x ≡ k + 1) × (l.found ≡ card k (λ y. same (word_of l.s0 l.s1 y) l.own)))
