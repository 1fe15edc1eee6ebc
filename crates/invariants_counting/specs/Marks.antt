-- The marks of a walk round the cycles: one byte per edge, edge x at place x - 1, 1 where the edge has been passed.
--
--   MarkedExactly n seen R       of the edges 1..n, those with R have the mark 1, and no others
--   CycleMarked n φ i old seen   the marks after a walk round i's cycle: those before it, and the cycle's
use Rattle.std.specs.Prelude.{◌≡◌, ◌⊎◌, ◌↔◌, List, ℕ, length}
use Rattle.lists.specs.Lists.{at}
use Rattle.lists.specs.Ranges.{OneTo}
use Rattle.invariants_cycles.specs.Cycles.{SameCycle}

pub record MarkedExactly (n : ℕ) (seen : List ℕ) (R : ℕ → Type 0) : Type 0 where
  pub long : length seen ≡ 1024
  pub mark : (x : ℕ) → OneTo n x → (at seen x ≡ 1) ↔ R x

abbrev pub CycleMarked : ℕ → (ℕ → ℕ) → ℕ → List ℕ → List ℕ → Type 0
CycleMarked n φ i old seen = MarkedExactly n seen (λ x. (at old x ≡ 1) ⊎ SameCycle φ i x)
