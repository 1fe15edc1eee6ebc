-- Isomorphism with roots or without, by a truth value (document 01, "Compare").
--
--   IsomorphicBy rooted s0 s1 r t0 t1 q   isomorphic, with roots or without
use Rattle.std.specs.Prelude.{Bool, true, false, List, ℕ}
use Rattle.diagrams.specs.Isomorphism.{Isomorphic, RootedIsomorphic}

abbrev pub IsomorphicBy : Bool → List ℕ → List ℕ → ℕ → List ℕ → List ℕ → ℕ → Type 0
IsomorphicBy true s0 s1 r t0 t1 q = RootedIsomorphic s0 s1 r t0 t1 q
IsomorphicBy false s0 s1 r t0 t1 q = Isomorphic s0 s1 t0 t1
