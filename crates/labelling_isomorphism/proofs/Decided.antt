-- Equal words decide isomorphism, with roots and without.
use mathlib.Core.Path.{◌≡◌}
use mathlib.Core.Logic.{◌↔◌}
use mathlib.Core.Bool.{Bool, true, false}
use mathlib.Core.List.{List}
use Prim.Native.Nat.{ℕ}
use lib.Dec.{eqb}
use lib.ListN.{length}
use Rattle.lists.proofs.Tests.{eqb-true, eqb-eq}
use Rattle.diagrams.specs.Check.{Accepts}
use Rattle.diagrams.specs.Isomorphism.{Isomorphic, RootedIsomorphic}
use Rattle.labelling.specs.Labelling.{word_of}
use Rattle.labelling.proofs.OfLists.{isomorphic-words, words-isomorphic}
use Rattle.labelling.proofs.Rootings.{rooting-isomorphic, isomorphic-rooting}
use Rattle.labelling_rootings.specs.Among.{SomeRooting}
use Rattle.labelling_comparison.specs.Questions.{Answered}
use Rattle.labelling_comparison.proofs.Comparing.{then}
use Rattle.labelling_comparison.specs.declared.Question.TheVariants.{Root, Any}
use Rattle.labelling_isomorphism.specs.Isomorphic.{IsomorphicBy}

pub sizes-same : (rooted : Bool) (s0 s1 : List ℕ) (r : ℕ) (t0 t1 : List ℕ) (q : ℕ) → IsomorphicBy rooted s0 s1 r t0 t1 q → length s0 ≡ length t0
sizes-same true s0 s1 r t0 t1 q i = i.sizes
sizes-same false s0 s1 r t0 t1 q i = i.sizes

module _ (s0 s1 : List ℕ) (r : ℕ) (t0 t1 : List ℕ) (q : ℕ) (A : Accepts s0 s1 r) (B : Accepts t0 t1 q) (a : ℕ) where
  pub root-isomorphic : Answered Root s0 s1 r (word_of t0 t1 q) a → (eqb a 1 ≡ true) ↔ RootedIsomorphic s0 s1 r t0 t1 q
  root-isomorphic k = then (eqb-true a 1, eqb-eq a 1) (then k (words-isomorphic s0 s1 r A t0 t1 q B, isomorphic-words s0 s1 r A t0 t1 q B))

  pub any-rooting-isomorphic : Answered Any s0 s1 r (word_of t0 t1 q) a → (eqb a 1 ≡ true) ↔ Isomorphic s0 s1 t0 t1
  unfolding SomeRooting
  any-rooting-isomorphic k = then (eqb-true a 1, eqb-eq a 1) (then k (λ (x, i, u). rooting-isomorphic s0 s1 r A t0 t1 q B x i u, isomorphic-rooting s0 s1 r A t0 t1 q B))
