-- The keep mark over the listing of a size (document 01, the last paragraph of "The lists of demand 3"): of the diagrams at positions
-- 1..count, each class taken without a root has exactly one of which kept answers yes. What kept answers is its own promise.
--
--   KeptAnswers n p a      kept may answer a of the diagram at position p of size n
--   AtPosition n s0 s1 p   the diagram at p is isomorphic, without roots, to the given one
--   MarkedOnce n s0 s1     the class of the given diagram has exactly one position of which kept answers yes
-- and from elsewhere: KeptPromise, the promise of kept (labelling_operations, Promises); count, diagram_at (listing); Accepts, Isomorphic (diagrams).
use Rattle.std.specs.Prelude.{◌≡◌, ◌≢◌, List, ℕ, length, Bool, true, false, Result, Ok, Err}
use Rattle.lists.specs.Ranges.{OneTo}
use Rattle.diagrams.specs.Check.{Accepts}
use Rattle.diagrams.specs.Isomorphism.{Isomorphic}
use Rattle.listing.specs.Listing.{count}
use Rattle.listing.specs.Diagrams.{diagram_at}
use Rattle.refusals.specs.declared.Refusal.{Refusal}
use Rattle.labelling_operations.specs.Promises.{KeptPromise}

abbrev pub KeptAnswers : ℕ → ℕ → Result Bool Refusal → Type 0
KeptAnswers n p a = KeptPromise (diagram_at n p).black (diagram_at n p).white 1 a

abbrev pub AtPosition : ℕ → List ℕ → List ℕ → ℕ → Type 0
AtPosition n s0 s1 p = OneTo (count n) p × Isomorphic s0 s1 (diagram_at n p).black (diagram_at n p).white

pub record MarkedOnce (n : ℕ) (s0 s1 : List ℕ) : Type 0 where
  pub position : ℕ
  pub in_class : AtPosition n s0 s1 position
  -- of the diagram there kept answers yes, and nothing else
  pub yes : KeptAnswers n position (Ok true)
  pub nothing_else : (a : Result Bool Refusal) → KeptAnswers n position a → a ≡ Ok true
  -- of every other diagram of the class it answers no, and nothing else
  pub only : (q : ℕ) → AtPosition n s0 s1 q → KeptAnswers n q (Ok true) → q ≡ position
  pub others_no : (q : ℕ) → AtPosition n s0 s1 q → q ≢ position → (a : Result Bool Refusal) → KeptAnswers n q a → a ≡ Ok false

-- For sizes 1 to 50 and every diagram of the size, whatever its root.
abbrev pub KeepMarkHolds : Type 0
KeepMarkHolds = (n : ℕ) → OneTo 50 n → (s0 s1 : List ℕ) (root : ℕ) → Accepts s0 s1 root → length s0 ≡ n → MarkedOnce n s0 s1
