-- The keep mark over the listing of a size: the class's kept diagram stands at the position of its word.
use mathlib.Core.Path.{◌≡◌, refl, sym, ◌∙◌}
use mathlib.Core.Logic.{◌≢◌}
use mathlib.Core.List.{List}
use Prim.Native.Nat.{ℕ}
use native.Mathlib.Omega.{arith}
use lib.ListN.{length}
use Rattle.std.specs.Prelude.{Bool, true, false, Result, Ok, Err}
use Rattle.lists.specs.Ranges.{OneTo}
use Rattle.diagrams.specs.Check.{Accepts}
use Rattle.diagrams.specs.Isomorphism.{Isomorphic}
use Rattle.diagrams.proofs.Checks.{accepts-diagram}
use Rattle.diagrams.proofs.Isomorphisms.{isomorphic-sym, isomorphic-trans, root-isomorphic-refl, root-isomorphic-isomorphic}
use Rattle.words.specs.Word.{Pair}
use Rattle.labelling.specs.Labelling.{word_of, characteristic}
use Rattle.labelling.specs.Rootings.{Kept}
use Rattle.labelling.proofs.OfLists.{characteristic-accepted, characteristic-isomorphic, word-spelled, spelled-characteristic}
use Rattle.listing.specs.Listing.{count}
use Rattle.listing.specs.Position.{position}
use Rattle.listing.specs.Diagrams.{diagram_at}
use Rattle.listing.proofs.InPlace.{at-accepted, position-diagram}
use Rattle.refusals.specs.declared.Refusal.{Refusal}
use Rattle.refusals.specs.Numbers.{number}
use Rattle.labelling_operations.specs.Promises.{KeptPromise}
use Rattle.theorems.specs.Demand2.{KeptOnce}
use Rattle.theorems.specs.KeepMark.{KeptAnswers, AtPosition, MarkedOnce, KeepMarkHolds}
use Rattle.theorems.proofs.FirstList.{in_place, placed-once}
use Rattle.theorems.proofs.Demand2.{not-both, kept_once}

-- ---- what kept answers

module _ (s0 s1 : List ℕ) (root : ℕ) (A : Accepts s0 s1 root) where
  only_yes : Kept s0 s1 root → (a : Result Bool Refusal) → KeptPromise s0 s1 root a → a ≡ Ok true
  only_yes k (Ok true) M = refl
  only_yes k (Ok false) M = absurd (M.1 k)
  only_yes k (Err e) M = absurd (not-both s0 s1 root (number e) A M)

  only_no : ¬ Kept s0 s1 root → (a : Result Bool Refusal) → KeptPromise s0 s1 root a → a ≡ Ok false
  only_no n (Ok true) M = absurd (n M.1)
  only_no n (Ok false) M = refl
  only_no n (Err e) M = absurd (not-both s0 s1 root (number e) A M)

-- ---- the class of a diagram of the size

module _ (n : ℕ) (N : OneTo 50 n) (s0 s1 : List ℕ) (root : ℕ) (A : Accepts s0 s1 root) (l : length s0 ≡ n) where
  -- the diagram in its characteristic labelling, and the kept diagram of its class
  abbrev R : Pair
  R = characteristic s0 s1 root

  joined : Isomorphic s0 s1 R.black R.white
  joined = root-isomorphic-isomorphic (characteristic-isomorphic s0 s1 root A)

  once : KeptOnce R
  once = kept_once R record { accepted = characteristic-accepted s0 s1 root A; relabelled = spelled-characteristic (word_of s0 s1 root) R (word-spelled s0 s1 root A) }

  abbrev K : Pair
  K = once.kept

  isomorphic : Isomorphic s0 s1 K.black K.white
  isomorphic = isomorphic-trans joined once.isomorphic

  sized : length K.black ≡ n
  sized = sym isomorphic.sizes ∙ l

  -- it stands at the position of its word
  abbrev p : ℕ
  p = position n (word_of K.black K.white 1)

  counted : OneTo (count n) p
  counted = (placed-once n K.black K.white 1 once.in_form.accepted sized (omega arith)).0

  there : diagram_at n p ≡ K
  there = rw sized at (position-diagram K.black K.white 1 once.in_form.accepted) ∙ once.in_form.relabelled

  accepted : (q : ℕ) → OneTo (count n) q → Accepts (diagram_at n q).black (diagram_at n q).white 1
  accepted q e = at-accepted n q e (omega arith)

  only : (q : ℕ) → AtPosition n s0 s1 q → KeptAnswers n q (Ok true) → q ≡ p
  only q (e, i) M =
      let back = isomorphic-trans (isomorphic-sym (accepts-diagram s0 s1 root A).maps joined) i in
      let same = once.only (diagram_at n q) (in_place n N q e).in_form back M.1 in
      (placed-once n K.black K.white 1 once.in_form.accepted sized (omega arith)).2 q e (rw same root-isomorphic-refl)

  marked-once : MarkedOnce n s0 s1
  marked-once = record {
    position = p;
    in_class = (counted, rw there isomorphic);
    yes = rw there (once.in_form.accepted, once.is_kept);
    nothing_else = only_yes (diagram_at n p).black (diagram_at n p).white 1 (accepted p counted) (rw there once.is_kept);
    only = only;
    others_no = λ q x d. only_no (diagram_at n q).black (diagram_at n q).white 1 (accepted q x.0) (λ k. d (only q x (accepted q x.0, k)));
  }

pub keep-mark-holds : KeepMarkHolds
keep-mark-holds = marked-once
