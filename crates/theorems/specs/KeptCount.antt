-- How many diagrams of a size are kept (request U4): kept count answers the number of classes taken without a root, that is, of conjugacy classes of
-- subgroups of that index in the modular group.
--
--   InOne n s0 s1 ps        of the positions ps of size n exactly one has a diagram of the class of the given one
--   Representatives n ps    the diagrams at the positions ps are representatives of the classes of size n: each class has exactly one
--   CountedClasses n c      there are c representatives, however they are chosen; one choice are the diagrams of which kept answers yes
--   KeptCountHolds          so it is for the number c that kept count answers
-- and from elsewhere: KeptAnswers, AtPosition (KeepMark); KeptCountPromise, the promise of kept count (run_kept_count, Promises); Has, Distinct (lists).
use Rattle.std.specs.Prelude.{◌≡◌, List, ℕ, length, true, Ok}
use Rattle.lists.specs.Lists.{Has, Distinct}
use Rattle.lists.specs.Ranges.{OneTo}
use Rattle.diagrams.specs.Check.{Accepts}
use Rattle.listing.specs.Listing.{count}
use Rattle.run_kept_count.specs.Promises.{KeptCountPromise}
use Rattle.theorems.specs.KeepMark.{KeptAnswers, AtPosition}

pub record InOne (n : ℕ) (s0 s1 ps : List ℕ) : Type 0 where
  pub position : ℕ
  pub among : Has position ps
  pub in_class : AtPosition n s0 s1 position
  pub only : (q : ℕ) → Has q ps → AtPosition n s0 s1 q → q ≡ position

pub record Representatives (n : ℕ) (ps : List ℕ) : Type 0 where
  pub distinct : Distinct ps
  pub listed : (p : ℕ) → Has p ps → OneTo (count n) p
  pub each_class : (s0 s1 : List ℕ) (root : ℕ) → Accepts s0 s1 root → length s0 ≡ n → InOne n s0 s1 ps

pub record CountedClasses (n c : ℕ) : Type 0 where
  pub kept_positions : List ℕ
  pub as_many : length kept_positions ≡ c
  pub representatives : Representatives n kept_positions
  pub however_chosen : (qs : List ℕ) → Representatives n qs → length qs ≡ c
  pub marked : (p : ℕ) → Has p kept_positions → KeptAnswers n p (Ok true)
  pub all_marked : (p : ℕ) → OneTo (count n) p → KeptAnswers n p (Ok true) → Has p kept_positions

abbrev pub KeptCountHolds : Type 0
KeptCountHolds = (n c : ℕ) → KeptCountPromise n (Ok c) → CountedClasses n c
