-- What check answers of a lent diagram: refusals 1 to 8, each for its condition where none before it applies.
--
--   Accepts s0 s1 root               all eight conditions hold: a rooted diagram of size 1 to 1,024
--   RootedMaps s0 s1 root            the first seven hold: maps of the edges 1..n, and the root is one of these
--   Refuses s0 s1 root k             what is asked before the k-th holds, and the k-th does not
--   CheckPromise s0 s1 root answer   the promise of check
--   MapsPromise s0 s1 root answer    the promise of check_maps, which leaves the eighth out
use Rattle.std.specs.Prelude.{List, ℕ, length, Result, Ok, Err}
pub use Rattle.diagrams_entries.specs.Conditions.{Size, Lengths, Root, Entries, Thrice, Twice, Connected, Mapped, AllOne}
use Rattle.refusals.specs.declared.Refusal.{Refusal}
use Rattle.refusals.specs.Numbers.{number}

pub record Accepts (s0 s1 : List ℕ) (root : ℕ) : Type 0 where
  pub size : Size s0
  pub lengths : Lengths s0 s1
  pub root_in : Root s0 root
  pub blacks : Entries (length s0) s0
  pub whites : Entries (length s0) s1
  pub thrice : Thrice s0
  pub twice : Twice s1
  pub connected : Connected s0 s1

pub record RootedMaps (s0 s1 : List ℕ) (root : ℕ) : Type 0 where
  pub mapped : Mapped s0 s1
  pub root_in : Root s0 root

pub data Refuses (s0 s1 : List ℕ) (root : ℕ) : ℕ → Type 0 where
  no_size : ¬ Size s0 → Refuses s0 s1 root 1
  no_lengths : Size s0 → ¬ Lengths s0 s1 → Refuses s0 s1 root 2
  no-root : Size s0 → Lengths s0 s1 → ¬ Root s0 root → Refuses s0 s1 root 3
  no-blacks : Size s0 → Lengths s0 s1 → Root s0 root → ¬ Entries (length s0) s0 → Refuses s0 s1 root 4
  no-whites : Size s0 → Lengths s0 s1 → Root s0 root → Entries (length s0) s0 → ¬ Entries (length s0) s1 → Refuses s0 s1 root 5
  no-thrice : Size s0 → Lengths s0 s1 → Root s0 root → Entries (length s0) s0 → Entries (length s0) s1 → ¬ Thrice s0 → Refuses s0 s1 root 6
  no-twice : Size s0 → Lengths s0 s1 → Root s0 root → Entries (length s0) s0 → Entries (length s0) s1 → Thrice s0 → ¬ Twice s1 → Refuses s0 s1 root 7
  no-path : Size s0 → Lengths s0 s1 → Root s0 root → Entries (length s0) s0 → Entries (length s0) s1 → Thrice s0 → Twice s1 → ¬ Connected s0 s1 → Refuses s0 s1 root 8

-- by the answer's cases; where it refuses, its number tells the condition
abbrev pub CheckPromise : List ℕ → List ℕ → ℕ → Result (Unit {0}) Refusal → Type 0
CheckPromise s0 s1 root (Ok u) = Accepts s0 s1 root
CheckPromise s0 s1 root (Err e) = Refuses s0 s1 root (number e)

abbrev pub MapsPromise : List ℕ → List ℕ → ℕ → Result (Unit {0}) Refusal → Type 0
MapsPromise s0 s1 root (Ok u) = RootedMaps s0 s1 root
MapsPromise s0 s1 root (Err e) = Refuses s0 s1 root (number e)
