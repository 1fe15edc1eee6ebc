-- What check asks of a lent diagram, s0, s1 and root, in the order of their numbers: refusal k says that the k-th fails.
--
--   Size, .., Connected   the eight conditions
--   Mapped s0 s1          those that say of the lists that they are maps of the edges 1..n, with n at most 1,024
--   AllOne marks          every mark is 1
use Rattle.std.specs.Prelude.{◌≡◌, List, ℕ, ◌<◌, length, get_or}
use Rattle.lists.specs.Lists.{at}
use Rattle.lists.specs.Ranges.{OneTo}
use Rattle.diagrams_entries.specs.Diagram.{Reached, Maps}

-- 1: the length of s0 is 1 to 1,024
abbrev pub Size : List ℕ → Type 0
Size s0 = OneTo 1024 (length s0)

-- 2: the lengths agree
abbrev pub Lengths : List ℕ → List ℕ → Type 0
Lengths s0 s1 = length s1 ≡ length s0

-- 3: the root is an edge
abbrev pub Root : List ℕ → ℕ → Type 0
Root s0 root = OneTo (length s0) root

-- 4 and 5: every entry of the list s is one of 1..n
abbrev pub Entries : ℕ → List ℕ → Type 0
Entries n s = (x : ℕ) → OneTo n x → OneTo n (at s x)

-- 6: s0 thrice moves no edge; with 4, s0 is a permutation whose order divides 3
abbrev pub Thrice : List ℕ → Type 0
Thrice s0 = (x : ℕ) → OneTo (length s0) x → at s0 (at s0 (at s0 x)) ≡ x

-- 7: s1 twice moves no edge; with 5, s1 is a permutation whose order divides 2
abbrev pub Twice : List ℕ → Type 0
Twice s1 = (x : ℕ) → OneTo (length s1) x → at s1 (at s1 x) ≡ x

-- 8: every edge is reached from edge 1; that is, the group that s0 and s1 generate is transitive
abbrev pub Connected : List ℕ → List ℕ → Type 0
Connected s0 s1 = (x : ℕ) → OneTo (length s0) x → Reached (at s0) (at s1) 1 x

pub record Mapped (s0 s1 : List ℕ) : Type 0 where
  pub size : Size s0
  pub lengths : Lengths s0 s1
  pub maps : Maps (length s0) (at s0) (at s1)

abbrev pub AllOne : List ℕ → Type 0
AllOne marks = (i : ℕ) → i < length marks → get_or marks i 0 ≡ 1
