-- What is known of the word that was written: the number of labels given, where every edge has one, and the word in its list.
use mathlib.Core.Path.{◌≡◌, sym}
use mathlib.Core.List.{List}
use Prim.Native.Nat.{ℕ, ◌≤◌}
use native.Mathlib.Omega.{arith}
use lib.ListN.{length, take}
use lib.Seq.{take_at}
use Rattle.diagrams.specs.Check.{RootedMaps}
use Rattle.labelling.specs.Labelling.{word_of}
use Rattle.labelling.proofs.Reached.{labels-most}
use Rattle.labelling_code.specs.Scratch.{WordWritten}

-- where every edge has a label, as many are given as there are edges
pub all-given : (s0 s1 : List ℕ) (root : ℕ) → RootedMaps s0 s1 root → (la od a b : List ℕ) (m given : ℕ) → WordWritten s0 s1 root la od a b m given → length s0 ≤ given → WordWritten s0 s1 root la od a b m (length s0)
all-given s0 s1 root r la od a b m given w l =
    let g = w.held.given_is in
    let i = labels-most s0 s1 root r in
    let e : given ≡ length s0 = omega arith in
    rw e at w

-- the word is the written part of its list
pub written-part : (s0 s1 : List ℕ) (root : ℕ) (la od a b : List ℕ) (m given : ℕ) → WordWritten s0 s1 root la od a b m given → take m b ≡ word_of s0 s1 root
written-part s0 s1 root la od a b m given w = rw w.word_is (take_at _ _ _ (sym w.length_is))
