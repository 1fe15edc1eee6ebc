-- The rootings of a diagram (document 01, "Labelling and words"): every edge can serve as the root.
--
--   least_of s0 s1 m   the least of the words of the rootings 1..m + 1
--   least_word s0 s1   the least of the words of all rootings
--   Kept s0 s1 root   the word is the least among those of the rootings: none comes before it
--   symmetries ..     how many rootings have the same word
use Rattle.std.specs.Prelude.{List, ℕ, zero, suc, pred, length}
use Rattle.lists.specs.Ranges.{OneTo, card}
use Rattle.words.specs.Order.{Before, lesser, same}
use Rattle.labelling.specs.Labelling.{word_of}

unfoldable pub least_of : List ℕ → List ℕ → ℕ → List ℕ
least_of s0 s1 zero = word_of s0 s1 1
least_of s0 s1 (suc m) = lesser (least_of s0 s1 m) (word_of s0 s1 (suc (suc m)))

unfoldable pub least_word : List ℕ → List ℕ → List ℕ
least_word s0 s1 = least_of s0 s1 (pred (length s0))

-- the canonical representative of an isomorphism class without roots, that is of a conjugacy class of subgroups: the least word
unfoldable pub Kept : List ℕ → List ℕ → ℕ → Type 0
Kept s0 s1 root = (x : ℕ) → OneTo (length s0) x → ¬ Before (word_of s0 s1 x) (word_of s0 s1 root)

-- the number of automorphisms of the diagram without its root: a rooting with the same word is the root's image under exactly one
unfoldable pub symmetries : List ℕ → List ℕ → ℕ → ℕ
symmetries s0 s1 root = card (length s0) (λ x. same (word_of s0 s1 x) (word_of s0 s1 root))
