-- The word of a rooting, traced along another word, own, or written out.
--
--   Leaves ended w own i x          the list w begins with the first i items of own, and has then ended, or has x, which own has not there
--   TracedAlong s0 s1 root own t    t tells where the word of the rooting leaves own
--   WordWritten s0 s1 root nx pv a b m   the word is written into the list a, now b; m is its length and the number of labels given
use Rattle.std.specs.Prelude.{◌≡◌, ◌⊎◌, ◌≢◌, Bool, true, false, List, [], ◌∷◌, ◌++◌, ℕ, suc, ◌≤◌, length, get_or, take, drop}
use Rattle.pending_ring.specs.Ring.{Ring}
use Rattle.labelling.specs.Labelling.{labels, word_of}
use Rattle.labelling_tracing.specs.declared.Traced.{Traced}
use Rattle.labelling_tracing.specs.declared.Written.{Written}

abbrev pub Leaves : Bool → List ℕ → List ℕ → ℕ → ℕ → Type 0
Leaves true w own i x = w ≡ take i own
Leaves false w own i x = ((v : List ℕ) × (w ≡ take i own ++ (x ∷ v))) × ((length own ≤ i) ⊎ (get_or own i 0 ≢ x))

pub record TracedAlong (s0 s1 : List ℕ) (root : ℕ) (own : List ℕ) (t : Traced) : Type 0 where
  pub within : t.place ≤ length own
  pub leaves : Leaves t.ended (word_of s0 s1 root) own t.place t.item

-- the word stands before what the list held
pub record WordWritten (s0 s1 : List ℕ) (root : ℕ) (nx pv a b : List ℕ) (m : Written) : Type 0 where
  pub length_is : m.len ≡ length (word_of s0 s1 root)
  pub few : m.len ≤ suc (length s0)
  pub word_is : b ≡ word_of s0 s1 root ++ drop m.len a
  pub given_is : m.given ≡ length (labels s0 s1 root)
  pub none_pending : Ring nx pv []
