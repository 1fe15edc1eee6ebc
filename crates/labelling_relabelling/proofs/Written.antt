-- What is written of a relabelled diagram is the characteristic labelling and the word; written into lists of zeros, which are long
-- enough for every diagram, it is held by value.
use mathlib.Core.Path.{◌≡◌, refl, sym, ap, ◌∙◌}
use mathlib.Core.List.{List, ◌++◌}
use Prim.Native.Nat.{ℕ}
use native.Mathlib.Omega.{arith}
use lib.ListN.{length, drop, replicate, length-replicate}
use Rattle.lists.specs.Lists.{at, tabulate}
use Rattle.lists.specs.Ranges.{OneTo}
use Rattle.lists.proofs.Lists.{length-listed, drop-zeros}
use Rattle.diagrams.specs.Check.{Accepts}
use Rattle.diagrams.specs.Held.{Held}
use Rattle.diagrams.proofs.Checks.{accepts-rooted-maps}
use Rattle.words.specs.Outputs.{Short, Written, overwrite}
use Rattle.words.proofs.Outputs.{not_short}
use Rattle.labelling.specs.Labelling.{word_of, edge_of, relabel, labels, characteristic}
use Rattle.labelling.proofs.OfLists.{characteristic-size, characteristic-accepted}
use Rattle.labelling.proofs.Reached.{labels-connected}
use Rattle.labelling_code.specs.Scratch.{LabelsHeld}
use Rattle.labelling_code.proofs.Sofar.{labels-edges}

-- an accepted diagram has as many labels as edges
pub all_held : (s0 s1 : List ℕ) (root : ℕ) → Accepts s0 s1 root → (la od : List ℕ) (given : ℕ) → LabelsHeld la od given (labels s0 s1 root) → LabelsHeld la od (length s0) (labels s0 s1 root)
all_held s0 s1 root a la od given h = rw (h.given_is ∙ (labels-connected s0 s1 root (accepts-rooted-maps a)).1 a.connected) at h

module _ (s0 s1 : List ℕ) (root : ℕ) (la od : List ℕ) (a : Accepts s0 s1 root) (h : LabelsHeld la od (length s0) (labels s0 s1 root)) where
  -- every label is an edge's
  edges : (j : ℕ) → OneTo (length s0) j → OneTo (length s0) (edge_of (labels s0 s1 root) j)
  edges j e = labels-edges s0 s1 root (accepts-rooted-maps a) j (rw (← h.given_is) e)

  -- what write_list asks of the black list, and of the white list, which is as long
  pub black-labels : (o : List ℕ) × LabelsHeld la od (length s0) o × ((j : ℕ) → OneTo (length s0) j → OneTo (length s0) (edge_of o j))
  black-labels = (labels s0 s1 root, h, edges)

  pub white-labels : (o : List ℕ) × LabelsHeld la od (length s1) o × ((j : ℕ) → OneTo (length s1) j → OneTo (length s1) (edge_of o j))
  white-labels = rw a.lengths black-labels

  pub relabel-written : {a0 a1 aw b0 b1 bw : List ℕ}
      → ((o : List ℕ) → LabelsHeld la od (length s0) o → b0 ≡ tabulate (relabel o (at s0)) (length s0) ++ drop (length s0) a0)
      → ((o : List ℕ) → LabelsHeld la od (length s1) o → b1 ≡ tabulate (relabel o (at s1)) (length s1) ++ drop (length s1) a1)
      → bw ≡ overwrite (word_of s0 s1 root) aw
      → Written (characteristic s0 s1 root) (word_of s0 s1 root) a0 a1 aw b0 b1 bw
  unfolding characteristic
  relabel-written k0 k1 w = record {
    s0_written = rw (length-listed (relabel (labels s0 s1 root) (at s0)) (length s0)) (k0 (labels s0 s1 root) h);
    s1_written = rw (length-listed (relabel (labels s0 s1 root) (at s1)) (length s0)) (rw a.lengths at (k1 (labels s0 s1 root) (rw a.lengths h)));
    word_written = w;
  }

-- ---- into lists of zeros

module _ (s0 s1 : List ℕ) (root : ℕ) (a : Accepts s0 s1 root) where
  pub zeros-long : ¬ Short (length s0) (replicate 1024 0) (replicate 1024 0) (replicate 1025 0)
  zeros-long =
      not_short (length s0) (replicate 1024 0) (replicate 1024 0) (replicate 1025 0)
      (rw (length-replicate {A = ℕ} 1024 0) a.size.1)
      (rw (length-replicate {A = ℕ} 1024 0) a.size.1)
      (rw (length-replicate {A = ℕ} 1025 0) (omega (arith, a.size.1)))

  pub zeros-held : (w b0 b1 bw : List ℕ) → Written (characteristic s0 s1 root) w (replicate 1024 0) (replicate 1024 0) (replicate 1025 0) b0 b1 bw
      → Held (record { s0 = b0; s1 = b1; size = length s0; root = 1 }) (characteristic s0 s1 root).black (characteristic s0 s1 root).white 1
  zeros-held w b0 b1 bw k =
      let b = characteristic-size s0 s1 root a in
      let e = (characteristic-accepted s0 s1 root a).lengths in
      record {
        size = sym b;
        root_is = refl;
        black = k.s0_written ∙ ap (λ (z : List ℕ). (characteristic s0 s1 root).black ++ z) (drop-zeros 1024 (length (characteristic s0 s1 root).black) (omega (arith, a.size.1)));
        white = k.s1_written ∙ ap (λ (z : List ℕ). (characteristic s0 s1 root).white ++ z) (drop-zeros 1024 (length (characteristic s0 s1 root).white) (omega (arith, a.size.1)));
      }
