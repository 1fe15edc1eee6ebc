-- A trace along own: the items found so far are own's, but for the last.
use mathlib.Core.Path.{◌≡◌, sym, ap, ◌∙◌}
use mathlib.Core.Logic.{◌≢◌, ◌⊎◌, ◌↔◌, inl, inr}
use mathlib.Core.Bool.{true, false, true≢false}
use mathlib.Core.List.{List, [], ◌∷◌, ◌++◌, append_assoc}
use Prim.Native.Nat.{ℕ, ◌+◌, ◌≤◌, ◌<◌}
use native.Mathlib.Numerals.{add-one}
use native.Mathlib.Omega.{arith}
use lib.Dec.{eqb}
use lib.ListN.{length, get_or, take, length-append}
use lib.Seq.{take-suc, take-length, length-take-le, get_or-append_seam}
use Rattle.lists.proofs.Tests.{lt?, eqb-true, eqb-eq}
use Rattle.labelling.specs.Labelling.{word_of}
use Rattle.labelling_tracing.specs.declared.Traced.{Traced}
use Rattle.labelling_tracing.specs.Traced.{Leaves, TracedAlong}
use Rattle.labelling_tracing.proofs.Sofar.{Sofar, sofar-word, sofar-end}

-- the first `place` items are own's, and `item` stands after them
pub record Tracked (s0 s1 : List ℕ) (root : ℕ) (sp nx pv : List ℕ) (c : ℕ) (own : List ℕ) (place item : ℕ) : Type 0 where
  pub within : place ≤ length own
  pub sofar : Sofar s0 s1 root sp root nx pv c (take place own ++ (item ∷ []))

module _ {s0 s1 : List ℕ} {root : ℕ} {sp nx pv : List ℕ} {c : ℕ} {own : List ℕ} {place item : ℕ} (T : Tracked s0 s1 root sp nx pv c own place item) where
  -- own has the item: what is found begins own
  pub tracked-item : (place < length own) × (get_or own place 0 ≡ item) → Sofar s0 s1 root sp root nx pv c (take (place + 1) own)
  tracked-item h =
      let l = h.0 in
      rw (add-one, take-suc own place 0, h.1) T.sofar

  -- own has ended, or has another item
  pub tracked-leaves : ¬ ((place < length own) × (get_or own place 0 ≡ item)) → TracedAlong s0 s1 root own record { place = place; item = item; ended = false }
  tracked-leaves n = record { within = T.within; leaves = (let w = sofar-word T.sofar in (w.0, w.1 ∙ simp append_assoc), differs (lt? place (length own))) }
    where
      differs : (place < length own) ⊎ (length own ≤ place) → (length own ≤ place) ⊎ (get_or own place 0 ≢ item)
      differs (inl l) = inr (λ e. n (l, e))
      differs (inr l) = inl l

-- the word has ended with own's items
pub traced-end : {s0 s1 : List ℕ} {root : ℕ} {sp nx pv : List ℕ} {c : ℕ} {own : List ℕ} {place : ℕ} (item : ℕ) → place ≤ length own → Sofar s0 s1 root sp root nx pv c (take place own) → get_or nx 0 0 ≡ 0
    → TracedAlong s0 s1 root own record { place = place; item = item; ended = true }
traced-end item l S z = record { within = l; leaves = (sofar-end S z).0 }

-- a list that ended with own's items is own exactly if own has ended too
ended-own : {w own : List ℕ} {i : ℕ} → i ≤ length own → w ≡ take i own → (i ≡ length own) ↔ (w ≡ own)
ended-own {w} {own} {i} l e = (λ q. e ∙ rw q (take-length own), λ q. sym (length-take-le i own l) ∙ ap length (sym e ∙ q))

-- a list that left own is another
leaves-not-own : {w own : List ℕ} {i x : ℕ} → i ≤ length own → Leaves false w own i x → ¬ (w ≡ own)
leaves-not-own {w} {own} {i} {x} l ((v, e), d) q = go d
  where
    own_is : own ≡ take i own ++ (x ∷ v)
    own_is = sym q ∙ e

    at_i : get_or own i 0 ≡ x
    at_i =
        let k = length-take-le i own l in
        ap (λ (u : List ℕ). get_or u i 0) own_is ∙ ap (λ (j : ℕ). get_or (take i own ++ (x ∷ v)) j 0) (sym k) ∙ get_or-append_seam (take i own) x v 0

    longer : i < length own
    longer = let k = length-take-le i own l in omega (arith, simp length-append at (ap length own_is))

    go : (length own ≤ i) ⊎ (get_or own i 0 ≢ x) → ⊥
    go (inl k) = let b = longer in omega arith
    go (inr n) = n at_i

module _ {s0 s1 : List ℕ} {root : ℕ} {own : List ℕ} {t : Traced} (T : TracedAlong s0 s1 root own t) where
  pub traced-own : t.ended ≡ true → (eqb t.place (length own) ≡ true) ↔ (word_of s0 s1 root ≡ own)
  traced-own e =
      let o = ended-own T.within (rw e at T.leaves) in
      (λ q. o.0 (eqb-true _ _ q), λ q. eqb-eq _ _ (o.1 q))

  pub traced-other : t.ended ≡ false → (false ≡ true) ↔ (word_of s0 s1 root ≡ own)
  traced-other e = (λ q. absurd (true≢false (sym q)), λ q. absurd (leaves-not-own T.within (rw e at T.leaves) q))
