-- The loops over the rootings: what the traces of the rootings below x have shown.
use mathlib.Core.Path.{◌≡◌, refl, sym, ap, ◌∙◌}
use mathlib.Core.Logic.{◌≢◌, ◌⊎◌, ◌↔◌, inl, inr}
use mathlib.Core.Bool.{Bool, true, false, true≢false, cond}
use mathlib.Core.List.{List, [], ◌∷◌}
use Prim.Native.Nat.{ℕ, ◌+◌, ◌-◌}
use native.Mathlib.Omega.{arith}
use native.Mathlib.Numerals.{add-one}
use lib.Dec.{ltb}
use lib.ListN.{length, take, drop, length-drop}
use lib.Seq.{take_all}
use Rattle.lists.specs.Ranges.{OneTo, card}
use Rattle.lists.proofs.Tests.{same?}
use Rattle.words.specs.Order.{precedes, same}
use Rattle.words.proofs.Order.{precedes-true, same_self, same_false}
use Rattle.pending_ring.specs.Ring.{Ring}
use Rattle.labelling.specs.Labelling.{word_of}
use Rattle.labelling_tracing_events.specs.Stamps.{Below}
use Rattle.labelling_tracing.specs.declared.Traced.{Traced}
use Rattle.labelling_tracing.specs.Traced.{TracedAlong}
use Rattle.labelling_least.proofs.Deciding.{decided-by-item, decided-by-end}
use Rattle.labelling_rootings.specs.Among.{NoneBefore, SomeRooting}

-- the next of the n rootings is x; no edge is labelled in it nor pending, and the stamps keep their length
pub record Tried (s0 : List ℕ) (n : ℕ) (nx pv sp₀ sp : List ℕ) (x : ℕ) : Type 0 where
  pub size_is : n ≡ length s0
  pub fresh : Below (length s0) sp x
  pub empty : Ring nx pv []
  pub long : length sp ≡ length sp₀

-- a statement of the rootings 1..x, and the next one's
pub each_more : (P : ℕ → Type 0) (x : ℕ) → ((y : ℕ) → OneTo x y → P y) → P (x + 1) → (y : ℕ) → OneTo (x + 1) y → P y
each_more P x k p y e = go (same? y (x + 1))
  where
    go : (y ≡ x + 1) ⊎ (y ≢ x + 1) → P y
    go (inl q) = rw q p
    go (inr q) = k y (omega (arith, q))

-- ---- none before

module _ (s0 s1 own : List ℕ) (x : ℕ) where
  pub none-fails : OneTo (length s0) x → precedes (word_of s0 s1 x) own ≡ true → ¬ NoneBefore s0 s1 own
  unfolding NoneBefore
  none-fails h e k = k x h (precedes-true (word_of s0 s1 x) own e)

-- ---- some rooting with this word

module _ (s0 s1 own : List ℕ) (x : ℕ) (b : Bool) (is : (b ≡ true) ↔ (word_of s0 s1 x ≡ own)) where
  pub unlike : b ≡ false → word_of s0 s1 x ≢ own
  unlike e q = true≢false (sym (is.1 q) ∙ e)

  pub some-found : OneTo (length s0) x → b ≡ true → SomeRooting s0 s1 own
  unfolding SomeRooting
  some-found h e = (x, h, is.0 e)

-- ---- their number

module _ (s0 s1 own : List ℕ) (x : ℕ) (b : Bool) (is : (b ≡ true) ↔ (word_of s0 s1 (x + 1) ≡ own)) where
  same-is : same (word_of s0 s1 (x + 1)) own ≡ b
  same-is = go b is
    where
      go : (b : Bool) → (b ≡ true) ↔ (word_of s0 s1 (x + 1) ≡ own) → same (word_of s0 s1 (x + 1)) own ≡ b
      go true i = rw (i.0 refl) (same_self own)
      go false i = same_false (word_of s0 s1 (x + 1)) own (λ q. true≢false (sym (i.1 q)))

  pub card-more : card (x + 1) (λ y. same (word_of s0 s1 y) own) ≡ cond b 1 0 + card x (λ y. same (word_of s0 s1 y) own)
  card-more = rw (add-one x) (ap (λ (d : Bool). cond d 1 0 + card x (λ y. same (word_of s0 s1 y) own)) (rw (add-one x) at same-is))

-- ---- the order of a traced word and own

module _ {s0 s1 : List ℕ} {root : ℕ} {own : List ℕ} {t : Traced} (T : TracedAlong s0 s1 root own t) where
  pub traced-ended : t.ended ≡ true → ltb t.place (length own) ≡ precedes (word_of s0 s1 root) own
  traced-ended e = rw (rw e at T.leaves) (decided-by-end own t.place)

  pub traced-decided : t.ended ≡ false → precedes (t.item ∷ []) (take (length own - t.place) (drop t.place own)) ≡ precedes (word_of s0 s1 root) own
  traced-decided e =
      let ((v, w), d) = rw e at T.leaves in
      rw (w, take_all (length own - t.place) (drop t.place own) (simp length-drop (omega arith))) (decided-by-item own t.place t.item v d)
