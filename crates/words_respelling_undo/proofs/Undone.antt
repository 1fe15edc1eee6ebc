-- An event taken back: from the state that it left, the stack and the lists hold the state before it again. One law per event.
use mathlib.Core.Path.{◌≡◌, refl, ap, ◌∙◌}
use mathlib.Core.Logic.{inl, inr}
use mathlib.Core.List.{List, [], ◌∷◌, ◌++◌}
use Prim.Native.Nat.{ℕ, suc, ◌+◌, ◌-◌, ◌<◌}
use native.Mathlib.Omega.{arith}
use lib.ListN.{length, get_or, set, length-set}
use Rattle.lists.specs.Lists.{at, put, remove_at}
use Rattle.lists.specs.Ranges.{OneTo}
use Rattle.lists.proofs.Lists.{length-put, length-1, length-3, at_left}
use Rattle.words.proofs.Growing.{p-has, p-k, p-in, J-k}
use Rattle.words.proofs.Growing as growing
use Rattle.words_spelling_events.specs.Spelling.{SpellingHeld}
use Rattle.words_spelling_events.proofs.Lists.{stacked-push}
use Rattle.words_respelling_undo.specs.SpelledSoFar.{JoinUndone}
use Rattle.words_respelling_undo.proofs.Lists.{begins-less, begins-back, begins-parted, stacked-uncut}
use Rattle.words_respelling_undo.proofs.Holding.{holds_of}

module _ (k : ℕ) (r s0 s1 : List ℕ) (s : growing.State (k ∷ r) s0 s1) (b0 b1 stack : List ℕ) (used h : ℕ) where
  abbrev c : ℕ
  c = suc (length s0)

  k-in : OneTo (length s1) k
  k-in = rw s.even (s.within k (inl refl))

  k-own : at s1 k ≡ k
  k-own = s.fixed k (inl refl)

  pub undo-W : SpellingHeld r s0 s1 b0 b1 stack b0 b1 used → h ≡ length r → h < 64 → SpellingHeld (k ∷ r) s0 s1 b0 b1 (set stack h k) b0 b1 used
  undo-W H e l =
      holds_of (k ∷ r) s0 s1 b0 b1 _ b0 b1 used s
      (length-set stack h k ∙ H.long)
      (stacked-push stack r h k e (let z = H.long in omega arith) H.stacked)
      H.used_is
      H.s0_is
      H.s1_is

  pub undo-F : SpellingHeld (suc (suc c) ∷ suc c ∷ r) (s0 ++ (suc c ∷ suc (suc c) ∷ c ∷ [])) (put s1 k c ++ (k ∷ suc c ∷ suc (suc c) ∷ [])) b0 b1 stack b0 b1 used
      → h ≡ suc (suc (length r)) → h < 64 → SpellingHeld (k ∷ r) s0 s1 b0 (set b1 (k - 1) k) (set stack (h - 2) k) b0 (set b1 (k - 1) k) (used - 3)
  undo-F H e l =
      let u = H.used_is ∙ length-3 s0 (suc c) (suc (suc c)) c in
      holds_of (k ∷ r) s0 s1 b0 _ _ b0 _ (used - 3) s
      (length-set stack (h - 2) k ∙ H.long)
      (stacked-push stack r (h - 2) k (omega arith) (let z = H.long in omega arith) H.stacked.1.1)
      (omega arith)
      (begins-less s0 _ _ b0 H.s0_is)
      (begins-back s1 _ _ b1 k c k-in k-own H.s1_is)

  pub undo-B : SpellingHeld r (s0 ++ (c ∷ [])) (put s1 k c ++ (k ∷ [])) b0 b1 stack b0 b1 used → h ≡ length r → h < 64
      → SpellingHeld (k ∷ r) s0 s1 b0 (set b1 (k - 1) k) (set stack h k) b0 (set b1 (k - 1) k) (used - 1)
  undo-B H e l =
      let u = H.used_is ∙ length-1 s0 c in
      holds_of (k ∷ r) s0 s1 b0 _ _ b0 _ (used - 1) s
      (length-set stack h k ∙ H.long)
      (stacked-push stack r h k e (let z = H.long in omega arith) H.stacked)
      (omega arith)
      (begins-less s0 _ _ b0 H.s0_is)
      (begins-back s1 _ _ b1 k c k-in k-own H.s1_is)

  module _ (d : ℕ) (l : d < length r) (H : SpellingHeld (remove_at d r) s0 (put (put s1 k (get_or r d 0)) (get_or r d 0) k) b0 b1 stack b0 b1 used) (e : suc h ≡ length r) where
    abbrev p : ℕ
    p = get_or r d 0

    -- k's partner is the label that J took out
    pub partner : at b1 k ≡ p
    partner = ap (λ (b : List ℕ). at b k) H.s1_is ∙ at_left (put (put s1 k p) p k) _ k (simp length-put k-in.1) ∙ J-k k r s0 s1 s d l

    pub undo-J : (q t : List ℕ) → h < 63 → JoinUndone stack q b1 t k d h → SpellingHeld (k ∷ r) s0 s1 b0 t q b0 t used
    undo-J q t m U =
        let i = p-in k r s0 s1 s d l in
        let z = U.shifted.long in
        let y = H.long in
        rw (U.on_top, U.parted, partner) (holds_of (k ∷ r) s0 s1 b0 _ _ b0 _ used s
        (length-set U.raised (h + 1) k ∙ omega arith)
        (stacked-push U.raised r (h + 1) k (omega arith) (omega arith)
        (stacked-uncut U.raised stack r d (h - d) h U.shifted l (omega arith) (omega arith) (U.back_in ∙ partner) H.stacked))
        H.used_is
        H.s0_is
        (begins-parted s1 _ b1 k p k-in (rw s.even i) k-own (s.fixed p (inr (p-has k r s0 s1 s d l))) (p-k k r s0 s1 s d l) H.s1_is))
