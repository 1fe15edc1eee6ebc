-- What has been passed at a way to go on, compared with the whole: it is the whole at the last, and from one way to go on to the next it grows by
-- the branches that the next enters and its end. The same for words of the single list.
use mathlib.Core.Path.{◌≡◌, refl, sym, ap}
use mathlib.Core.Logic.{◌≢◌, ◌⊎◌, inl, inr}
use mathlib.Core.Bool.{Bool, cond}
use mathlib.Core.List.{List, [], ◌∷◌}
use Prim.Native.Nat.{ℕ, zero, suc, ◌+◌, ◌*◌, ◌-◌, ◌≤◌, ◌<◌}
use native.Mathlib.Nat.{mul-le-mul_right, suc-sub-suc}
use native.Mathlib.Omega.{arith}
use lib.ListN.{length, replicate, length-replicate}
use Rattle.lists.proofs.Tests.{lt-true, lt-false, lt?}
use Rattle.words.specs.Shape.{pre}
use Rattle.listing_successor_states.specs.declared.StackState.{StackState}
use Rattle.listing_successor_states.specs.States.{stack_state, dead_end, state_after_item, state_after_first}
use Rattle.listing_successor.specs.Successor.{keep_or, first_above}
use Rattle.listing_successor.proofs.Follows.{cons-not}
use Rattle.upto_words.specs.Within.{FitsWithin, WordWithin}
use Rattle.upto_words.proofs.Reading.{item-read, first_read}
use Rattle.upto_words.specs.Successor.{above, ended_by_w, place_after, next_within, next_shared, following, following_shared}
use Rattle.upto_weights.specs.Weights.{weight, weight_f, weight_b, passed, passed_word, whole_weight}
use Rattle.upto_weights.proofs.Rule.{weight-0, weight-suc}

-- ---- the state after an item

after-join : (h f d : ℕ) → d < h → state_after_item (suc h) f (suc (suc (suc d))) ≡ stack_state (pre h) f
after-join h f d l = ap (λ (t : Bool). cond t (stack_state (pre h) f) dead_end) (lt-true d h l)

-- an item, and W for each label that is pending after it
ended-length : (h : ℕ) → suc (length (replicate {A = ℕ} h 0)) - 1 ≡ h
ended-length h = let e = length-replicate {A = ℕ} h 0 in omega arith

module _ (a b : ℕ) where
  -- What is passed before, at and after a first item x: P is what has been passed, T the whole, s the state after each first item, and e the
  -- least one above x; 0 where there is none.
  record Block (P : List ℕ → ℕ) (T : ℕ) (s : ℕ → StackState) (x e : ℕ) : Type 0 where
    before : ℕ
    here : (w : List ℕ) → P (x ∷ w) ≡ before + passed a b (s x).height (s x).free w
    most : before + weight a b (s x).height (s x).free ≤ T
    last : e ≡ 0 → T ≡ before + weight a b (s x).height (s x).free
    next : e ≢ 0 → (w : List ℕ) → P (e ∷ w) ≡ before + weight a b (s x).height (s x).free + passed a b (s e).height (s e).free w

  -- the same where an item is read at height suc h with f labels free
  ItemBlock : ℕ → ℕ → ℕ → Type 0
  ItemBlock h f x = Block (passed a b (suc h) f) (weight a b (suc h) f) (state_after_item (suc h) f) x (above h f x)

  -- J takes off the top and one other, whichever
  passed-join : (h f d : ℕ) (w : List ℕ) → d < h
      → passed a b (state_after_item (suc h) f (suc (suc (suc d)))).height (state_after_item (suc h) f (suc (suc (suc d)))).free w ≡ passed a b (pre h) f w
  passed-join h f d w l = ap (λ (k : StackState). passed a b k.height k.free w) (after-join h f d l)

  block_w : (h f : ℕ) → ItemBlock h f 0
  unfolding ItemBlock passed weight_f weight_b
  block_w h f = record { before = b; here = λ w. refl; most = let e = weight-suc a b h f in omega arith; last = last h f; next = next h f }
    where
      last : (h f : ℕ) → above h f 0 ≡ 0 → weight a b (suc h) f ≡ b + weight a b h f
      last zero zero q = let e = weight-suc a b 0 0 in omega arith
      last (suc h) zero q = absurd (omega arith)
      last h (suc zero) q = absurd (omega arith)
      last h (suc (suc zero)) q = absurd (omega arith)
      last h (suc (suc (suc f))) q = absurd (omega arith)

      next : (h f : ℕ) → above h f 0 ≢ 0 → (w : List ℕ)
          → passed a b (suc h) f (above h f 0 ∷ w) ≡ b + weight a b h f + passed a b (state_after_item (suc h) f (above h f 0)).height (state_after_item (suc h) f (above h f 0)).free w
      next zero zero n w = absurd (n refl)
      next (suc h) zero n w = let e = passed-join (suc h) 0 0 w (omega arith) in omega arith
      next h (suc zero) n w = omega arith
      next h (suc (suc zero)) n w = omega arith
      next h (suc (suc (suc f))) n w = omega arith

  block_f : (h f : ℕ) → ItemBlock h (suc (suc (suc f))) 1
  unfolding ItemBlock passed weight_f weight_b
  block_f h f =
      record {
        before = b + weight a b h (suc (suc (suc f)));
        here = λ w. omega arith;
        most = let e = weight-suc a b h (suc (suc (suc f))) in omega arith;
        last = λ q. absurd (omega arith);
        next = λ n w. omega arith;
      }

  block_b : (h f : ℕ) → ItemBlock h (suc f) 2
  unfolding ItemBlock passed weight_f weight_b
  block_b h f =
      record {
        before = b + (weight a b h (suc f) + weight_f a b h (suc f));
        here = λ w. omega arith;
        most = let e = weight-suc a b h (suc f) in omega arith;
        last = last h;
        next = next h;
      }
    where
      last : (h : ℕ) → above h (suc f) 2 ≡ 0 → weight a b (suc h) (suc f) ≡ b + (weight a b h (suc f) + weight_f a b h (suc f)) + weight a b h f
      last zero q = let e = weight-suc a b 0 (suc f) in omega arith
      last (suc h) q = absurd (omega arith)

      next : (h : ℕ) → above h (suc f) 2 ≢ 0 → (w : List ℕ)
          → passed a b (suc h) (suc f) (above h (suc f) 2 ∷ w)
          ≡ b + (weight a b h (suc f) + weight_f a b h (suc f)) + weight a b h f + passed a b (state_after_item (suc h) (suc f) (above h (suc f) 2)).height (state_after_item (suc h) (suc f) (above h (suc f) 2)).free w
      next zero n w = absurd (n refl)
      next (suc h) n w = let e = passed-join (suc h) (suc f) 0 w (omega arith) in omega arith

  block_j : (h f d : ℕ) → d < h → ItemBlock h f (suc (suc (suc d)))
  unfolding ItemBlock passed
  block_j h f d l =
      record {
        before = z;
        here = λ w. let e = passed-join h f d w l in omega arith;
        most = let i = mul-le-mul_right (weight a b (pre h) f) l in let j = after in let e = weight-suc a b h f in omega arith;
        last = last (lt? (suc d) h);
        next = next (lt? (suc d) h);
      }
    where
      z : ℕ
      z = b + (weight a b h f + (weight_f a b h f + (weight_b a b h f + d * weight a b (pre h) f)))

      s : ℕ → StackState
      s = state_after_item (suc h) f

      after : weight a b (s (suc (suc (suc d)))).height (s (suc (suc (suc d)))).free ≡ weight a b (pre h) f
      after = ap (λ (k : StackState). weight a b k.height k.free) (after-join h f d l)

      last : (suc d < h) ⊎ (h ≤ suc d) → above h f (suc (suc (suc d))) ≡ 0 → weight a b (suc h) f ≡ z + weight a b (s (suc (suc (suc d)))).height (s (suc (suc (suc d)))).free
      last (inl k) q = absurd (let e : suc (suc (suc (suc d))) ≡ 0 = rw (lt-true (suc d) h k) at q in omega arith)
      last (inr k) q = let t : h ≡ suc d = omega arith in let m : h * weight a b (pre h) f ≡ suc d * weight a b (pre h) f = ap (λ (i : ℕ). i * weight a b (pre h) f) t in let j = after in let e = weight-suc a b h f in omega arith

      next : (suc d < h) ⊎ (h ≤ suc d) → above h f (suc (suc (suc d))) ≢ 0 → (w : List ℕ)
          → passed a b (suc h) f (above h f (suc (suc (suc d))) ∷ w)
          ≡ z + weight a b (s (suc (suc (suc d)))).height (s (suc (suc (suc d)))).free + passed a b (s (above h f (suc (suc (suc d))))).height (s (above h f (suc (suc (suc d))))).free w
      next (inl k) n w = rw (lt-true (suc d) h k) (let e = passed-join h f (suc d) w k in let j = after in omega arith)
      next (inr k) n w = absurd (n (ap (λ (t : Bool). cond t (suc (suc (suc (suc d)))) 0) (lt-false (suc d) h k)))

  block : (h f x : ℕ) (w : List ℕ) → FitsWithin (suc h) f (x ∷ w) → ItemBlock h f x
  block h f zero w F = block_w h f
  block h zero (suc zero) w F = absurd F
  block h (suc zero) (suc zero) w F = absurd F
  block h (suc (suc zero)) (suc zero) w F = absurd F
  block h (suc (suc (suc f))) (suc zero) w F = block_f h f
  block h zero (suc (suc zero)) w F = absurd F
  block h (suc f) (suc (suc zero)) w F = block_b h f
  block h f (suc (suc (suc d))) w F = block_j h f d F.0

  pub passed-most : (w : List ℕ) (h f : ℕ) → FitsWithin h f w → passed a b h f w ≤ weight a b h f
  unfolding ItemBlock passed
  passed-most [] zero f F = let e = weight-0 a b f in omega arith
  passed-most [] (suc h) f F = absurd F
  passed-most (x ∷ w) zero f F = absurd F
  passed-most (x ∷ w) (suc h) f F = let B = block h f x w F in let e = B.here w in let m = B.most in let i = passed-most w _ _ (item-read h f x w F).1 in omega arith

  -- to end every pending label by W enters a branch for each
  passed-ended : (h f : ℕ) → passed a b h f (replicate h 0) ≡ a + b * h
  unfolding passed
  passed-ended zero f = omega arith
  passed-ended (suc h) f = let i = passed-ended h f in omega arith

  -- after x, v is what follows w: x stays where there is such a v, else it is raised to e, and where there is no e nothing follows
  module _ (P : List ℕ → ℕ) (T : ℕ) (s : ℕ → StackState) (x : ℕ) where
    last_of : (e : ℕ) → Block P T s x e → (w v : List ℕ) → (v ≡ [] → passed a b (s x).height (s x).free w ≡ weight a b (s x).height (s x).free)
        → keep_or x v (ended_by_w e (s e)) ≡ [] → P (x ∷ w) ≡ T
    last_of e B w (y ∷ v) i q = absurd (cons-not x (y ∷ v) q)
    last_of zero B w [] i q = let j = i refl in let t = B.here w in let l = B.last refl in omega arith
    last_of (suc e) B w [] i q = absurd (cons-not (suc e) (replicate (s (suc e)).height 0) q)

    next_of : (e : ℕ) → Block P T s x e → (w v : List ℕ) (k : ℕ) → (v ≡ [] → passed a b (s x).height (s x).free w ≡ weight a b (s x).height (s x).free)
        → (v ≢ [] → passed a b (s x).height (s x).free v ≡ passed a b (s x).height (s x).free w + (a + b * (length v - suc k)))
        → keep_or x v (ended_by_w e (s e)) ≢ []
        → P (keep_or x v (ended_by_w e (s e))) ≡ P (x ∷ w) + (a + b * (length (keep_or x v (ended_by_w e (s e))) - suc (place_after v k)))
    next_of e B w (y ∷ v) k i j n = rw suc-sub-suc (let o = B.here (y ∷ v) in let t = B.here w in let m = j (cons-not y v) in omega arith)
    next_of zero B w [] k i j n = absurd (n refl)
    next_of (suc e) B w [] k i j n =
        rw (ended-length (s (suc e)).height) (let o = B.next (λ q. omega arith) (replicate (s (suc e)).height 0) in let r = passed-ended (s (suc e)).height (s (suc e)).free in let t = B.here w in let m = i refl in omega arith)

  pub passed-last : (w : List ℕ) (h f : ℕ) → FitsWithin h f w → next_within h f w ≡ [] → passed a b h f w ≡ weight a b h f
  unfolding ItemBlock passed next_within
  passed-last [] zero f F q = sym (weight-0 a b f)
  passed-last [] (suc h) f F q = absurd F
  passed-last (x ∷ w) zero f F q = absurd F
  passed-last (x ∷ w) (suc h) f F q = last_of _ _ _ x (above h f x) (block h f x w F) w _ (passed-last w _ _ (item-read h f x w F).1) q

  pub passed-next : (w : List ℕ) (h f : ℕ) → FitsWithin h f w → next_within h f w ≢ []
      → passed a b h f (next_within h f w) ≡ passed a b h f w + (a + b * (length (next_within h f w) - suc (next_shared h f w)))
  unfolding ItemBlock next_within next_shared
  passed-next [] h f F n = absurd (n refl)
  passed-next (x ∷ w) zero f F n = absurd F
  passed-next (x ∷ w) (suc h) f F n =
      next_of _ _ _ x (above h f x) (block h f x w F) w _ _ (passed-last w _ _ (item-read h f x w F).1) (passed-next w _ _ (item-read h f x w F).1) n

  -- ---- words

  word_block : (n x : ℕ) (w : List ℕ) → WordWithin n (x ∷ w) → Block (passed_word a b n) (whole_weight a b n) (state_after_first n) x (first_above n x)
  unfolding passed_word whole_weight
  word_block zero zero w F = absurd F
  word_block (suc n) zero w F = record { before = 0; here = λ w. omega arith; most = omega arith; last = last n; next = next n }
    where
      last : (n : ℕ) → first_above (suc n) 0 ≡ 0 → whole_weight a b (suc n) ≡ 0 + weight a b 1 n
      last zero q = omega arith
      last (suc zero) q = omega arith
      last (suc (suc n)) q = absurd (omega arith)

      next : (n : ℕ) → first_above (suc n) 0 ≢ 0 → (w : List ℕ)
          → passed_word a b (suc n) (first_above (suc n) 0 ∷ w) ≡ 0 + weight a b 1 n + passed a b (state_after_first (suc n) (first_above (suc n) 0)).height (state_after_first (suc n) (first_above (suc n) 0)).free w
      next zero k w = absurd (k refl)
      next (suc zero) k w = absurd (k refl)
      next (suc (suc n)) k w = omega arith
  word_block zero (suc zero) w F = absurd F
  word_block (suc zero) (suc zero) w F = absurd F
  word_block (suc (suc zero)) (suc zero) w F = absurd F
  word_block (suc (suc (suc n))) (suc zero) w F = record { before = weight a b 1 (suc (suc n)); here = λ w. refl; most = omega arith; last = λ q. refl; next = λ k. absurd (k refl) }
  word_block n (suc (suc x)) w F = absurd F

  pub word-last : (n : ℕ) (w : List ℕ) → WordWithin n w → following n w ≡ [] → passed_word a b n w ≡ whole_weight a b n
  unfolding following
  word-last n [] F q = absurd F
  word-last n (x ∷ w) F q = last_of _ _ _ x (first_above n x) (word_block n x w F) w _ (passed-last w _ _ (first_read n x w F).1) q

  pub word_next : (n : ℕ) (w : List ℕ) → 1 ≤ n → (w ≡ []) ⊎ WordWithin n w → following n w ≢ []
      → passed_word a b n (following n w) ≡ passed_word a b n w + (a + b * (length (following n w) - suc (following_shared n w)))
  unfolding following following_shared passed_word passed
  word_next zero w l F n = absurd (omega arith)
  word_next (suc n) [] l F k = omega arith
  word_next (suc n) (x ∷ w) l (inl q) k = absurd (cons-not x w q)
  word_next (suc n) (x ∷ w) l (inr F) k =
      next_of _ _ _ x (first_above (suc n) x) (word_block (suc n) x w F) w _ _ (passed-last w _ _ (first_read (suc n) x w F).1) (passed-next w _ _ (first_read (suc n) x w F).1) k

  pub word-most : (n : ℕ) (w : List ℕ) → WordWithin n w → passed_word a b n w ≤ whole_weight a b n
  word-most n [] F = absurd F
  word-most n (x ∷ w) F = let B = word_block n x w F in let e = B.here w in let m = B.most in let i = passed-most w _ _ (first_read n x w F).1 in omega arith
