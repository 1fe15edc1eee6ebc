-- What a word spells is a diagram.
use mathlib.Core.Path.{◌≡◌, refl}
use mathlib.Core.Logic.{◌≢◌, ◌⊎◌, inl, inr, ⊎_elim}
use mathlib.Core.Option.{some}
use mathlib.Core.List.{List, [], ◌∷◌}
use Prim.Native.Nat.{ℕ, zero, suc, ◌≤◌}
use native.Mathlib.Omega.{arith}
use lib.Dec.{ltb}
use lib.ListN.{length, get_or}
use Rattle.lists.specs.Lists.{at, put, Has, remove_at}
use Rattle.lists.specs.Ranges.{OneTo}
use Rattle.lists.proofs.Lists.{remove_at-other, length-3, length-1}
use Rattle.lists.proofs.Ranges.{has-down}
use Rattle.lists.proofs.Tests.{same?, ltb-true}
use Rattle.diagrams.specs.Diagram.{Reached, Diagram, here, black, white}
use Rattle.words.specs.Word.{Pair, spells, spell}
use Rattle.words.proofs.Growing.{State, keeps, state-W, state-F, state-B, state-J, k-in, p-in, F-k, F-w, F-c, F-sc, F-ssc, B-k, B-w, B-c, W-k, Jd-k, Jd-p, none≢some, cond-some, state-U, state-T}

-- of the labels up to c, those of st pending
record Good (f g : ℕ → ℕ) (c : ℕ) (st : List ℕ) : Type 0 where
  b_in : (x : ℕ) → OneTo c x → OneTo c (f x)
  b_3 : (x : ℕ) → OneTo c x → f (f (f x)) ≡ x
  reached : (x : ℕ) → OneTo c x → Reached f g 1 x
  w_in : (x : ℕ) → OneTo c x → ¬ Has x st → OneTo c (g x)
  w_2 : (x : ℕ) → OneTo c x → ¬ Has x st → g (g x) ≡ x

data Lies (c x : ℕ) : Type 0 where
  old : OneTo c x → Lies c x
  new1 : x ≡ suc c → Lies c x
  new2 : x ≡ suc (suc c) → Lies c x
  new3 : x ≡ suc (suc (suc c)) → Lies c x

lies : (c x : ℕ) → OneTo (suc (suc (suc c))) x → Lies c x
lies c x e = go (same? x (suc c)) (same? x (suc (suc c))) (same? x (suc (suc (suc c))))
  where
    go : (x ≡ suc c) ⊎ (x ≢ suc c) → (x ≡ suc (suc c)) ⊎ (x ≢ suc (suc c)) → (x ≡ suc (suc (suc c))) ⊎ (x ≢ suc (suc (suc c))) → Lies c x
    go (inl a) b d = new1 a
    go (inr a) (inl b) d = new2 b
    go (inr a) (inr b) (inl d) = new3 d
    go (inr a) (inr b) (inr d) = old (omega arith)

module _ (f g : ℕ → ℕ) (c k : ℕ) (r : List ℕ) (G : Good f g c (k ∷ r)) (i : OneTo c k) where
  good-W : g k ≡ k → Good f g c r
  good-W e = record { b_in = G.b_in; b_3 = G.b_3; reached = G.reached; w_in = λ x j m. a x j m (same? x k); w_2 = λ x j m. b x j m (same? x k) }
    where
      a : (x : ℕ) → OneTo c x → ¬ Has x r → (x ≡ k) ⊎ (x ≢ k) → OneTo c (g x)
      a x j m (inl q) = rw (q, e) i
      a x j m (inr q) = G.w_in x j (⊎_elim q m)

      b : (x : ℕ) → OneTo c x → ¬ Has x r → (x ≡ k) ⊎ (x ≢ k) → g (g x) ≡ x
      b x j m (inl q) = rw (q, e, e)
      b x j m (inr q) = G.w_2 x j (⊎_elim q m)

  good-J : (d p : ℕ) → get_or r d 0 ≡ p → OneTo c p → g k ≡ p → g p ≡ k → Good f g c (remove_at d r)
  good-J d p y z u v = record { b_in = G.b_in; b_3 = G.b_3; reached = G.reached; w_in = λ x j m. a x j m (same? x k) (same? x p); w_2 = λ x j m. b x j m (same? x k) (same? x p) }
    where
      out : (x : ℕ) → ¬ Has x (remove_at d r) → x ≢ k → x ≢ p → ¬ Has x (k ∷ r)
      out x m q s = ⊎_elim q (λ h. m (remove_at-other d r x h (rw y s)))

      a : (x : ℕ) → OneTo c x → ¬ Has x (remove_at d r) → (x ≡ k) ⊎ (x ≢ k) → (x ≡ p) ⊎ (x ≢ p) → OneTo c (g x)
      a x j m (inl q) s = rw (q, u) z
      a x j m (inr q) (inl s) = rw (s, v) i
      a x j m (inr q) (inr s) = G.w_in x j (out x m q s)

      b : (x : ℕ) → OneTo c x → ¬ Has x (remove_at d r) → (x ≡ k) ⊎ (x ≢ k) → (x ≡ p) ⊎ (x ≢ p) → g (g x) ≡ x
      b x j m (inl q) s = rw (q, u, v)
      b x j m (inr q) (inl s) = rw (s, v, u)
      b x j m (inr q) (inr s) = G.w_2 x j (out x m q s)

  -- from the label after c on: s is that of k, and of the new black vertex
  module _ (u : g k ≡ suc c) (v : g (suc c) ≡ k) where
    good-B : f (suc c) ≡ suc c → Good f g (suc c) r
    good-B e = record { b_in = λ x j. bi x j (same? x (suc c)); b_3 = λ x j. b3 x j (same? x (suc c)); reached = λ x j. re x j (same? x (suc c)); w_in = λ x j m. wi x j m (same? x (suc c)) (same? x k); w_2 = λ x j m. w2 x j m (same? x (suc c)) (same? x k) }
      where
        bi : (x : ℕ) → OneTo (suc c) x → (x ≡ suc c) ⊎ (x ≢ suc c) → OneTo (suc c) (f x)
        bi x j (inl q) = rw (q, e) (omega arith)
        bi x j (inr q) = let z = G.b_in x (omega arith) in omega arith

        b3 : (x : ℕ) → OneTo (suc c) x → (x ≡ suc c) ⊎ (x ≢ suc c) → f (f (f x)) ≡ x
        b3 x j (inl q) = rw (q, e, e, e)
        b3 x j (inr q) = G.b_3 x (omega arith)

        re : (x : ℕ) → OneTo (suc c) x → (x ≡ suc c) ⊎ (x ≢ suc c) → Reached f g 1 x
        re x j (inl q) = rw (q, ← u) (white (G.reached k i))
        re x j (inr q) = G.reached x (omega arith)

        wi : (x : ℕ) → OneTo (suc c) x → ¬ Has x r → (x ≡ suc c) ⊎ (x ≢ suc c) → (x ≡ k) ⊎ (x ≢ k) → OneTo (suc c) (g x)
        wi x j m (inl q) s = rw (q, v) (omega arith)
        wi x j m (inr q) (inl s) = rw (s, u) (omega arith)
        wi x j m (inr q) (inr s) = let z = G.w_in x (omega arith) (⊎_elim s m) in omega arith

        w2 : (x : ℕ) → OneTo (suc c) x → ¬ Has x r → (x ≡ suc c) ⊎ (x ≢ suc c) → (x ≡ k) ⊎ (x ≢ k) → g (g x) ≡ x
        w2 x j m (inl q) s = rw (q, v, u)
        w2 x j m (inr q) (inl s) = rw (s, u, v)
        w2 x j m (inr q) (inr s) = G.w_2 x (omega arith) (⊎_elim s m)

    good-F : f (suc c) ≡ suc (suc c) → f (suc (suc c)) ≡ suc (suc (suc c)) → f (suc (suc (suc c))) ≡ suc c → Good f g (suc (suc (suc c))) (suc (suc (suc c)) ∷ suc (suc c) ∷ r)
    good-F e1 e2 e3 = record { b_in = λ x j. bi x (lies c x j); b_3 = λ x j. b3 x (lies c x j); reached = λ x j. re x (lies c x j); w_in = λ x j m. wi x m (lies c x j) (same? x k); w_2 = λ x j m. w2 x m (lies c x j) (same? x k) }
      where
        n : ℕ
        n = suc (suc (suc c))

        st : List ℕ
        st = suc (suc (suc c)) ∷ suc (suc c) ∷ r

        bi : (x : ℕ) → Lies c x → OneTo n (f x)
        bi x (old j) = let z = G.b_in x j in omega arith
        bi x (new1 q) = rw (q, e1) (omega arith)
        bi x (new2 q) = rw (q, e2) (omega arith)
        bi x (new3 q) = rw (q, e3) (omega arith)

        b3 : (x : ℕ) → Lies c x → f (f (f x)) ≡ x
        b3 x (old j) = G.b_3 x j
        b3 x (new1 q) = rw (q, e1, e2, e3)
        b3 x (new2 q) = rw (q, e2, e3, e1)
        b3 x (new3 q) = rw (q, e3, e1, e2)

        r1 : Reached f g 1 (suc c)
        r1 = rw (← u) (white (G.reached k i))

        r2 : Reached f g 1 (suc (suc c))
        r2 = rw (← e1) (black r1)

        re : (x : ℕ) → Lies c x → Reached f g 1 x
        re x (old j) = G.reached x j
        re x (new1 q) = rw q r1
        re x (new2 q) = rw q r2
        re x (new3 q) = rw (q, ← e2) (black r2)

        wi : (x : ℕ) → ¬ Has x st → Lies c x → (x ≡ k) ⊎ (x ≢ k) → OneTo n (g x)
        wi x m (old j) (inl s) = rw (s, u) (omega arith)
        wi x m (old j) (inr s) = let z = G.w_in x j (⊎_elim s (λ h. m (inr (inr h)))) in omega arith
        wi x m (new1 q) s = rw (q, v) (omega arith)
        wi x m (new2 q) s = absurd (m (inr (inl q)))
        wi x m (new3 q) s = absurd (m (inl q))

        w2 : (x : ℕ) → ¬ Has x st → Lies c x → (x ≡ k) ⊎ (x ≢ k) → g (g x) ≡ x
        w2 x m (old j) (inl s) = rw (s, u, v)
        w2 x m (old j) (inr s) = G.w_2 x j (⊎_elim s (λ h. m (inr (inr h))))
        w2 x m (new1 q) s = rw (q, v, u)
        w2 x m (new2 q) s = absurd (m (inr (inl q)))
        w2 x m (new3 q) s = absurd (m (inl q))

good : (w st s0 s1 : List ℕ) (D : Pair) → State st s0 s1 → spells w st s0 s1 ≡ some D → Good (at D.black) (at D.white) (length s0) st → Good (at D.black) (at D.white) (length D.black) []
unfolding spells
good [] [] s0 s1 D S e G = rw b (rw b at G)
  where
    b : D.black ≡ s0
    b = cc
good [] (k ∷ r) s0 s1 D S e G = absurd (none≢some D e)
good (x ∷ w) [] s0 s1 D S e G = absurd (none≢some D e)
good (zero ∷ w) (k ∷ r) s0 s1 D S e G =
    let T = state-W k r s0 s1 S in
    good w r s0 s1 D T e (good-W _ _ (length s0) k r G (k-in k r s0 s1 S) (W-k k r s0 s1 S D (keeps w r s0 s1 D T e)))
good (suc zero ∷ w) (k ∷ r) s0 s1 D S e G =
    let T = state-F k r s0 s1 S in
    let K = keeps w _ _ _ D T e in
    good w _ _ _ D T e (rw length-3 (good-F _ _ (length s0) k r G (k-in k r s0 s1 S) (F-k k r s0 s1 S D K) (F-w k r s0 s1 S D K) (F-c k r s0 s1 S D K) (F-sc k r s0 s1 S D K) (F-ssc k r s0 s1 S D K)))
good (suc (suc zero) ∷ w) (k ∷ r) s0 s1 D S e G =
    let T = state-B k r s0 s1 S in
    let K = keeps w _ _ _ D T e in
    good w _ _ _ D T e (rw length-1 (good-B _ _ (length s0) k r G (k-in k r s0 s1 S) (B-k k r s0 s1 S D K) (B-w k r s0 s1 S D K) (B-c k r s0 s1 S D K)))
good (suc (suc (suc d)) ∷ w) (k ∷ r) s0 s1 D S e G =
    let q = cond-some (ltb d (length r)) (spells w (remove_at d r) s0 (put (put s1 k (get_or r d 0)) (get_or r d 0) k)) D e in
    let l = ltb-true d (length r) q.0 in
    let T = state-J k r s0 s1 S d l in
    let K = keeps w (remove_at d r) s0 _ D T q.1 in
    good w (remove_at d r) s0 _ D T q.1 (good-J _ _ (length s0) k r G (k-in k r s0 s1 S) d (get_or r d 0) refl (p-in k r s0 s1 S d l) (Jd-k k r s0 s1 S d l D K) (Jd-p k r s0 s1 S d l D K))

good-1 : (f g : ℕ → ℕ) → f 1 ≡ 1 → Good f g 1 (1 ∷ [])
good-1 f g e = record { b_in = λ x j. rw (is x j, e) (omega arith); b_3 = λ x j. rw (is x j, e, e, e); reached = λ x j. rw (is x j) here; w_in = λ x j m. absurd (m (inl (is x j))); w_2 = λ x j m. absurd (m (inl (is x j))) }
  where
    is : (x : ℕ) → OneTo 1 x → x ≡ 1
    is x j = omega arith

good-3 : (f g : ℕ → ℕ) → f 1 ≡ 2 → f 2 ≡ 3 → f 3 ≡ 1 → Good f g 3 (3 ∷ 2 ∷ 1 ∷ [])
good-3 f g e1 e2 e3 = record { b_in = λ x j. bi x (lies 0 x j); b_3 = λ x j. b3 x (lies 0 x j); reached = λ x j. re x (lies 0 x j); w_in = λ x j m. absurd (m (has-down 3 x j)); w_2 = λ x j m. absurd (m (has-down 3 x j)) }
  where
    bi : (x : ℕ) → Lies 0 x → OneTo 3 (f x)
    bi x (old j) = absurd (omega arith)
    bi x (new1 q) = rw (q, e1) (omega arith)
    bi x (new2 q) = rw (q, e2) (omega arith)
    bi x (new3 q) = rw (q, e3) (omega arith)

    b3 : (x : ℕ) → Lies 0 x → f (f (f x)) ≡ x
    b3 x (old j) = absurd (omega arith)
    b3 x (new1 q) = rw (q, e1, e2, e3)
    b3 x (new2 q) = rw (q, e2, e3, e1)
    b3 x (new3 q) = rw (q, e3, e1, e2)

    r2 : Reached f g 1 2
    r2 = rw e1 at (let z : Reached f g 1 (f 1) = black here in z)

    re : (x : ℕ) → Lies 0 x → Reached f g 1 x
    re x (old j) = absurd (omega arith)
    re x (new1 q) = rw q here
    re x (new2 q) = rw q r2
    re x (new3 q) = rw q (rw e2 at (black r2))

valid-of : (f g : ℕ → ℕ) (n : ℕ) → 1 ≤ n → Good f g n [] → Diagram n f g
valid-of f g n l G = record { maps = record { some_edge = l; black_in = G.b_in; white_in = λ x j. G.w_in x j (λ h. h); thrice = G.b_3; twice = λ x j. G.w_2 x j (λ h. h) }; connected = G.reached }

pub spelled-diagram : (w : List ℕ) (D : Pair) → spell w ≡ some D → Diagram (length D.black) (at D.black) (at D.white)
unfolding spell
spelled-diagram [] D e = absurd (none≢some D e)
spelled-diagram (zero ∷ w) D e =
    let K = keeps w _ _ _ D state-U e in
    valid-of _ _ _ K.longer (good w _ _ _ D state-U e (good-1 _ _ (K.blacks 1 (omega arith))))
spelled-diagram (suc zero ∷ w) D e =
    let K = keeps w _ _ _ D state-T e in
    let i = K.longer in
    valid-of _ _ _ (omega arith) (good w _ _ _ D state-T e (good-3 _ _ (K.blacks 1 (omega arith)) (K.blacks 2 (omega arith)) (K.blacks 3 (omega arith))))
spelled-diagram (suc (suc x) ∷ w) D e = absurd (none≢some D e)

pub spelled-lengths : (w : List ℕ) (D : Pair) → spell w ≡ some D → length D.white ≡ length D.black
unfolding spell
spelled-lengths [] D e = absurd (none≢some D e)
spelled-lengths (zero ∷ w) D e = (keeps w _ _ _ D state-U e).same_lengths
spelled-lengths (suc zero ∷ w) D e = (keeps w _ _ _ D state-T e).same_lengths
spelled-lengths (suc (suc x) ∷ w) D e = absurd (none≢some D e)
