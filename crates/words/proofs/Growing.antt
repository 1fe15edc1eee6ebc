-- A diagram while it is being spelled: what holds of the stack and the lists so far, and what the finished diagram keeps of them.
use mathlib.Core.Path.{◌≡◌, refl, sym, subst, ◌∙◌}
use mathlib.Core.Logic.{◌≢◌, inl, inr}
use mathlib.Core.Bool.{Bool, true, false, cond}
use mathlib.Core.Option.{Option, none, some}
use mathlib.Core.List.{List, [], ◌∷◌, ◌++◌}
use Prim.Native.Nat.{ℕ, zero, suc, ◌+◌, ◌≤◌, ◌<◌}
use native.Mathlib.Omega.{arith}
use lib.Dec.{ltb}
use lib.ListN.{length, get_or}
use Rattle.lists.specs.Lists.{at, put, Has, Distinct, remove_at}
use Rattle.lists.specs.Ranges.{OneTo}
use Rattle.lists.proofs.Lists.{has_get_d, remove_at-has, remove_at-not, distinct-remove_at, length-remove_at, length-put, at-put-same, at-put-other, at_left, at_right, length-3, length-1}
use Rattle.lists.proofs.Ranges.{down-has, distinct-down}
use Rattle.lists.proofs.Tests.{ltb-true}
use Rattle.words.specs.Word.{Pair, spells}

-- what holds of a stack and the maps of the labels given so far
pub record State (st s0 s1 : List ℕ) : Type 0 where
  pub even : length s1 ≡ length s0
  pub distinct : Distinct st
  pub within : (x : ℕ) → Has x st → OneTo (length s0) x
  pub fixed : (x : ℕ) → Has x st → at s1 x ≡ x

-- what the finished diagram keeps of them
pub record Keeps (st s0 s1 : List ℕ) (D : Pair) : Type 0 where
  pub longer : length s0 ≤ length D.black
  pub same_lengths : length D.white ≡ length D.black
  pub blacks : (x : ℕ) → OneTo (length s0) x → at D.black x ≡ at s0 x
  pub whites : (x : ℕ) → OneTo (length s0) x → ¬ Has x st → at D.white x ≡ at s1 x

module _ (k : ℕ) (r s0 s1 : List ℕ) (S : State (k ∷ r) s0 s1) where
  -- the next free label, and the maps after F, B and J
  abbrev c : ℕ
  c = suc (length s0)

  abbrev F0 : List ℕ
  F0 = s0 ++ (suc c ∷ suc (suc c) ∷ c ∷ [])

  abbrev F1 : List ℕ
  F1 = put s1 k c ++ (k ∷ suc c ∷ suc (suc c) ∷ [])

  abbrev B0 : List ℕ
  B0 = s0 ++ (c ∷ [])

  abbrev B1 : List ℕ
  B1 = put s1 k c ++ (k ∷ [])

  pub k-in : OneTo (length s0) k
  k-in = S.within k (inl refl)

  k-in' : OneTo (length s1) k
  k-in' = rw S.even k-in

  put-len : (v : ℕ) → length (put s1 k v) ≡ length s0
  put-len v = length-put s1 k v ∙ S.even

  -- an old entry of the white map, with k's set
  pub old-white : (v j : ℕ) (t : List ℕ) → j ≤ length s0 → j ≢ k → at (put s1 k v ++ t) j ≡ at s1 j
  old-white v j t h n = at_left (put s1 k v) t j (rw (put-len v) h) ∙ at-put-other s1 k v j n

  pub new-white : (v j : ℕ) (t : List ℕ) (i : ℕ) → j ≡ suc (length s0 + i) → at (put s1 k v ++ t) j ≡ get_or t i 0
  new-white v j t i e = at_right (put s1 k v) t j i (rw (put-len v) e)

  pub k-white : (v : ℕ) (t : List ℕ) → at (put s1 k v ++ t) k ≡ v
  k-white v t = at_left (put s1 k v) t k (rw (put-len v) k-in.1) ∙ at-put-same s1 k v k-in'

  old-r : (x : ℕ) → Has x r → x ≢ k
  old-r x h e = S.distinct.0 (rw e at h)

  pub state-W : State r s0 s1
  state-W = record { even = S.even; distinct = S.distinct.1; within = λ x h. S.within x (inr h); fixed = λ x h. S.fixed x (inr h) }

  pub state-F : State (suc (suc c) ∷ suc c ∷ r) F0 F1
  state-F = record { even = simp (length-3, length-put, S.even); distinct = (a1, (a2, S.distinct.1)); within = λ x h. rw length-3 (w x h); fixed = fx }
    where
      a2 : ¬ Has (suc c) r
      a2 h = let i = S.within (suc c) (inr h) in omega arith

      a1 : ¬ Has (suc (suc c)) (suc c ∷ r)
      a1 (inl e) = omega arith
      a1 (inr h) = let i = S.within (suc (suc c)) (inr h) in omega arith

      w : (x : ℕ) → Has x (suc (suc c) ∷ suc c ∷ r) → OneTo (suc (suc (suc (length s0)))) x
      w x (inl e) = omega arith
      w x (inr (inl e)) = omega arith
      w x (inr (inr h)) = let i = S.within x (inr h) in omega arith

      fx : (x : ℕ) → Has x (suc (suc c) ∷ suc c ∷ r) → at F1 x ≡ x
      fx x (inl e) = rw e (new-white c (suc (suc c)) _ 2 (omega arith))
      fx x (inr (inl e)) = rw e (new-white c (suc c) _ 1 (omega arith))
      fx x (inr (inr h)) = old-white c x _ (S.within x (inr h)).1 (old-r x h) ∙ S.fixed x (inr h)

  pub state-B : State r B0 B1
  state-B = record { even = simp (length-1, length-put, S.even); distinct = S.distinct.1; within = λ x h. rw length-1 (w x h); fixed = λ x h. old-white c x _ (S.within x (inr h)).1 (old-r x h) ∙ S.fixed x (inr h) }
    where
      w : (x : ℕ) → Has x r → OneTo (suc (length s0)) x
      w x h = let i = S.within x (inr h) in omega arith

  module _ (D : Pair) where
    keeps-W : Keeps r s0 s1 D → Keeps (k ∷ r) s0 s1 D
    keeps-W K = record { longer = K.longer; same_lengths = K.same_lengths; blacks = K.blacks; whites = λ x e n. K.whites x e (λ h. n (inr h)) }

    keeps-F : Keeps (suc (suc c) ∷ suc c ∷ r) F0 F1 D → Keeps (k ∷ r) s0 s1 D
    keeps-F K = record { longer = let i = rw length-3 at K.longer in omega arith; same_lengths = K.same_lengths; blacks = λ x e. K.blacks x (up x e) ∙ at_left s0 _ x e.1; whites = λ x e n. K.whites x (up x e) (no x e n) ∙ old-white c x _ e.1 (λ q. n (inl q)) }
      where
        up : (x : ℕ) → OneTo (length s0) x → OneTo (length F0) x
        up x e = rw length-3 (omega arith)

        no : (x : ℕ) → OneTo (length s0) x → ¬ Has x (k ∷ r) → ¬ Has x (suc (suc c) ∷ suc c ∷ r)
        no x e n (inl q) = omega arith
        no x e n (inr (inl q)) = omega arith
        no x e n (inr (inr h)) = n (inr h)

    -- what the finished diagram has at the edges that the item speaks of
    pub W-k : Keeps r s0 s1 D → at D.white k ≡ k
    W-k K = K.whites k k-in S.distinct.0 ∙ S.fixed k (inl refl)

    module _ (K : Keeps (suc (suc c) ∷ suc c ∷ r) F0 F1 D) where
      F-edge : (x : ℕ) → 1 ≤ x → x ≤ suc (suc c) → OneTo (length F0) x
      F-edge x l u = rw length-3 (l, u)

      F-out : (x : ℕ) → x ≤ c → ¬ Has x r → ¬ Has x (suc (suc c) ∷ suc c ∷ r)
      F-out x l n (inl q) = omega arith
      F-out x l n (inr (inl q)) = omega arith
      F-out x l n (inr (inr h)) = n h

      pub F-k : at D.white k ≡ c
      F-k = K.whites k (F-edge k k-in.0 (let i = k-in in omega arith)) (F-out k (let i = k-in in omega arith) S.distinct.0) ∙ k-white c _

      pub F-w : at D.white c ≡ k
      F-w = K.whites c (F-edge c (omega arith) (omega arith)) (F-out c (omega arith) (λ h. let i = S.within c (inr h) in omega arith)) ∙ new-white c c _ 0 (omega arith)

      pub F-c : at D.black c ≡ suc c
      F-c = K.blacks c (F-edge c (omega arith) (omega arith)) ∙ at_right s0 _ c 0 (omega arith)

      pub F-sc : at D.black (suc c) ≡ suc (suc c)
      F-sc = K.blacks (suc c) (F-edge (suc c) (omega arith) (omega arith)) ∙ at_right s0 _ (suc c) 1 (omega arith)

      pub F-ssc : at D.black (suc (suc c)) ≡ c
      F-ssc = K.blacks (suc (suc c)) (F-edge (suc (suc c)) (omega arith) (omega arith)) ∙ at_right s0 _ (suc (suc c)) 2 (omega arith)

    module _ (K : Keeps r B0 B1 D) where
      B-edge : (x : ℕ) → 1 ≤ x → x ≤ c → OneTo (length B0) x
      B-edge x l u = rw length-1 (l, u)

      pub B-k : at D.white k ≡ c
      B-k = K.whites k (B-edge k k-in.0 (let i = k-in in omega arith)) S.distinct.0 ∙ k-white c _

      pub B-w : at D.white c ≡ k
      B-w = K.whites c (B-edge c (omega arith) (omega arith)) (λ h. let i = S.within c (inr h) in omega arith) ∙ new-white c c _ 0 (omega arith)

      pub B-c : at D.black c ≡ c
      B-c = K.blacks c (B-edge c (omega arith) (omega arith)) ∙ at_right s0 _ c 0 (omega arith)

    keeps-B : Keeps r B0 B1 D → Keeps (k ∷ r) s0 s1 D
    keeps-B K = record { longer = let i = rw length-1 at K.longer in omega arith; same_lengths = K.same_lengths; blacks = λ x e. K.blacks x (up x e) ∙ at_left s0 _ x e.1; whites = λ x e n. K.whites x (up x e) (λ h. n (inr h)) ∙ old-white c x _ e.1 (λ q. n (inl q)) }
      where
        up : (x : ℕ) → OneTo (length s0) x → OneTo (length B0) x
        up x e = rw length-1 (omega arith)

  module _ (d : ℕ) (l : d < length r) where
    abbrev p : ℕ
    p = get_or r d 0

    abbrev J1 : List ℕ
    J1 = put (put s1 k p) p k

    pub p-has : Has p r
    p-has = has_get_d r d l

    pub p-k : p ≢ k
    p-k = old-r p p-has

    pub p-in : OneTo (length s0) p
    p-in = S.within p (inr p-has)

    pub J-other : (x : ℕ) → x ≢ k → x ≢ p → at J1 x ≡ at s1 x
    J-other x n m = at-put-other (put s1 k p) p k x m ∙ at-put-other s1 k p x n

    pub J-k : at J1 k ≡ p
    J-k = at-put-other (put s1 k p) p k k (λ e. p-k (sym e)) ∙ at-put-same s1 k p k-in'

    pub J-p : at J1 p ≡ k
    J-p = at-put-same (put s1 k p) p k (rw (put-len p) p-in)

    pub remove_at-p : (x : ℕ) → Has x (remove_at d r) → x ≢ p
    remove_at-p x h e = remove_at-not d r S.distinct.1 l (rw e at h)

    pub state-J : State (remove_at d r) s0 J1
    state-J = record {
      even = simp (length-put, S.even);
      distinct = distinct-remove_at d r S.distinct.1;
      within = λ x h. S.within x (inr (remove_at-has d r x h));
      fixed = λ x h. J-other x (old-r x (remove_at-has d r x h)) (remove_at-p x h) ∙ S.fixed x (inr (remove_at-has d r x h));
    }

    pub Jd-k : (D : Pair) → Keeps (remove_at d r) s0 J1 D → at D.white k ≡ p
    Jd-k D K = K.whites k k-in (λ h. S.distinct.0 (remove_at-has d r k h)) ∙ J-k

    pub Jd-p : (D : Pair) → Keeps (remove_at d r) s0 J1 D → at D.white p ≡ k
    Jd-p D K = K.whites p p-in (remove_at-not d r S.distinct.1 l) ∙ J-p

    keeps-J : (D : Pair) → Keeps (remove_at d r) s0 J1 D → Keeps (k ∷ r) s0 s1 D
    keeps-J D K = record {
      longer = K.longer;
      same_lengths = K.same_lengths;
      blacks = K.blacks;
      whites = λ x e n. K.whites x e (λ h. n (inr (remove_at-has d r x h))) ∙ J-other x (λ q. n (inl q)) (λ q. n (inr (subst (λ (y : ℕ). Has y r) (sym q) p-has)));
    }

pub none≢some : (D : Pair) → none ≡ some D → ⊥
none≢some D e = let z : ◌≡◌ {A = ℕ} 0 1 = cc in omega arith

pub cond-some : (b : Bool) (q : Option Pair) (D : Pair) → cond b q none ≡ some D → (b ≡ true) × (q ≡ some D)
cond-some true q D e = (refl, e)
cond-some false q D e = absurd (none≢some D e)

pub keeps : (w st s0 s1 : List ℕ) (D : Pair) → State st s0 s1 → spells w st s0 s1 ≡ some D → Keeps st s0 s1 D
unfolding spells
keeps [] [] s0 s1 D S e = record { longer = rw b (omega arith); same_lengths = rw (b, w) S.even; blacks = λ x i. rw b; whites = λ x i n. rw w }
  where
    b : D.black ≡ s0
    b = cc

    w : D.white ≡ s1
    w = cc
keeps [] (k ∷ r) s0 s1 D S e = absurd (none≢some D e)
keeps (x ∷ w) [] s0 s1 D S e = absurd (none≢some D e)
keeps (zero ∷ w) (k ∷ r) s0 s1 D S e = keeps-W k r s0 s1 S D (keeps w r s0 s1 D (state-W k r s0 s1 S) e)
keeps (suc zero ∷ w) (k ∷ r) s0 s1 D S e = keeps-F k r s0 s1 S D (keeps w _ _ _ D (state-F k r s0 s1 S) e)
keeps (suc (suc zero) ∷ w) (k ∷ r) s0 s1 D S e = keeps-B k r s0 s1 S D (keeps w _ _ _ D (state-B k r s0 s1 S) e)
keeps (suc (suc (suc d)) ∷ w) (k ∷ r) s0 s1 D S e = let q = cond-some (ltb d (length r)) (spells w (remove_at d r) s0 (put (put s1 k (get_or r d 0)) (get_or r d 0) k)) D e in
    let l = ltb-true d (length r) q.0 in
    keeps-J k r s0 s1 S d l D (keeps w (remove_at d r) s0 _ D (state-J k r s0 s1 S d l) q.1)

-- the items are at most the pending labels and the labels still to come
pub short : (w st s0 s1 : List ℕ) (D : Pair) → spells w st s0 s1 ≡ some D → length w + length s0 ≤ length st + length D.black
unfolding spells
short [] [] s0 s1 D e = rw b (omega arith)
  where
    b : D.black ≡ s0
    b = cc
short [] (k ∷ r) s0 s1 D e = absurd (none≢some D e)
short (x ∷ w) [] s0 s1 D e = absurd (none≢some D e)
short (zero ∷ w) (k ∷ r) s0 s1 D e = let i = short w r s0 s1 D e in omega arith
short (suc zero ∷ w) (k ∷ r) s0 s1 D e = let i = rw length-3 at (short w _ _ _ D e) in omega arith
short (suc (suc zero) ∷ w) (k ∷ r) s0 s1 D e = let i = rw length-1 at (short w _ _ _ D e) in omega arith
short (suc (suc (suc d)) ∷ w) (k ∷ r) s0 s1 D e =
    let q = cond-some (ltb d (length r)) (spells w (remove_at d r) s0 (put (put s1 k (get_or r d 0)) (get_or r d 0) k)) D e in
    let i = short w (remove_at d r) s0 _ D q.1 in
    let j = length-remove_at d r (ltb-true d (length r) q.0) in
    omega arith

pub state-U : State (1 ∷ []) (1 ∷ []) (1 ∷ [])
state-U = record { even = refl; distinct = (λ h. h, tt); within = w; fixed = f }
  where
    w : (x : ℕ) → Has x (1 ∷ []) → OneTo 1 x
    w x (inl e) = omega arith
    w x (inr h) = absurd h

    f : (x : ℕ) → Has x (1 ∷ []) → at (1 ∷ []) x ≡ x
    f x (inl e) = rw e
    f x (inr h) = absurd h

pub state-T : State (3 ∷ 2 ∷ 1 ∷ []) (2 ∷ 3 ∷ 1 ∷ []) (1 ∷ 2 ∷ 3 ∷ [])
state-T = record { even = refl; distinct = distinct-down 3; within = down-has 3; fixed = f }
  where
    f : (x : ℕ) → Has x (3 ∷ 2 ∷ 1 ∷ []) → at (1 ∷ 2 ∷ 3 ∷ []) x ≡ x
    f x (inl e) = rw e
    f x (inr (inl e)) = rw e
    f x (inr (inr (inl e))) = rw e
    f x (inr (inr (inr h))) = absurd h
