-- The word of a diagram that is labelled 1, 2, .. as it stands spells that diagram.
use mathlib.Core.Path.{◌≡◌, refl, sym, ap, ◌∙◌}
use mathlib.Core.Logic.{◌≢◌, ◌⊎◌, inl, inr, ⊎_elim}
use mathlib.Core.Option.{some}
use mathlib.Core.List.{List, [], ◌∷◌, ◌++◌, nil≢cons, tail-eq_of_cons-eq, head-eq_of_cons-eq}
use Prim.Native.Nat.{ℕ, zero, suc, ◌+◌, ◌≤◌, ◌<◌}
use native.Mathlib.Omega.{arith}
use lib.ListN.{length, get_or}
use lib.Seq.{ext_get_or}
use Rattle.lists.specs.Lists.{at, put, tabulate, Has, find, remove_at}
use Rattle.lists.specs.Ranges.{OneTo, down}
use Rattle.lists.proofs.Lists.{find-lt, get_or-find, remove_at-other, length-remove_at, at_left, at_right, length-listed, at_listed, length-3, length-1}
use Rattle.lists.proofs.Ranges.{has-down, length-down}
use Rattle.lists.proofs.Tests.{same?, lt-true}
use Rattle.diagrams.specs.Diagram.{Diagram}
use Rattle.words.specs.Word.{Pair, spells, spell}
use Rattle.words.proofs.Growing.{State, state-W, state-F, state-B, state-J, state-U, state-T, old-white, new-white, k-white, J-other, J-k, J-p}
use Rattle.labelling.specs.Labelling.{event, LabellingInvariant, events, label}
use Rattle.labelling.proofs.Along.{View, is-W, is-J, is-B, is-F, view, next, size}
use Rattle.labelling.proofs.Labels.{run-extends, inv-U, inv-T}
use Rattle.labelling.proofs.Moves.{label-U, label-T}

-- ---- lists by their entries

at-ext : (s t : List ℕ) → length s ≡ length t → ((j : ℕ) → OneTo (length s) j → at s j ≡ at t j) → s ≡ t
at-ext s t l k = ext_get_or 0 s t l (λ i h. k (suc i) (omega arith))

pub is-listed : (f : ℕ → ℕ) (n : ℕ) (s : List ℕ) → length s ≡ n → ((j : ℕ) → OneTo n j → at s j ≡ f j) → s ≡ tabulate f n
is-listed f n s l k = at-ext s (tabulate f n) (l ∙ sym (length-listed f n)) (λ j e. let i : OneTo n j = rw l at e in k j i ∙ sym (at_listed f n j i))

-- ---- a list that ends n, .., 2, 1

ends-down : (e l : List ℕ) (n : ℕ) → down n ≡ e ++ l → l ≡ down (length l)
ends-down [] l n q = rw (sym q, length-down)
ends-down (x ∷ e) l zero q = absurd (nil≢cons q)
ends-down (x ∷ e) l (suc n) q = ends-down e l n (tail-eq_of_cons-eq q)

module _ (n : ℕ) (f g : ℕ → ℕ) (D : Diagram n f g) where
  -- the maps of the labels given so far are those of the diagram, but at pending labels
  record Agree (st s0 s1 : List ℕ) : Type 0 where
    blacks : (j : ℕ) → OneTo (length s0) j → at s0 j ≡ f j
    whites : (j : ℕ) → OneTo (length s0) j → ¬ Has j st → at s1 j ≡ g j

  abbrev pub L : Pair
  L = record { black = tabulate f n; white = tabulate g n }

  abbrev Goal : ℕ → List ℕ → List ℕ → List ℕ → Type 0
  Goal m st s0 s1 = State st s0 s1 → Agree st s0 s1 → LabellingInvariant n f g (down (length s0)) st → length st + n ≤ m + length s0
      → (events f g m (down (length s0)) st).marked ≡ down n → spells (events f g m (down (length s0)) st).word st s0 s1 ≡ some L

  at-end : (s0 s1 : List ℕ) → State [] s0 s1 → Agree [] s0 s1 → down (length s0) ≡ down n → spells [] [] s0 s1 ≡ some L
  unfolding spells
  at-end s0 s1 S A e = rw (is-listed f n s0 c (λ j i. A.blacks j (rw c i)), is-listed g n s1 (S.even ∙ c) (λ j i. A.whites j (rw c i) (λ z. z)))
    where
      c : length s0 ≡ n
      c = sym (length-down (length s0)) ∙ ap length e ∙ length-down n

  module _ (m : ℕ) (ih : (st s0 s1 : List ℕ) → Goal m st s0 s1) (k : ℕ) (r s0 s1 : List ℕ) (S : State (k ∷ r) s0 s1) (A : Agree (k ∷ r) s0 s1) (I : LabellingInvariant n f g (down (length s0)) (k ∷ r)) (h : length (k ∷ r) + n ≤ suc m + length s0) (e : (events f g (suc m) (down (length s0)) (k ∷ r)).marked ≡ down n) where
    abbrev o : List ℕ
    o = down (length s0)

    by-W : g k ≡ k → event f g o k r ≡ record { item = 0; marked = o; stack = r } → spells (events f g (suc m) o (k ∷ r)).word (k ∷ r) s0 s1 ≡ some L
    unfolding events spells
    by-W w q = rw q (ih r s0 s1 (state-W k r s0 s1 S) record { blacks = A.blacks; whites = λ j i a. go j i a (same? j k) } (rw q at (next n f g D.maps o k r I)) (omega arith) (rw q at e))
      where
        go : (j : ℕ) → OneTo (length s0) j → ¬ Has j r → (j ≡ k) ⊎ (j ≢ k) → at s1 j ≡ g j
        go j i a (inl b) = rw (b, w) (S.fixed k (inl refl))
        go j i a (inr b) = A.whites j i (⊎_elim b a)

    back : g (g k) ≡ k
    back = D.maps.twice k (I.edges k (I.pending k (inl refl)))

    by-J : Has (g k) r → event f g o k r ≡ record { item = suc (suc (suc (find (g k) r))); marked = o; stack = remove_at (find (g k) r) r } → spells (events f g (suc m) o (k ∷ r)).word (k ∷ r) s0 s1 ≡ some L
    unfolding events spells
    by-J i q = rw (q, lt-true d (length r) l) (ih (remove_at d r) s0 (put (put s1 k (get_or r d 0)) (get_or r d 0) k) (state-J k r s0 s1 S d l) record { blacks = A.blacks; whites = λ j b a. go j b a (same? j k) (same? j p) } (rw q at (next n f g D.maps o k r I)) (let z = length-remove_at d r l in omega arith) (rw q at e))
      where
        d : ℕ
        d = find (g k) r

        l : d < length r
        l = find-lt (g k) r i

        p : ℕ
        p = get_or r d 0

        there : p ≡ g k
        there = get_or-find (g k) r i

        go : (j : ℕ) → OneTo (length s0) j → ¬ Has j (remove_at d r) → (j ≡ k) ⊎ (j ≢ k) → (j ≡ p) ⊎ (j ≢ p) → at (put (put s1 k p) p k) j ≡ g j
        go j b a (inl u) v = rw u (J-k k r s0 s1 S d l ∙ there)
        go j b a (inr u) (inl v) = rw v (J-p k r s0 s1 S d l ∙ sym (rw there back))
        go j b a (inr u) (inr v) = J-other k r s0 s1 S d l j u v ∙ A.whites j b (⊎_elim u (λ z. a (remove_at-other d r j z v)))

    abbrev c : ℕ
    c = suc (length s0)

    -- what the move labels are the next labels
    fresh : (o' st' : List ℕ) (x : ℕ) → event f g o k r ≡ record { item = x; marked = o'; stack = st' } → o' ≡ down (length o')
    unfolding events
    fresh o' st' x q = let t = run-extends f g m o' st' in ends-down t.more o' n (sym (rw q at e) ∙ t.is)

    by-B : f (g k) ≡ g k → event f g o k r ≡ record { item = 2; marked = g k ∷ o; stack = r } → spells (events f g (suc m) o (k ∷ r)).word (k ∷ r) s0 s1 ≡ some L
    unfolding events spells
    by-B w q = rw q' (rw length-1 at (ih r (s0 ++ (c ∷ [])) (put s1 k c ++ (k ∷ [])) (state-B k r s0 s1 S) record { blacks = λ j b. bl j (rw length-1 at b) (same? j c); whites = λ j b a. go j (rw length-1 at b) a (same? j k) (same? j c) }
        (rw length-1 (rw q' at (next n f g D.maps o k r I))) (rw length-1 (omega arith)) (rw length-1 (rw q' at e))))
      where
        p-c : g k ≡ c
        p-c = rw length-down at (head-eq_of_cons-eq (fresh (g k ∷ o) r 2 q))

        q' : event f g o k r ≡ record { item = 2; marked = c ∷ o; stack = r }
        q' = rw p-c at q

        bl : (j : ℕ) → OneTo c j → (j ≡ c) ⊎ (j ≢ c) → at (s0 ++ (c ∷ [])) j ≡ f j
        bl j b (inl u) = rw u (at_right s0 (c ∷ []) c 0 (omega arith) ∙ sym (rw p-c at w))
        bl j b (inr u) = at_left s0 (c ∷ []) j (omega arith) ∙ A.blacks j (omega arith)

        go : (j : ℕ) → OneTo c j → ¬ Has j r → (j ≡ k) ⊎ (j ≢ k) → (j ≡ c) ⊎ (j ≢ c) → at (put s1 k c ++ (k ∷ [])) j ≡ g j
        go j b a (inl u) v = rw u (k-white k r s0 s1 S c (k ∷ []) ∙ sym p-c)
        go j b a (inr u) (inl v) = rw v (new-white k r s0 s1 S c c (k ∷ []) 0 (omega arith) ∙ sym (rw p-c at back))
        go j b a (inr u) (inr v) = old-white k r s0 s1 S c j (k ∷ []) (omega arith) u ∙ A.whites j (omega arith) (⊎_elim u a)

    by-F : event f g o k r ≡ record { item = 1; marked = f (f (g k)) ∷ f (g k) ∷ g k ∷ o; stack = f (f (g k)) ∷ f (g k) ∷ r } → spells (events f g (suc m) o (k ∷ r)).word (k ∷ r) s0 s1 ≡ some L
    unfolding events spells
    by-F q = rw q' (rw length-3 at (ih (suc (suc c) ∷ suc c ∷ r) (s0 ++ three) (put s1 k c ++ (k ∷ suc c ∷ suc (suc c) ∷ [])) (state-F k r s0 s1 S)
        record { blacks = λ j b. bl j (rw length-3 at b) (same? j c) (same? j (suc c)) (same? j (suc (suc c))); whites = λ j b a. go j (rw length-3 at b) a (same? j k) (same? j c) }
        (rw length-3 (rw q' at (next n f g D.maps o k r I))) (rw length-3 (omega arith)) (rw length-3 (rw q' at e))))
      where
        three : List ℕ
        three = suc c ∷ suc (suc c) ∷ c ∷ []

        all : f (f (g k)) ∷ f (g k) ∷ g k ∷ o ≡ suc (suc c) ∷ suc c ∷ c ∷ o
        all = rw length-down at (fresh (f (f (g k)) ∷ f (g k) ∷ g k ∷ o) (f (f (g k)) ∷ f (g k) ∷ r) 1 q)

        p-c : g k ≡ c
        p-c = head-eq_of_cons-eq (tail-eq_of_cons-eq (tail-eq_of_cons-eq all))

        c_1 : f c ≡ suc c
        c_1 = rw p-c at (head-eq_of_cons-eq (tail-eq_of_cons-eq all))

        c_2 : f (suc c) ≡ suc (suc c)
        c_2 = rw (p-c, c_1) at (head-eq_of_cons-eq all)

        c_3 : f (suc (suc c)) ≡ c
        c_3 = rw (p-c, c_1, c_2) at (D.maps.thrice (g k) (D.maps.white_in k (I.edges k (I.pending k (inl refl)))))

        q' : event f g o k r ≡ record { item = 1; marked = suc (suc c) ∷ suc c ∷ c ∷ o; stack = suc (suc c) ∷ suc c ∷ r }
        q' = rw (p-c, c_1, c_2) at q

        bl : (j : ℕ) → OneTo (suc (suc c)) j → (j ≡ c) ⊎ (j ≢ c) → (j ≡ suc c) ⊎ (j ≢ suc c) → (j ≡ suc (suc c)) ⊎ (j ≢ suc (suc c)) → at (s0 ++ three) j ≡ f j
        bl j b (inl u) v w = rw u (at_right s0 three c 0 (omega arith) ∙ sym c_1)
        bl j b (inr u) (inl v) w = rw v (at_right s0 three (suc c) 1 (omega arith) ∙ sym c_2)
        bl j b (inr u) (inr v) (inl w) = rw w (at_right s0 three (suc (suc c)) 2 (omega arith) ∙ sym c_3)
        bl j b (inr u) (inr v) (inr w) = at_left s0 three j (omega arith) ∙ A.blacks j (omega arith)

        go : (j : ℕ) → OneTo (suc (suc c)) j → ¬ Has j (suc (suc c) ∷ suc c ∷ r) → (j ≡ k) ⊎ (j ≢ k) → (j ≡ c) ⊎ (j ≢ c) → at (put s1 k c ++ (k ∷ suc c ∷ suc (suc c) ∷ [])) j ≡ g j
        go j b a (inl u) v = rw u (k-white k r s0 s1 S c (k ∷ suc c ∷ suc (suc c) ∷ []) ∙ sym p-c)
        go j b a (inr u) (inl v) = rw v (new-white k r s0 s1 S c c (k ∷ suc c ∷ suc (suc c) ∷ []) 0 (omega arith) ∙ sym (rw p-c at back))
        go j b a (inr u) (inr v) =
            let x : j ≢ suc c = λ z. a (inr (inl z)) in
            let y : j ≢ suc (suc c) = λ z. a (inl z) in
            old-white k r s0 s1 S c j (k ∷ suc c ∷ suc (suc c) ∷ []) (omega arith) u ∙ A.whites j (omega arith) (⊎_elim u (λ z. a (inr (inr z))))

    step : spells (events f g (suc m) o (k ∷ r)).word (k ∷ r) s0 s1 ≡ some L
    step = go (view n f g D.maps o k r I)
      where
        go : View f g o k r → spells (events f g (suc m) o (k ∷ r)).word (k ∷ r) s0 s1 ≡ some L
        go (is-W w q) = by-W w q
        go (is-J a w q) = by-J w q
        go (is-B a b w q) = by-B w q
        go (is-F a b w q) = by-F q

  spelt : (m : ℕ) (st s0 s1 : List ℕ) → Goal m st s0 s1
  unfolding events
  spelt zero [] s0 s1 S A I h e = at-end s0 s1 S A e
  spelt zero (k ∷ r) s0 s1 S A I h e = let i = rw length-down at (size n f g D.maps (down (length s0)) (k ∷ r) I) in absurd (omega arith)
  spelt (suc m) [] s0 s1 S A I h e = at-end s0 s1 S A e
  spelt (suc m) (k ∷ r) s0 s1 S A I h e = step m (λ st t0 t1. spelt m st t0 t1) k r s0 s1 S A I h e

  one : OneTo n 1
  one = let i = D.maps.some_edge in omega arith

  pub own-word-spells : (label n f g 1).marked ≡ down n → spell (label n f g 1).word ≡ some L
  own-word-spells e = go (same? (f 1) 1)
    where
      spell-0 : (w : List ℕ) → spell (0 ∷ w) ≡ spells w (1 ∷ []) (1 ∷ []) (1 ∷ [])
      spell-0 w = unfold spell in refl

      spell-1 : (w : List ℕ) → spell (1 ∷ w) ≡ spells w (3 ∷ 2 ∷ 1 ∷ []) (2 ∷ 3 ∷ 1 ∷ []) (1 ∷ 2 ∷ 3 ∷ [])
      spell-1 w = unfold spell in refl

      agree-U : f 1 ≡ 1 → Agree (1 ∷ []) (1 ∷ []) (1 ∷ [])
      agree-U q = record { blacks = λ j b. (let z : j ≡ 1 = omega arith in rw (z, q)); whites = λ j b a. absurd (a (inl (omega arith))) }

      case-T : f 1 ≢ 1 → f (f 1) ∷ f 1 ∷ 1 ∷ [] ≡ 3 ∷ 2 ∷ 1 ∷ [] → spell (label n f g 1).word ≡ some L
      case-T q all = rw (label-T n f g 1 q, two, three) (spell-1 _ ∙ spelt n (3 ∷ 2 ∷ 1 ∷ []) (2 ∷ 3 ∷ 1 ∷ []) (1 ∷ 2 ∷ 3 ∷ []) state-T
          record { blacks = λ j b. bl j b (same? j 1) (same? j 2); whites = λ j b a. absurd (a (has-down 3 j b)) }
          (rw (two, three) at (inv-T n f g D.maps 1 one q)) (omega arith) (rw (label-T n f g 1 q, two, three) at e))
        where
          two : f 1 ≡ 2
          two = head-eq_of_cons-eq (tail-eq_of_cons-eq all)

          three : f 2 ≡ 3
          three = rw two at (head-eq_of_cons-eq all)

          four : f 3 ≡ 1
          four = rw (two, three) at (D.maps.thrice 1 one)

          bl : (j : ℕ) → OneTo 3 j → (j ≡ 1) ⊎ (j ≢ 1) → (j ≡ 2) ⊎ (j ≢ 2) → at (2 ∷ 3 ∷ 1 ∷ []) j ≡ f j
          bl j b (inl u) v = rw (u, two)
          bl j b (inr u) (inl v) = rw (v, three)
          bl j b (inr u) (inr v) = let z : j ≡ 3 = omega arith in rw (z, four)

      go : (f 1 ≡ 1) ⊎ (f 1 ≢ 1) → spell (label n f g 1).word ≡ some L
      go (inl q) = rw (label-U n f g 1 q) (spell-0 _ ∙ spelt n (1 ∷ []) (1 ∷ []) (1 ∷ []) state-U (agree-U q) (inv-U n f g D.maps 1 one q) (omega arith) (rw (label-U n f g 1 q) at e))
      go (inr q) = case-T q (let t = run-extends f g n (f (f 1) ∷ f 1 ∷ 1 ∷ []) (f (f 1) ∷ f 1 ∷ 1 ∷ []) in ends-down t.more (f (f 1) ∷ f 1 ∷ 1 ∷ []) n (sym (rw (label-T n f g 1 q) at e) ∙ t.is))
