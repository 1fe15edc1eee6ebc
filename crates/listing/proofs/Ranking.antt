-- `unrank` is the way to go on at a place of `completions`, and `rank` the place of a way to go on.
use mathlib.Core.Path.{◌≡◌, refl, ap, ◌∙◌}
use mathlib.Core.Logic.{◌⊎◌, inl, inr}
use mathlib.Core.Bool.{cond}
use Prim.Native.Nat.{ℕ, zero, suc, ◌+◌, ◌*◌, ◌-◌, ◌≤◌, ◌<◌}
use native.Mathlib.Nat.{not-suc-le-zero, suc-mul, zero-mul, add-zero, add-suc, suc-add}
use native.Mathlib.Omega.{arith}
use mathlib.Core.List.{List, [], ◌∷◌, ◌++◌}
use lib.Dec.{ltb}
use lib.ListN.{length, get_or, get_or-append}
use lib.Seq.{get_or-append-add}
use Rattle.lists.proofs.Tests.{lt-true, lt-false, lt?}
use Rattle.words.specs.Shape.{pre, less1, less3, Fits}
use Rattle.listing.specs.Listing.{prefix_each, prefix_range, at_empty_stack, completions, ways}
use Rattle.listing.specs.Ranking.{join_block, ways_f, ways_b, unrank, rank}
use Rattle.listing.proofs.Completions.{length-each, pre-le, completions-0, completions-ways, ways-0-0, ways-suc}

-- the word at a place of `prefix_each`
pub get_or-each : (x i : ℕ) (ws : List (List ℕ)) → i < length ws → get_or (prefix_each x ws) i [] ≡ x ∷ get_or ws i []
get_or-each x i [] h = absurd (not-suc-le-zero h)
get_or-each x zero (w ∷ ws) h = refl
get_or-each x (suc i) (w ∷ ws) h = get_or-each x i ws (omega arith)

-- an append, by a test
split : (s t : List (List ℕ)) (n i : ℕ) (X Y : List ℕ) → length s ≡ n → (i < n → get_or s i [] ≡ X) → (n ≤ i → get_or t (i - n) [] ≡ Y) → get_or (s ++ t) i [] ≡ cond (ltb i n) X Y
split s t n i X Y l a b = go (lt? i n)
  where
    go : (i < n) ⊎ (n ≤ i) → get_or (s ++ t) i [] ≡ cond (ltb i n) X Y
    go (inl h) = rw (lt-true i n h) (get_or-append s t [] i (rw l h) ∙ a h)
    go (inr h) =
        let e : length s + (i - n) ≡ i = omega arith in
        rw (lt-false i n h) ((rw e at (get_or-append-add s t (i - n) [])) ∙ b h)

fan-at : (x j n i : ℕ) (ws : List (List ℕ)) (k : ℕ → List ℕ) → length ws ≡ n → ((i : ℕ) → i < n → get_or ws i [] ≡ k i) → i < j * n → get_or (prefix_range x j ws) i [] ≡ join_block x j n i k
fan-at x zero n i ws k l a h = absurd (not-suc-le-zero (rw zero-mul at h))
fan-at x (suc j) n i ws k l a h =
    let h' = rw suc-mul at h in
    split (prefix_each x ws) (prefix_range (suc x) j ws) n i (x ∷ k i) (join_block (suc x) j n (i - n) k) (length-each x ws ∙ l) (λ b. get_or-each x i ws (rw l b) ∙ ap (λ (w : List ℕ). x ∷ w) (a i b))
    (λ b. fan-at (suc x) j n (i - n) ws k l a (omega arith))

-- the ways to go on at a stack of height h + 1, by their first event
pub ways-parts : (h f : ℕ) → ways (suc h) f ≡ ways h f + (ways_f h f + (ways_b h f + h * ways (pre h) f))
unfolding ways_f ways_b
ways-parts h f = ways-suc h f

ways_f-ways : (m h f : ℕ) → suc h + f ≤ suc m → length (less3 f [] (λ g. completions m (suc (suc h)) g)) ≡ ways_f h f
unfolding ways_f
ways_f-ways m h zero l = refl
ways_f-ways m h (suc zero) l = refl
ways_f-ways m h (suc (suc zero)) l = refl
ways_f-ways m h (suc (suc (suc f))) l = completions-ways m (suc (suc h)) f (omega arith)

ways_b-ways : (m h f : ℕ) → suc h + f ≤ suc m → length (less1 f [] (λ g. completions m h g)) ≡ ways_b h f
unfolding ways_b
ways_b-ways m h zero l = refl
ways_b-ways m h (suc f) l = completions-ways m h f (omega arith)

four : (s1 s2 s3 s4 : List (List ℕ)) (a b c e i : ℕ) (X1 X2 X3 X4 : List ℕ) → length s1 ≡ a → length s2 ≡ b → length s3 ≡ c → i < a + (b + (c + e))
    → (i < a → get_or s1 i [] ≡ X1) → (i - a < b → get_or s2 (i - a) [] ≡ X2) → (i - a - b < c → get_or s3 (i - a - b) [] ≡ X3) → (i - a - b - c < e → get_or s4 (i - a - b - c) [] ≡ X4)
    → get_or (s1 ++ (s2 ++ (s3 ++ s4))) i [] ≡ cond (ltb i a) X1 (cond (ltb (i - a) b) X2 (cond (ltb (i - a - b) c) X3 X4))
four s1 s2 s3 s4 a b c e i X1 X2 X3 X4 l1 l2 l3 h p1 p2 p3 p4 =
    split s1 (s2 ++ (s3 ++ s4)) a i X1 _ l1 p1 (λ u. split s2 (s3 ++ s4) b (i - a) X2 _ l2 p2 (λ v. split s3 s4 c (i - a - b) X3 X4 l3 p3 (λ w. p4 (omega arith))))

ends_at : (f i : ℕ) → get_or (at_empty_stack f) i [] ≡ []
ends_at zero zero = refl
ends_at zero (suc i) = refl
ends_at (suc f) i = refl

pub unranked-at : (m h f i : ℕ) → h + f ≤ m → i < ways h f → get_or (completions m h f) i [] ≡ unrank m h f i
unfolding completions unrank
unranked-at zero zero f i l b = ends_at f i
unranked-at zero (suc h) f i l b = absurd (omega arith)
unranked-at (suc m) zero f i l b = ends_at f i
unranked-at (suc m) (suc h) f i l b =
    four (prefix_each 0 t0) (prefix_each 1 t1) (prefix_each 2 t2) (prefix_range 3 h t3) (ways h f) (ways_f h f) (ways_b h f) (h * ways (pre h) f) i _ _ _ _
    (length-each 0 t0 ∙ completions-ways m h f (omega arith)) (length-each 1 t1 ∙ ways_f-ways m h f l) (length-each 2 t2 ∙ ways_b-ways m h f l) (rw ways-parts at b)
    (λ c. get_or-each 0 i t0 (rw (completions-ways m h f (omega arith)) c) ∙ ap (λ (w : List ℕ). 0 ∷ w) (unranked-at m h f i (omega arith) c))
    (λ c. get_or-each 1 (i - ways h f) t1 (rw (ways_f-ways m h f l) c) ∙ ap (λ (w : List ℕ). 1 ∷ w) (forked f l (i - ways h f) c (λ g. unranked-at m (suc (suc h)) g)))
    (λ c. get_or-each 2 (i - ways h f - ways_f h f) t2 (rw (ways_b-ways m h f l) c) ∙ ap (λ (w : List ℕ). 2 ∷ w) (one_label f l (i - ways h f - ways_f h f) c (λ g. unranked-at m h g)))
    (λ c. fan-at 3 h (ways (pre h) f) (i - ways h f - ways_f h f - ways_b h f) t3 (λ k. unrank m (pre h) f k) (completions-ways m (pre h) f (let z = pre-le h in omega arith)) (λ j d. unranked-at m (pre h) f j (let z = pre-le h in omega arith) d) c)
  where
    t0 : List (List ℕ)
    t0 = completions m h f

    t1 : List (List ℕ)
    t1 = less3 f [] (λ g. completions m (suc (suc h)) g)

    t2 : List (List ℕ)
    t2 = less1 f [] (λ g. completions m h g)

    t3 : List (List ℕ)
    t3 = completions m (pre h) f

    forked : (f : ℕ) → suc h + f ≤ suc m → (j : ℕ) → j < ways_f h f → ((g j : ℕ) → suc (suc h) + g ≤ m → j < ways (suc (suc h)) g → get_or (completions m (suc (suc h)) g) j [] ≡ unrank m (suc (suc h)) g j)
        → get_or (less3 f [] (λ g. completions m (suc (suc h)) g)) j [] ≡ less3 f [] (λ g. unrank m (suc (suc h)) g j)
    forked zero l j c k = refl
    forked (suc zero) l j c k = refl
    forked (suc (suc zero)) l j c k = refl
    forked (suc (suc (suc f))) l j c k = k f j (omega arith) (unfold ways_f in c)

    one_label : (f : ℕ) → suc h + f ≤ suc m → (j : ℕ) → j < ways_b h f → ((g j : ℕ) → h + g ≤ m → j < ways h g → get_or (completions m h g) j [] ≡ unrank m h g j)
        → get_or (less1 f [] (λ g. completions m h g)) j [] ≡ less1 f [] (λ g. unrank m h g j)
    one_label zero l j c k = refl
    one_label (suc f) l j c k = k f j (omega arith) (unfold ways_b in c)

-- ---- the place of a word

inside : (s t : List (List ℕ)) (i : ℕ) (X : List ℕ) → i < length s → get_or s i [] ≡ X → get_or (s ++ t) i [] ≡ X
inside s t i X h e = get_or-append s t [] i h ∙ e

skip : (s t : List (List ℕ)) (a j : ℕ) (X : List ℕ) → length s ≡ a → get_or t j [] ≡ X → get_or (s ++ t) (a + j) [] ≡ X
skip s t a j X l e = rw (← l) (get_or-append-add s t j [] ∙ e)

fan-place : (x j d n i : ℕ) (ws : List (List ℕ)) (X : List ℕ) → length ws ≡ n → d < j → i < n → get_or ws i [] ≡ X → get_or (prefix_range x j ws) (d * n + i) [] ≡ (x + d) ∷ X
fan-place x zero d n i ws X l h b e = absurd (not-suc-le-zero h)
fan-place x (suc j) zero n i ws X l h b e =
    let z : 0 * n + i ≡ i = omega arith in
    rw (z, add-zero) (inside (prefix_each x ws) (prefix_range (suc x) j ws) i (x ∷ X) (rw (length-each, l) b) (get_or-each x i ws (rw l b) ∙ ap (λ (w : List ℕ). x ∷ w) e))
fan-place x (suc j) (suc d) n i ws X l h b e =
    let z : suc d * n + i ≡ n + (d * n + i) = rw suc-mul (omega arith) in
    rw (z, add-suc, ← suc-add) (skip (prefix_each x ws) (prefix_range (suc x) j ws) n (d * n + i) _ (length-each x ws ∙ l) (fan-place (suc x) j d n i ws X l (omega arith) b e))

pub record Placed (h f : ℕ) (w : List ℕ) : Type 0 where
  pub lt : rank h f w < ways h f
  pub is : (m : ℕ) → h + f ≤ m → get_or (completions m h f) (rank h f w) [] ≡ w

placed-W : (h f : ℕ) (w : List ℕ) → Placed h f w → Placed (suc h) f (0 ∷ w)
unfolding rank
placed-W h f w P = record { lt = rw ways-parts (let z = P.lt in omega arith); is = go }
  where
    go : (m : ℕ) → suc h + f ≤ m → get_or (completions m (suc h) f) (rank h f w) [] ≡ 0 ∷ w
    go zero l = absurd (omega arith)
    go (suc m) l = unfold completions in (inside (prefix_each 0 (completions m h f)) _ (rank h f w) (0 ∷ w) (rw (length-each, completions-ways m h f (omega arith)) P.lt) (get_or-each 0 (rank h f w) (completions m h f) (rw (completions-ways m h f (omega arith)) P.lt) ∙ ap (λ (v : List ℕ). 0 ∷ v) (P.is m (omega arith))))

placed-F : (h f : ℕ) (w : List ℕ) → Placed (suc (suc h)) f w → Placed (suc h) (suc (suc (suc f))) (1 ∷ w)
unfolding rank
placed-F h f w P = record { lt = rw ways-parts (unfold ways_f in (let z = P.lt in omega arith)); is = go }
  where
    i : ℕ
    i = rank (suc (suc h)) f w

    go : (m : ℕ) → suc h + suc (suc (suc f)) ≤ m → get_or (completions m (suc h) (suc (suc (suc f)))) (ways h (suc (suc (suc f))) + i) [] ≡ 1 ∷ w
    go zero l = absurd (omega arith)
    go (suc m) l = unfold completions in (skip (prefix_each 0 (completions m h (suc (suc (suc f))))) _ (ways h (suc (suc (suc f)))) i (1 ∷ w) (length-each 0 (completions m h (suc (suc (suc f)))) ∙ completions-ways m h (suc (suc (suc f))) (omega arith))
        (inside (prefix_each 1 (completions m (suc (suc h)) f)) _ i (1 ∷ w) (rw (length-each, completions-ways m (suc (suc h)) f (omega arith)) P.lt)
        (get_or-each 1 i (completions m (suc (suc h)) f) (rw (completions-ways m (suc (suc h)) f (omega arith)) P.lt) ∙ ap (λ (v : List ℕ). 1 ∷ v) (P.is m (omega arith)))))

placed-B : (h f : ℕ) (w : List ℕ) → Placed h f w → Placed (suc h) (suc f) (2 ∷ w)
unfolding rank
placed-B h f w P = record { lt = rw ways-parts (unfold ways_b in (let z = P.lt in omega arith)); is = go }
  where
    i : ℕ
    i = rank h f w

    go : (m : ℕ) → suc h + suc f ≤ m → get_or (completions m (suc h) (suc f)) (ways h (suc f) + (ways_f h (suc f) + i)) [] ≡ 2 ∷ w
    go zero l = absurd (omega arith)
    go (suc m) l = unfold completions in (skip (prefix_each 0 (completions m h (suc f))) _ (ways h (suc f)) (ways_f h (suc f) + i) (2 ∷ w) (length-each 0 (completions m h (suc f)) ∙ completions-ways m h (suc f) (omega arith))
        (skip (prefix_each 1 (less3 (suc f) [] (λ g. completions m (suc (suc h)) g))) _ (ways_f h (suc f)) i (2 ∷ w) (length-each 1 (less3 (suc f) [] (λ g. completions m (suc (suc h)) g)) ∙ ways_f-ways m h (suc f) l)
        (inside (prefix_each 2 (completions m h f)) _ i (2 ∷ w) (rw (length-each, completions-ways m h f (omega arith)) P.lt)
        (get_or-each 2 i (completions m h f) (rw (completions-ways m h f (omega arith)) P.lt) ∙ ap (λ (v : List ℕ). 2 ∷ v) (P.is m (omega arith))))))

below : (d h n i : ℕ) → d < h → i < n → d * n + i < h * n
below d zero n i a b = absurd (not-suc-le-zero a)
below zero (suc h) n i a b = rw suc-mul (omega arith)
below (suc d) (suc h) n i a b = let z = below d h n i (omega arith) b in rw (suc-mul d n, suc-mul h n) (omega arith)

placed-J : (h f d : ℕ) (w : List ℕ) → d < h → Placed (pre h) f w → Placed (suc h) f (suc (suc (suc d)) ∷ w)
unfolding rank completions
placed-J h f d w a P = record { lt = rw ways-parts (let z = below d h (ways (pre h) f) i a P.lt in omega arith); is = go }
  where
    i : ℕ
    i = rank (pre h) f w

    go : (m : ℕ) → suc h + f ≤ m → get_or (completions m (suc h) f) (ways h f + (ways_f h f + (ways_b h f + (d * ways (pre h) f + i)))) [] ≡ suc (suc (suc d)) ∷ w
    go zero l = absurd (omega arith)
    go (suc m) l =
        let z : 3 + d ≡ suc (suc (suc d)) = omega arith in
        let y : pre h + f ≤ m = (let x = pre-le h in omega arith) in
        (skip (prefix_each 0 (completions m h f)) _ (ways h f) _ _ (length-each 0 (completions m h f) ∙ completions-ways m h f (omega arith))
        (skip (prefix_each 1 (less3 f [] (λ g. completions m (suc (suc h)) g))) _ (ways_f h f) _ _ (length-each 1 (less3 f [] (λ g. completions m (suc (suc h)) g)) ∙ ways_f-ways m h f l)
        (skip (prefix_each 2 (less1 f [] (λ g. completions m h g))) _ (ways_b h f) _ _ (length-each 2 (less1 f [] (λ g. completions m h g)) ∙ ways_b-ways m h f l)
        (rw z at (fan-place 3 h d (ways (pre h) f) i (completions m (pre h) f) w (completions-ways m (pre h) f y) a P.lt (P.is m y))))))

pub placed : (w : List ℕ) (h f : ℕ) → Fits h f w → Placed h f w
placed [] zero zero a = record { lt = unfold rank in (rw ways-0-0 (omega arith)); is = λ m l. unfold rank in (rw completions-0) }
placed [] zero (suc f) a = absurd a
placed [] (suc h) f a = absurd a
placed (x ∷ w) zero f a = absurd a
placed (zero ∷ w) (suc h) f a = placed-W h f w (placed w h f a)
placed (suc zero ∷ w) (suc h) zero a = absurd a
placed (suc zero ∷ w) (suc h) (suc zero) a = absurd a
placed (suc zero ∷ w) (suc h) (suc (suc zero)) a = absurd a
placed (suc zero ∷ w) (suc h) (suc (suc (suc f))) a = placed-F h f w (placed w (suc (suc h)) f a)
placed (suc (suc zero) ∷ w) (suc h) zero a = absurd a
placed (suc (suc zero) ∷ w) (suc h) (suc f) a = placed-B h f w (placed w h f a)
placed (suc (suc (suc d)) ∷ w) (suc h) f a = placed-J h f d w a.0 (placed w (pre h) f a.1)
