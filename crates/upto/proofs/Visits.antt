-- Branch visits: `visits` counts the non-empty proper beginnings of the first words of the single list, each once. The next word enters those of its
-- beginnings that are longer than what it has in common with the word before it.
use mathlib.Core.Path.{◌≡◌, refl, sym, ap, ◌∙◌, subst}
use mathlib.Core.Logic.{◌≢◌, ◌⊎◌, inl, inr, ⊎_elim, ◌↔◌}
use mathlib.Core.List.Memᴰ
use mathlib.Core.List.{List, [], ◌∷◌, ◌++◌, map, Memᴰ}
use Prim.Native.Nat.{ℕ, zero, suc, ◌+◌, ◌-◌, ◌≤◌, ◌<◌}
use native.Mathlib.Omega.{arith}
use lib.ListN.{length, take, drop, length-append, length-take, length-drop, take-append-drop}
use lib.Seq.{length-take-le, take-length, take-suc, take-take, take_at, get_or-take}
use Rattle.lists.specs.Ranges.{stretch}
use Rattle.lists.proofs.Tests.{same?, lt?}
use Rattle.words.specs.Order.{Before}
use Rattle.words.proofs.Order.{before-trans}
use Rattle.listing.specs.Listing.{Sorted}
use Rattle.upto.specs.Upto.{in_word_order, upto, total, word_upto}
use Rattle.upto.specs.Visits.{Begins, beginnings, beginnings_of, visits}
use Rattle.upto.proofs.Order.{mem-in_order, sorted-in_order, sorted-same, all-by, sorted-append}
use Rattle.upto.proofs.Upto.{place_of, upto-later}

-- ---- beginnings of one word, by their lengths

before-take : (w : List ℕ) (i j : ℕ) → i < j → j ≤ length w → Before (take i w) (take j w)
before-take w i zero l h = absurd (omega arith)
before-take [] i (suc j) l h = absurd (omega arith)
before-take (x ∷ w) zero (suc j) l h = tt
before-take (x ∷ w) (suc i) (suc j) l h = inr (refl, before-take w i j (omega arith) (omega arith))

before-longer : (u w : List ℕ) (i j : ℕ) → i ≤ j → j ≤ length w → Before u (take i w) → Before u (take j w)
before-longer u w i j l h b = go (lt? i j)
  where
    go : (i < j) ⊎ (j ≤ i) → Before u (take j w)
    go (inl a) = before-trans u (take i w) (take j w) b (before-take w i j a h)
    go (inr a) = let e : i ≡ j = omega arith in subst (λ (k : ℕ). Before u (take k w)) e b

take_begins : (w : List ℕ) (j : ℕ) → 1 ≤ j → j < length w → Begins (take j w) w
take_begins w j a b = let e = length-take-le j w (omega arith) in let f = length-drop j w in (omega arith, (drop j w, omega arith, sym (take-append-drop j w)))

begins-take : (u w : List ℕ) → Begins u w → (j : ℕ) × (1 ≤ j) × (j < length w) × (take j w ≡ u)
begins-take u w b = let t = b.1 in let a = b.0 in let c = t.1 in let e = ap length t.2 ∙ length-append u t.0 in
    (length u, a, omega arith, ap (take (length u)) t.2 ∙ take_at u t.0 (length u) refl)

-- a proper beginning comes before the word
begins-before : (u w : List ℕ) → Begins u w → Before u w
begins-before u w b = let c = begins-take u w b in subst (λ (v : List ℕ). Before v w) c.3 (subst (Before (take c.0 w)) (take-length w) (before-take w c.0 (length w) c.2 (omega arith)))

-- the m beginnings of w of the lengths p, p + 1, ..
abbrev cuts : List ℕ → ℕ → ℕ → List (List ℕ)
cuts w p m = map (λ (k : ℕ). take k w) (stretch p m)

from-cuts : (w : List ℕ) (p m : ℕ) (u : List ℕ) → Memᴰ u (cuts w p m) → (j : ℕ) × (p ≤ j) × (j < p + m) × (take j w ≡ u)
from-cuts w p zero u i = absurd (Memᴰ.not-nil i)
from-cuts w p (suc m) u i = ⊎_elim (λ e. (p, omega arith, omega arith, sym e)) (λ j. let r = from-cuts w (suc p) m u j in let a = r.1 in let b = r.2 in (r.0, omega arith, omega arith, r.3)) (Memᴰ.cases_cons i)

to-cuts : (w : List ℕ) (p m j : ℕ) → p ≤ j → j < p + m → Memᴰ (take j w) (cuts w p m)
to-cuts w p zero j a b = absurd (omega arith)
to-cuts w p (suc m) j a b = go (same? j p) (to-cuts w (suc p) m j)
  where
    go : (j ≡ p) ⊎ (j ≢ p) → (suc p ≤ j → j < suc p + m → Memᴰ (take j w) (cuts w (suc p) m)) → Memᴰ (take j w) (cuts w p (suc m))
    go (inl e) k = Memᴰ.head (ap (λ (i : ℕ). take i w) e)
    go (inr e) k = Memᴰ.tail (k (omega arith) (omega arith))

length-cuts : (w : List ℕ) (p m : ℕ) → length (cuts w p m) ≡ m
length-cuts w p zero = refl
length-cuts w p (suc m) = ap suc (length-cuts w (suc p) m)

sorted-cuts : (w : List ℕ) (p m : ℕ) → p + m ≤ suc (length w) → Sorted (cuts w p m)
sorted-cuts w p zero h = tt
sorted-cuts w p (suc m) h = (all-by (Before (take p w)) (cuts w (suc p) m) later, sorted-cuts w (suc p) m (omega arith))
  where
    later : (v : List ℕ) → Memᴰ v (cuts w (suc p) m) → Before (take p w) v
    later v i = let r = from-cuts w (suc p) m v i in let b = r.2 in subst (Before (take p w)) r.3 (before-take w p r.0 r.1 (omega arith))

mem-beginnings : (w u : List ℕ) → Memᴰ u (beginnings w) ↔ Begins u w
mem-beginnings w u = (from, to)
  where
    from : Memᴰ u (beginnings w) → Begins u w
    from i = let r = from-cuts w 1 (length w - 1) u i in let a = r.1 in let b = r.2 in subst (λ (v : List ℕ). Begins v w) r.3 (take_begins w r.0 r.1 (omega arith))

    to : Begins u w → Memᴰ u (beginnings w)
    to b = let r = begins-take u w b in let a = r.1 in let c = r.2 in Memᴰ.cast (sym r.3) (to-cuts w 1 (length w - 1) r.0 r.1 (omega arith))

-- ---- beginnings of several words

mem-beginnings_of : (ws : List (List ℕ)) (u : List ℕ) → Memᴰ u (beginnings_of ws) ↔ ((w : List ℕ) × Memᴰ w ws × Begins u w)
mem-beginnings_of ws u = (from ws, λ r. to ws r.0 r.1 r.2)
  where
    from : (ws : List (List ℕ)) → Memᴰ u (beginnings_of ws) → (w : List ℕ) × Memᴰ w ws × Begins u w
    from [] i = absurd (Memᴰ.not-nil i)
    from (v ∷ ws) i = ⊎_elim (λ j. (v, Memᴰ.head refl, (mem-beginnings v u).0 j)) (λ j. let r = from ws j in (r.0, Memᴰ.tail r.1, r.2)) (Memᴰ.append_cases (beginnings v) i)

    to : (ws : List (List ℕ)) (w : List ℕ) → Memᴰ w ws → Begins u w → Memᴰ u (beginnings_of ws)
    to [] w i b = absurd (Memᴰ.not-nil i)
    to (v ∷ ws) w i b = ⊎_elim (λ e. Memᴰ.append_left (beginnings_of ws) ((mem-beginnings v u).1 (subst (Begins u) e b))) (λ j. Memᴰ.append_right (beginnings v) (to ws w j b)) (Memᴰ.cases_cons i)

pub visits-listed : (n p : ℕ) (u : List ℕ) → Memᴰ u (in_word_order (beginnings_of (take p (upto n)))) ↔ ((w : List ℕ) × Memᴰ w (take p (upto n)) × Begins u w)
visits-listed n p u = (λ i. (mem-beginnings_of ws u).0 ((mem-in_order (beginnings_of ws) u).0 i), λ r. (mem-in_order (beginnings_of ws) u).1 ((mem-beginnings_of ws u).1 r))
  where
    ws : List (List ℕ)
    ws = take p (upto n)

-- any sorted list of these beginnings has their number
pub visits_are : (n p : ℕ) (us : List (List ℕ)) → Sorted us → ((u : List ℕ) → Memᴰ u us ↔ ((w : List ℕ) × Memᴰ w (take p (upto n)) × Begins u w)) → length us ≡ visits n p
unfolding visits
visits_are n p us s k =
    ap length (sorted-same us (in_word_order (beginnings_of (take p (upto n)))) s (sorted-in_order (beginnings_of (take p (upto n))))
    (λ u. (λ i. (visits-listed n p u).1 ((k u).0 i), λ i. (k u).1 ((visits-listed n p u).0 i))))

pub visits-0 : (n : ℕ) → visits n 0 ≡ 0
unfolding visits
visits-0 n = refl

-- ---- the first words of the single list

one_more : (n p : ℕ) → p < total n → take (suc p) (upto n) ≡ take p (upto n) ++ (word_upto n (suc p) ∷ [])
unfolding total word_upto
one_more n p l = take-suc (upto n) p [] l

first-words : (n p : ℕ) (v : List ℕ) → Memᴰ v (take p (upto n)) → (q : ℕ) × (1 ≤ q) × (q ≤ p) × (word_upto n q ≡ v)
unfolding word_upto
first-words n p v i =
    let r = place_of (take p (upto n)) v i in
    let a = r.1 in
    let b = length-take p (upto n) in
    (suc r.0, omega arith, omega arith, sym (get_or-take p (upto n) r.0 [] (omega arith)) ∙ r.2)

-- the p-th word is one of the first p, unless it is empty: then p may be 0
last-of-first : (n p : ℕ) → p ≤ total n → 1 ≤ length (word_upto n p) → Memᴰ (word_upto n p) (take p (upto n))
unfolding word_upto
last-of-first n zero l h = absurd (omega arith)
last-of-first n (suc p) l h = subst (Memᴰ (word_upto n (suc p))) (sym (one_more n p l)) (Memᴰ.append_right (take p (upto n)) (Memᴰ.head refl))

-- what comes after the p-th word comes after all the first p
after_first : (n p : ℕ) (v q : List ℕ) → p ≤ total n → Memᴰ v (take p (upto n)) → Before (word_upto n p) q → Before v q
after_first n p v q l i b = go (first-words n p v i)
  where
    go : (k : ℕ) × (1 ≤ k) × (k ≤ p) × (word_upto n k ≡ v) → Before v q
    go f = subst (λ (x : List ℕ). Before x q) f.3 (by (lt? f.0 p))
      where
        by : (f.0 < p) ⊎ (p ≤ f.0) → Before (word_upto n f.0) q
        by (inl a) = before-trans (word_upto n f.0) (word_upto n p) q (upto-later n f.0 p a l) b
        by (inr a) = let c = f.2 in let e : p ≡ f.0 = omega arith in subst (λ (k : ℕ). Before (word_upto n k) q) e b

-- ---- the next word, whose first k items are those of the word before it

pub visits-next : (n p k : ℕ) → p < total n → (k ≡ 0) ⊎ (k < length (word_upto n p)) → take k (word_upto n p) ≡ take k (word_upto n (suc p)) → k < length (word_upto n (suc p))
    → Before (word_upto n p) (take (suc k) (word_upto n (suc p))) → visits n (suc p) ≡ visits n p + (length (word_upto n (suc p)) - suc k)
visits-next n p k l c e h b =
    sym (visits_are n (suc p) (old ++ new) (sorted-append old new old-sorted (sorted-cuts w' (suc k) m (omega arith)) after) (λ u. (from u, to u)))
    ∙ length-append old new ∙ sum (visits_are n p old old-sorted (visits-listed n p)) (length-cuts w' (suc k) m)
  where
    w : List ℕ
    w = word_upto n p

    w' : List ℕ
    w' = word_upto n (suc p)

    m : ℕ
    m = length w' - suc k

    old : List (List ℕ)
    old = in_word_order (beginnings_of (take p (upto n)))

    -- the beginnings of the next word that no earlier word has
    new : List (List ℕ)
    new = cuts w' (suc k) m

    old-sorted : Sorted old
    old-sorted = sorted-in_order (beginnings_of (take p (upto n)))

    sum : length old ≡ visits n p → length new ≡ m → length old + length new ≡ visits n p + m
    sum a d = cc

    -- a beginning of an earlier word comes before that word, and the new ones come after it
    after : (u q : List ℕ) → Memᴰ u old → Memᴰ q new → Before u q
    after u q i j =
        let r = (visits-listed n p u).0 i in
        let t = from-cuts w' (suc k) m q j in
        let d = t.2 in
        subst (Before u) t.3 (before-longer u w' (suc k) t.0 t.1 (omega arith)
        (before-trans u r.0 (take (suc k) w') (begins-before u r.0 r.2) (after_first n p r.0 (take (suc k) w') (omega arith) r.1 b)))

    from : (u : List ℕ) → Memᴰ u (old ++ new) → (v : List ℕ) × Memᴰ v (take (suc p) (upto n)) × Begins u v
    from u i = rw (one_more n p l) (⊎_elim earlier next (Memᴰ.append_cases old i))
      where
        earlier : Memᴰ u old → (v : List ℕ) × Memᴰ v (take p (upto n) ++ (w' ∷ [])) × Begins u v
        earlier j = let r = (visits-listed n p u).0 j in (r.0, Memᴰ.append_left (w' ∷ []) r.1, r.2)

        next : Memᴰ u new → (v : List ℕ) × Memᴰ v (take p (upto n) ++ (w' ∷ [])) × Begins u v
        next j =
            let t = from-cuts w' (suc k) m u j in
            let a = t.1 in
            let d = t.2 in
            (w', Memᴰ.append_right (take p (upto n)) (Memᴰ.head refl), subst (λ (v : List ℕ). Begins v w') t.3 (take_begins w' t.0 (omega arith) (omega arith)))

    -- a beginning of the next word is new, or no longer than k and so one of the word before it
    of-next : (u : List ℕ) (j : ℕ) → 1 ≤ j → j < length w' → take j w' ≡ u → (j < suc k) ⊎ (suc k ≤ j) → (k ≡ 0) ⊎ (k < length w) → Memᴰ u (old ++ new)
    of-next u j a d q (inr g) c = Memᴰ.append_right old (Memᴰ.cast (sym q) (to-cuts w' (suc k) m j g (omega arith)))
    of-next u j a d q (inl g) (inl z) = absurd (omega arith)
    of-next u j a d q (inl g) (inr z) = Memᴰ.append_left new ((visits-listed n p u).1 (w, last-of-first n p (omega arith) (omega arith), subst (λ (v : List ℕ). Begins v w) same (take_begins w j a (omega arith))))
      where
        same : take j w ≡ u
        same = sym (take-take j k w (omega arith)) ∙ ap (take j) e ∙ take-take j k w' (omega arith) ∙ q

    to : (u : List ℕ) → (v : List ℕ) × Memᴰ v (take (suc p) (upto n)) × Begins u v → Memᴰ u (old ++ new)
    to u r = ⊎_elim (λ i. Memᴰ.append_left new ((visits-listed n p u).1 (r.0, i, r.2))) (λ i. next (begins-take u w' (subst (Begins u) (Memᴰ.eq_of_singleton i) r.2)))
        (Memᴰ.append_cases (take p (upto n)) (subst (Memᴰ r.0) (one_more n p l) r.1))
      where
        next : (j : ℕ) × (1 ≤ j) × (j < length w') × (take j w' ≡ u) → Memᴰ u (old ++ new)
        next t = of-next u t.0 t.1 t.2 t.3 (lt? t.0 (suc k)) c
