-- Sorted lists of words: `in_word_order` holds exactly what stands in its list, in dictionary order, and a sorted list is known by its members.
use mathlib.Core.Path.{◌≡◌, refl, sym, ◌∙◌, subst}
use mathlib.Core.Logic.{◌⊎◌, inl, inr, ⊎_elim, ◌↔◌}
use mathlib.Core.Bool.{Bool, true, false, true≢false, cond}
use mathlib.Core.List.Memᴰ
use mathlib.Core.List.{List, [], ◌∷◌, ◌++◌, Memᴰ}
use Prim.Native.Nat.{ℕ}
use Rattle.lists.specs.Lists.{All}
use Rattle.lists.proofs.Lists.{all_append, all_map, all-mem}
use Rattle.words.specs.Order.{Before, precedes, same}
use Rattle.words.proofs.Order.{before-irrefl, before-trans, before-antisym, Compared, before, equal, after, compared, precedes-true, precedes-false, same_true, same_self}
use Rattle.listing.specs.Listing.{Sorted}
use Rattle.upto.specs.Upto.{insert, in_word_order}

-- ---- the members of `in_word_order`

from-insert : (w : List ℕ) (ws : List (List ℕ)) (u : List ℕ) → Memᴰ u (insert w ws) → (u ≡ w) ⊎ Memᴰ u ws
from-insert w [] u m = Memᴰ.cases_cons m
from-insert w (v ∷ ws) u m = go (precedes w v) (same w v) m (from-insert w ws u)
  where
    go : (a b : Bool) → Memᴰ u (cond a (w ∷ v ∷ ws) (cond b (v ∷ ws) (v ∷ insert w ws))) → (Memᴰ u (insert w ws) → (u ≡ w) ⊎ Memᴰ u ws) → (u ≡ w) ⊎ Memᴰ u (v ∷ ws)
    go true b m k = Memᴰ.cases_cons m
    go false true m k = inr m
    go false false m k = ⊎_elim (λ e. inr (Memᴰ.head e)) (λ n. ⊎_elim inl (λ i. inr (Memᴰ.tail i)) (k n)) (Memᴰ.cases_cons m)

to-insert : (w : List ℕ) (ws : List (List ℕ)) (u : List ℕ) → (u ≡ w) ⊎ Memᴰ u ws → Memᴰ u (insert w ws)
to-insert w [] u (inl e) = Memᴰ.head e
to-insert w [] u (inr m) = absurd (Memᴰ.not-nil m)
to-insert w (v ∷ ws) u m = go (precedes w v) (same w v) refl m (to-insert w ws u)
  where
    go : (a b : Bool) → same w v ≡ b → (u ≡ w) ⊎ Memᴰ u (v ∷ ws) → ((u ≡ w) ⊎ Memᴰ u ws → Memᴰ u (insert w ws)) → Memᴰ u (cond a (w ∷ v ∷ ws) (cond b (v ∷ ws) (v ∷ insert w ws)))
    go true b s m k = ⊎_elim Memᴰ.head Memᴰ.tail m
    go false true s m k = ⊎_elim (λ e. Memᴰ.head (e ∙ same_true w v s)) (λ n. n) m
    go false false s m k = ⊎_elim (λ e. Memᴰ.tail (k (inl e))) (λ n. ⊎_elim Memᴰ.head (λ i. Memᴰ.tail (k (inr i))) (Memᴰ.cases_cons n)) m

pub mem-in_order : (ws : List (List ℕ)) (w : List ℕ) → Memᴰ w (in_word_order ws) ↔ Memᴰ w ws
mem-in_order ws w = (from ws, to ws)
  where
    from : (ws : List (List ℕ)) → Memᴰ w (in_word_order ws) → Memᴰ w ws
    from [] m = m
    from (v ∷ ws) m = ⊎_elim Memᴰ.head (λ n. Memᴰ.tail (from ws n)) (from-insert v (in_word_order ws) w m)

    to : (ws : List (List ℕ)) → Memᴰ w ws → Memᴰ w (in_word_order ws)
    to [] m = m
    to (v ∷ ws) m = to-insert v (in_word_order ws) w (⊎_elim inl (λ n. inr (to ws n)) (Memᴰ.cases_cons m))

-- ---- its order

all_insert : (P : List ℕ → Type 0) (w : List ℕ) (ws : List (List ℕ)) → P w → All P ws → All P (insert w ws)
all_insert P w [] p a = (p, tt)
all_insert P w (v ∷ ws) p a = go (precedes w v) (same w v) (all_insert P w ws p a.1)
  where
    go : (b c : Bool) → All P (insert w ws) → All P (cond b (w ∷ v ∷ ws) (cond c (v ∷ ws) (v ∷ insert w ws)))
    go true c k = (p, a)
    go false true k = a
    go false false k = (a.0, k)

sorted_insert : (w : List ℕ) (ws : List (List ℕ)) → Sorted ws → Sorted (insert w ws)
sorted_insert w [] s = (tt, tt)
sorted_insert w (v ∷ ws) s = go (precedes w v) refl (same w v) refl (sorted_insert w ws s.1)
  where
    later : precedes w v ≡ false → same w v ≡ false → Compared w v → Before v w
    later p q (before l) = absurd (precedes-false w v p l)
    later p q (equal e) = absurd (true≢false (sym (same_self v) ∙ rw e at q))
    later p q (after l) = l

    go : (b : Bool) → precedes w v ≡ b → (c : Bool) → same w v ≡ c → Sorted (insert w ws) → Sorted (cond b (w ∷ v ∷ ws) (cond c (v ∷ ws) (v ∷ insert w ws)))
    go true p c q k = let l = precedes-true w v p in ((l, all_map (Before v) (Before w) (λ x m. before-trans w v x l m) ws s.0), s)
    go false p true q k = s
    go false p false q k = (all_insert (Before v) w ws (later p q (compared w v)) s.0, k)

pub sorted-in_order : (ws : List (List ℕ)) → Sorted (in_word_order ws)
sorted-in_order [] = tt
sorted-in_order (w ∷ ws) = sorted_insert w (in_word_order ws) (sorted-in_order ws)

-- ---- sorted lists with the same members

pub sorted-same : (us vs : List (List ℕ)) → Sorted us → Sorted vs → ((w : List ℕ) → Memᴰ w us ↔ Memᴰ w vs) → us ≡ vs
sorted-same [] [] s t k = refl
sorted-same [] (v ∷ vs) s t k = absurd (Memᴰ.not-nil ((k v).1 (Memᴰ.head refl)))
sorted-same (u ∷ us) [] s t k = absurd (Memᴰ.not-nil ((k u).0 (Memᴰ.head refl)))
sorted-same (u ∷ us) (v ∷ vs) s t k = cc (first, sorted-same us vs s.1 t.1 (λ w. (rest u v us vs s first (λ m. (k w).0 m), rest v u vs us t (sym first) (λ m. (k w).1 m))))
  where
    -- each list's first word stands in the other list, so it is the other's first or comes after it; both cannot come after
    first : u ≡ v
    first = go (Memᴰ.cases_cons ((k u).0 (Memᴰ.head refl))) (Memᴰ.cases_cons ((k v).1 (Memᴰ.head refl)))
      where
        go : (u ≡ v) ⊎ Memᴰ u vs → (v ≡ u) ⊎ Memᴰ v us → u ≡ v
        go (inl e) r = e
        go (inr m) (inl e) = sym e
        go (inr m) (inr n) = absurd (before-antisym v u (all-mem (Before v) vs t.0 m) (all-mem (Before u) us s.0 n))

    rest : (a b : List ℕ) (xs ys : List (List ℕ)) → Sorted (a ∷ xs) → a ≡ b → {w : List ℕ} → (Memᴰ w (a ∷ xs) → Memᴰ w (b ∷ ys)) → Memᴰ w xs → Memᴰ w ys
    rest a b xs ys r e {w} i m = ⊎_elim (λ q. absurd (before-irrefl a (subst (Before a) (q ∙ sym e) (all-mem (Before a) xs r.0 m)))) (λ n. n) (Memᴰ.cases_cons (i (Memᴰ.tail m)))

-- ---- one sorted list after another

pub all-by : (P : List ℕ → Type 0) (ws : List (List ℕ)) → ((w : List ℕ) → Memᴰ w ws → P w) → All P ws
all-by P [] k = tt
all-by P (w ∷ ws) k = (k w (Memᴰ.head refl), all-by P ws (λ v i. k v (Memᴰ.tail i)))

pub sorted-append : (us vs : List (List ℕ)) → Sorted us → Sorted vs → ((u v : List ℕ) → Memᴰ u us → Memᴰ v vs → Before u v) → Sorted (us ++ vs)
sorted-append [] vs s t k = t
sorted-append (u ∷ us) vs s t k = (all_append (Before u) us vs s.0 (all-by (Before u) vs (λ v j. k u v (Memᴰ.head refl) j)), sorted-append us vs s.1 t (λ x v i j. k x v (Memᴰ.tail i) j))
