-- `completions` holds exactly the ways to go on, in dictionary order, each once, and `ways` counts them.
use mathlib.Core.Path.{◌≡◌, refl, sym, ap, ◌∙◌}
use Prim.Native.Nat.{ℕ, zero, suc, ◌+◌, ◌*◌, ◌≤◌, ◌<◌}
use native.Mathlib.Nat.{add-zero, add-suc, suc-add, not-suc-le-zero, suc-mul}
use native.Mathlib.Omega.{arith}
use mathlib.Core.List.Memᴰ
use mathlib.Core.List.{List, [], ◌∷◌, ◌++◌, Memᴰ}
use mathlib.Core.Logic.{inl, inr}
use lib.ListN.{length, length-append}
use Rattle.lists.specs.Lists.{All}
use Rattle.lists.proofs.Lists.{all_append, all_map, all-mem}
use Rattle.words.specs.Order.{Before}
use Rattle.words.specs.Shape.{pre, less1, less3, Fits}
use Rattle.words.proofs.Order.{before-irrefl}
use Rattle.listing.specs.Listing.{prefix_each, prefix_range, at_empty_stack, completions, ways_in, ways, Sorted}

-- ---- every listed word fits
pub all-each : (P : List ℕ → Type 0) (x : ℕ) (ws : List (List ℕ)) → All (λ w. P (x ∷ w)) ws → All P (prefix_each x ws)
all-each P x [] a = tt
all-each P x (w ∷ ws) a = (a.0, all-each P x ws a.1)

all-fan : (P : List ℕ → Type 0) (x j : ℕ) (ws : List (List ℕ)) → ((y : ℕ) → x ≤ y → y < x + j → All (λ w. P (y ∷ w)) ws) → All P (prefix_range x j ws)
all-fan P x zero ws k = tt
all-fan P x (suc j) ws k = all_append P (prefix_each x ws) (prefix_range (suc x) j ws) (all-each P x ws (k x (omega arith) (omega arith))) (all-fan P (suc x) j ws (λ y l u. k y (omega arith) (omega arith)))

ends-fit : (f : ℕ) → All (Fits zero f) (at_empty_stack f)
ends-fit zero = (tt, tt)
ends-fit (suc f) = tt

pub completions-fit : (m h f : ℕ) → All (Fits h f) (completions m h f)
unfolding completions
completions-fit zero zero f = ends-fit f
completions-fit zero (suc h) f = tt
completions-fit (suc m) zero f = ends-fit f
completions-fit (suc m) (suc h) f =
    all_append P (prefix_each 0 (completions m h f)) _ (all-each P 0 (completions m h f) (completions-fit m h f))
    (all_append P (prefix_each 1 (less3 f [] (λ g. completions m (suc (suc h)) g))) _ (all-each P 1 (less3 f [] (λ g. completions m (suc (suc h)) g)) (forked f (λ g. completions-fit m (suc (suc h)) g)))
    (all_append P (prefix_each 2 (less1 f [] (λ g. completions m h g))) _ (all-each P 2 (less1 f [] (λ g. completions m h g)) (one_label f (λ g. completions-fit m h g)))
    (all-fan P 3 h (completions m (pre h) f) (jumped (completions-fit m (pre h) f)))))
  where
    P : List ℕ → Type 0
    P = Fits (suc h) f

    forked : (g : ℕ) → ((e : ℕ) → All (Fits (suc (suc h)) e) (completions m (suc (suc h)) e)) → All (λ w. Fits (suc h) g (1 ∷ w)) (less3 g [] (λ e. completions m (suc (suc h)) e))
    forked zero k = tt
    forked (suc zero) k = tt
    forked (suc (suc zero)) k = tt
    forked (suc (suc (suc g))) k = k g

    one_label : (g : ℕ) → ((e : ℕ) → All (Fits h e) (completions m h e)) → All (λ w. Fits (suc h) g (2 ∷ w)) (less1 g [] (λ e. completions m h e))
    one_label zero k = tt
    one_label (suc g) k = k g

    jumped : All (Fits (pre h) f) (completions m (pre h) f) → (y : ℕ) → 3 ≤ y → y < 3 + h → All (λ w. Fits (suc h) f (y ∷ w)) (completions m (pre h) f)
    jumped a zero l u = absurd (omega arith)
    jumped a (suc zero) l u = absurd (omega arith)
    jumped a (suc (suc zero)) l u = absurd (omega arith)
    jumped a (suc (suc (suc d))) l u = all_map (Fits (pre h) f) _ (λ w b. (omega arith, b)) (completions m (pre h) f) a

-- every word that fits is listed, where m is enough
pub mem-each : (x : ℕ) {w : List ℕ} {ws : List (List ℕ)} → Memᴰ w ws → Memᴰ (x ∷ w) (prefix_each x ws)
mem-each x (Memᴰ.head e) = Memᴰ.head (ap (λ (v : List ℕ). x ∷ v) e)
mem-each x (Memᴰ.tail m) = Memᴰ.tail (mem-each x m)

pub mem-fan : (x j d : ℕ) (w : List ℕ) (ws : List (List ℕ)) → d < j → Memᴰ w ws → Memᴰ ((x + d) ∷ w) (prefix_range x j ws)
mem-fan x zero d w ws l m = absurd (omega arith)
mem-fan x (suc j) zero w ws l m = rw add-zero (Memᴰ.append_left (prefix_range (suc x) j ws) (mem-each x m))
mem-fan x (suc j) (suc d) w ws l m = rw (add-suc, ← suc-add) (Memᴰ.append_right (prefix_each x ws) (mem-fan (suc x) j d w ws (omega arith) m))

mem-ends : (f : ℕ) (w : List ℕ) → Fits zero f w → Memᴰ w (at_empty_stack f)
mem-ends zero [] a = Memᴰ.head refl
mem-ends (suc f) [] a = absurd a
mem-ends zero (x ∷ w) a = absurd a
mem-ends (suc f) (x ∷ w) a = absurd a

pub complete : (m h f : ℕ) (w : List ℕ) → h + f ≤ m → Fits h f w → Memᴰ w (completions m h f)
unfolding completions
complete zero zero f w l a = mem-ends f w a
complete zero (suc h) f w l a = absurd (omega arith)
complete (suc m) zero f w l a = mem-ends f w a
complete (suc m) (suc h) f [] l a = absurd a
complete (suc m) (suc h) f (zero ∷ w) l a = Memᴰ.append_left _ (mem-each 0 (complete m h f w (omega arith) a))
complete (suc m) (suc h) f (suc zero ∷ w) l a = Memᴰ.append_right (prefix_each 0 (completions m h f)) (Memᴰ.append_left _ (mem-each 1 (go f l a (λ g. complete m (suc (suc h)) g w))))
  where
    go : (f : ℕ) → suc h + f ≤ suc m → Fits (suc h) f (1 ∷ w) → ((g : ℕ) → suc (suc h) + g ≤ m → Fits (suc (suc h)) g w → Memᴰ w (completions m (suc (suc h)) g))
        → Memᴰ w (less3 f [] (λ g. completions m (suc (suc h)) g))
    go zero l a k = absurd a
    go (suc zero) l a k = absurd a
    go (suc (suc zero)) l a k = absurd a
    go (suc (suc (suc g))) l a k = k g (omega arith) a
complete (suc m) (suc h) f (suc (suc zero) ∷ w) l a =
    Memᴰ.append_right (prefix_each 0 (completions m h f)) (Memᴰ.append_right (prefix_each 1 (less3 f [] (λ g. completions m (suc (suc h)) g)))
    (Memᴰ.append_left _ (mem-each 2 (go f l a (λ g. complete m h g w)))))
  where
    go : (f : ℕ) → suc h + f ≤ suc m → Fits (suc h) f (2 ∷ w) → ((g : ℕ) → h + g ≤ m → Fits h g w → Memᴰ w (completions m h g))
        → Memᴰ w (less1 f [] (λ g. completions m h g))
    go zero l a k = absurd a
    go (suc g) l a k = k g (omega arith) a
complete (suc m) (suc h) f (suc (suc (suc d)) ∷ w) l a =
    Memᴰ.append_right (prefix_each 0 (completions m h f)) (Memᴰ.append_right (prefix_each 1 (less3 f [] (λ g. completions m (suc (suc h)) g)))
    (Memᴰ.append_right (prefix_each 2 (less1 f [] (λ g. completions m h g))) (go h l a (complete m (pre h) f w))))
  where
    go : (h : ℕ) → suc h + f ≤ suc m → Fits (suc h) f (suc (suc (suc d)) ∷ w) → (pre h + f ≤ m → Fits (pre h) f w → Memᴰ w (completions m (pre h) f))
        → Memᴰ (suc (suc (suc d)) ∷ w) (prefix_range 3 h (completions m (pre h) f))
    go zero l a k = absurd (not-suc-le-zero a.0)
    go (suc h) l a k = rw three at (mem-fan 3 (suc h) d w (completions m h f) a.0 (k (omega arith) a.1))
      where
        three : 3 + d ≡ suc (suc (suc d))
        three = omega arith

-- in dictionary order
abbrev pub From : ℕ → List ℕ → Type 0
From x [] = ⊥
From x (y ∷ w) = x ≤ y

pub from_each : (x y : ℕ) (ws : List (List ℕ)) → x ≤ y → All (From x) (prefix_each y ws)
from_each x y [] l = tt
from_each x y (w ∷ ws) l = (l, from_each x y ws l)

from-fan : (x y j : ℕ) (ws : List (List ℕ)) → x ≤ y → All (From x) (prefix_range y j ws)
from-fan x y zero ws l = tt
from-fan x y (suc j) ws l = all_append (From x) (prefix_each y ws) _ (from_each x y ws l) (from-fan x (suc y) j ws (omega arith))

before-each : (x : ℕ) (w : List ℕ) (ws : List (List ℕ)) → All (Before w) ws → All (Before (x ∷ w)) (prefix_each x ws)
before-each x w [] a = tt
before-each x w (v ∷ ws) a = (inr (refl, a.0), before-each x w ws a.1)

before-from : (x : ℕ) (w : List ℕ) (ws : List (List ℕ)) → All (From (suc x)) ws → All (Before (x ∷ w)) ws
before-from x w [] a = tt
before-from x w ([] ∷ ws) a = absurd a.0
before-from x w ((y ∷ v) ∷ ws) a = (inl a.0, before-from x w ws a.1)

-- words that begin with x, and then words that begin with more than x
pub sorted-each : (x : ℕ) (ws t : List (List ℕ)) → Sorted ws → Sorted t → All (From (suc x)) t → Sorted (prefix_each x ws ++ t)
sorted-each x [] t s r a = r
sorted-each x (w ∷ ws) t s r a = (all_append (Before (x ∷ w)) (prefix_each x ws) t (before-each x w ws s.0) (before-from x w t a), sorted-each x ws t s.1 r a)

sorted-fan : (x j : ℕ) (ws : List (List ℕ)) → Sorted ws → Sorted (prefix_range x j ws)
sorted-fan x zero ws s = tt
sorted-fan x (suc j) ws s = sorted-each x ws (prefix_range (suc x) j ws) s (sorted-fan (suc x) j ws s) (from-fan (suc x) (suc x) j ws (omega arith))

sorted-ends : (f : ℕ) → Sorted (at_empty_stack f)
sorted-ends zero = (tt, tt)
sorted-ends (suc f) = tt

pub sorted-less1 : (f : ℕ) (k : ℕ → List (List ℕ)) → ((g : ℕ) → Sorted (k g)) → Sorted (less1 f [] k)
sorted-less1 zero k s = tt
sorted-less1 (suc f) k s = s f

pub sorted-less3 : (f : ℕ) (k : ℕ → List (List ℕ)) → ((g : ℕ) → Sorted (k g)) → Sorted (less3 f [] k)
sorted-less3 zero k s = tt
sorted-less3 (suc zero) k s = tt
sorted-less3 (suc (suc zero)) k s = tt
sorted-less3 (suc (suc (suc f))) k s = s f

pub sorted : (m h f : ℕ) → Sorted (completions m h f)
unfolding completions
sorted zero zero f = sorted-ends f
sorted zero (suc h) f = tt
sorted (suc m) zero f = sorted-ends f
sorted (suc m) (suc h) f =
    sorted-each 0 (completions m h f) _ (sorted m h f)
    (sorted-each 1 t1 _ (sorted-less3 f _ (λ g. sorted m (suc (suc h)) g))
    (sorted-each 2 t2 _ (sorted-less1 f _ (λ g. sorted m h g))
    (sorted-fan 3 h _ (sorted m (pre h) f)) (from-fan 3 3 h _ (omega arith)))
    (all_append (From 2) (prefix_each 2 t2) _ (from_each 2 2 t2 (omega arith)) (from-fan 2 3 h _ (omega arith))))
    (all_append (From 1) (prefix_each 1 t1) _ (from_each 1 1 t1 (omega arith)) (all_append (From 1) (prefix_each 2 t2) _ (from_each 1 2 t2 (omega arith)) (from-fan 1 3 h _ (omega arith))))
  where
    t1 : List (List ℕ)
    t1 = less3 f [] (λ g. completions m (suc (suc h)) g)

    t2 : List (List ℕ)
    t2 = less1 f [] (λ g. completions m h g)

-- how many
pub length-each : (x : ℕ) (ws : List (List ℕ)) → length (prefix_each x ws) ≡ length ws
length-each x [] = refl
length-each x (w ∷ ws) = ap suc (length-each x ws)

pub length-fan : (x j : ℕ) (ws : List (List ℕ)) → length (prefix_range x j ws) ≡ j * length ws
length-fan x zero ws = omega arith
length-fan x (suc j) ws = simp (length-append, length-each, length-fan (suc x) j ws, suc-mul) (omega arith)

pub length-less1 : (f : ℕ) (k : ℕ → List (List ℕ)) (n : ℕ → ℕ) → ((g : ℕ) → length (k g) ≡ n g) → length (less1 f [] k) ≡ less1 f 0 n
length-less1 zero k n s = refl
length-less1 (suc f) k n s = s f

pub length-less3 : (f : ℕ) (k : ℕ → List (List ℕ)) (n : ℕ → ℕ) → ((g : ℕ) → length (k g) ≡ n g) → length (less3 f [] k) ≡ less3 f 0 n
length-less3 zero k n s = refl
length-less3 (suc zero) k n s = refl
length-less3 (suc (suc zero)) k n s = refl
length-less3 (suc (suc (suc f))) k n s = s f

pub length-completions : (m h f : ℕ) → length (completions m h f) ≡ ways_in m h f
unfolding completions ways_in
length-completions zero zero f = refl
length-completions zero (suc h) f = refl
length-completions (suc m) zero f = refl
length-completions (suc m) (suc h) f = simp (length-append, length-each, length-fan, length-completions m h f, length-completions m (pre h) f, length-less3 f (λ g. completions m (suc (suc h)) g) (λ g. ways_in m (suc (suc h)) g) (λ g. length-completions m (suc (suc h)) g), length-less1 f (λ g. completions m h g) (λ g. ways_in m h g) (λ g. length-completions m h g))

-- no word stands twice
pub once : (w : List ℕ) (ws : List (List ℕ)) → Sorted (w ∷ ws) → ¬ Memᴰ w ws
once w ws s m = before-irrefl w (all-mem (Before w) ws s.0 m)

-- ---- any bound from h + f on gives the same list

-- ways to go on by their first event, the same where those after each event are
pub join : (h : ℕ) (a a' b b' c c' d d' : List (List ℕ)) → a ≡ a' → b ≡ b' → c ≡ c' → d ≡ d' → prefix_each 0 a ++ (prefix_each 1 b ++ (prefix_each 2 c ++ prefix_range 3 h d)) ≡ prefix_each 0 a' ++ (prefix_each 1 b' ++ (prefix_each 2 c' ++ prefix_range 3 h d'))
join h a a' b b' c c' d d' p q r s = cc

pub less1-same {ℓ} : {A : Type ℓ} (f : ℕ) (z : A) (k k' : ℕ → A) → ((g : ℕ) → f ≡ suc g → k g ≡ k' g) → less1 f z k ≡ less1 f z k'
less1-same zero z k k' e = refl
less1-same (suc f) z k k' e = e f refl

pub less3-same {ℓ} : {A : Type ℓ} (f : ℕ) (z : A) (k k' : ℕ → A) → ((g : ℕ) → f ≡ suc (suc (suc g)) → k g ≡ k' g) → less3 f z k ≡ less3 f z k'
less3-same zero z k k' e = refl
less3-same (suc zero) z k k' e = refl
less3-same (suc (suc zero)) z k k' e = refl
less3-same (suc (suc (suc f))) z k k' e = e f refl

pub pre-le : (h : ℕ) → pre h ≤ h
pre-le zero = omega arith
pre-le (suc h) = omega arith

-- an emptied stack
pub completions-0 : (m f : ℕ) → completions m 0 f ≡ at_empty_stack f
unfolding completions
completions-0 zero f = refl
completions-0 (suc m) f = refl

pub completions-same : (m k h f : ℕ) → h + f ≤ m → h + f ≤ k → completions m h f ≡ completions k h f
unfolding completions
completions-same zero k zero f a b = sym (completions-0 k f)
completions-same zero k (suc h) f a b = absurd (omega arith)
completions-same (suc m) k zero f a b = sym (completions-0 k f)
completions-same (suc m) zero (suc h) f a b = absurd (omega arith)
completions-same (suc m) (suc k) (suc h) f a b =
    join h _ _ _ _ _ _ _ _ (completions-same m k h f (omega arith) (omega arith)) (less3-same f [] _ _ (λ g q. completions-same m k (suc (suc h)) g (omega arith) (omega arith)))
    (less1-same f [] _ _ (λ g q. completions-same m k h g (omega arith) (omega arith))) (let i = pre-le h in completions-same m k (pre h) f (omega arith) (omega arith))

pub ways-by : (m h f : ℕ) → h + f ≤ m → ways_in m h f ≡ ways h f
unfolding ways
ways-by m h f l = sym (length-completions m h f) ∙ ap length (completions-same m (h + f) h f l (omega arith)) ∙ length-completions (h + f) h f

-- how many they are
pub completions-ways : (m h f : ℕ) → h + f ≤ m → length (completions m h f) ≡ ways h f
completions-ways m h f l = length-completions m h f ∙ ways-by m h f l

ways-in-0 : (m f : ℕ) → ways_in m 0 f ≡ length (at_empty_stack f)
unfolding ways_in
ways-in-0 zero f = refl
ways-in-0 (suc m) f = refl

-- `join` for their numbers
pub sum : (h a a' b b' c c' d d' : ℕ) → a ≡ a' → b ≡ b' → c ≡ c' → d ≡ d' → a + (b + (c + h * d)) ≡ a' + (b' + (c' + h * d'))
sum h a a' b b' c c' d d' p q r s = cc

-- the recurrence
pub ways-0-0 : ways 0 0 ≡ 1
unfolding ways ways_in
ways-0-0 = refl

pub ways-0 : (f : ℕ) → ways 0 (suc f) ≡ 0
unfolding ways
ways-0 f = ways-in-0 _ (suc f)

pub ways-suc : (h f : ℕ) → ways (suc h) f ≡ ways h f + (less3 f 0 (λ g. ways (suc (suc h)) g) + (less1 f 0 (λ g. ways h g) + h * ways (pre h) f))
unfolding ways_in
ways-suc h f =
    sym (ways-by (suc m) (suc h) f (omega arith))
    ∙ sum h _ _ _ _ _ _ _ _ (ways-by m h f (omega arith)) (less3-same f 0 _ _ (λ g q. ways-by m (suc (suc h)) g (omega arith))) (less1-same f 0 _ _ (λ g q. ways-by m h g (omega arith)))
    (let i = pre-le h in ways-by m (pre h) f (omega arith))
  where
    m : ℕ
    m = suc (h + f)
