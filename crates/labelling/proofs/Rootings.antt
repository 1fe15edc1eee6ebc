-- The rootings of a diagram: a least word exists and is a rooting's, isomorphism without roots is an equal rooting, equivalently an equal
-- least word, and each class without a root has exactly one kept diagram in characteristic labelling.
use mathlib.Core.Path.{◌≡◌, refl, sym, ap, ◌∙◌, subst}
use mathlib.Core.Logic.{◌≢◌, ◌⊎◌, inl, inr}
use mathlib.Core.List.{List}
use Prim.Native.Nat.{ℕ, zero, suc, pred, ◌≤◌}
use native.Mathlib.Omega.{arith}
use lib.ListN.{length}
use Rattle.lists.specs.Ranges.{OneTo}
use Rattle.lists.proofs.Tests.{same?}
use Rattle.diagrams.specs.Check.{Accepts}
use Rattle.diagrams.specs.Isomorphism.{Isomorphic}
use Rattle.diagrams.proofs.Isomorphisms.{root-isomorphic-isomorphic}
use Rattle.words.specs.Order.{Before, lesser}
use Rattle.words.proofs.Order.{compared, before-irrefl, before-trans, Compared, lesser-least, before, equal, after}
use Rattle.labelling.specs.Labelling.{word_of}
use Rattle.labelling.specs.Rootings.{least_of, least_word, Kept}
use Rattle.labelling.proofs.OfLists.{isomorphic-words, words-isomorphic}

pub accepts-rerooted : (s0 s1 : List ℕ) (r : ℕ) → Accepts s0 s1 r → (x : ℕ) → OneTo (length s0) x → Accepts s0 s1 x
accepts-rerooted s0 s1 r A x e = record {
  size = A.size;
  lengths = A.lengths;
  root_in = e;
  blacks = A.blacks;
  whites = A.whites;
  thrice = A.thrice;
  twice = A.twice;
  connected = A.connected;
}

-- ---- the least word

-- w is the word of one of the rootings 1..m, and none of theirs comes before it
pub record LeastOf (s0 s1 : List ℕ) (m : ℕ) (w : List ℕ) : Type 0 where
  pub rooting : ℕ
  pub within : OneTo m rooting
  pub is : w ≡ word_of s0 s1 rooting
  pub none_before : (x : ℕ) → OneTo m x → ¬ Before (word_of s0 s1 x) w

-- of a least word and one more, the lesser
least_more : (s0 s1 : List ℕ) (m : ℕ) (w : List ℕ) → LeastOf s0 s1 m w → LeastOf s0 s1 (suc m) (lesser w (word_of s0 s1 (suc m)))
least_more s0 s1 m w L = go (lesser-least w v).one
  where
    v : List ℕ
    v = word_of s0 s1 (suc m)

    none : (x : ℕ) → OneTo (suc m) x → ¬ Before (word_of s0 s1 x) (lesser w v)
    none x e b = at_new (same? x (suc m))
      where
        at_new : (x ≡ suc m) ⊎ (x ≢ suc m) → ⊥
        at_new (inl q) = (lesser-least w v).second (rw q at b)
        at_new (inr q) = old (lesser-least w v).one
          where
            old : (lesser w v ≡ w) ⊎ (lesser w v ≡ v) → ⊥
            old (inl p) = L.none_before x (omega arith) (rw p at b)
            old (inr p) = at-v (compared w v)
              where
                at-v : Compared w v → ⊥
                at-v (before c) = (lesser-least w v).first (rw p c)
                at-v (equal c) = L.none_before x (omega arith) (rw (p ∙ sym c) at b)
                at-v (after c) = L.none_before x (omega arith) (before-trans (word_of s0 s1 x) v w (rw p at b) c)

    go : (lesser w v ≡ w) ⊎ (lesser w v ≡ v) → LeastOf s0 s1 (suc m) (lesser w v)
    go (inl p) = record { rooting = L.rooting; within = (let i = L.within in omega arith); is = p ∙ L.is; none_before = none }
    go (inr p) = record { rooting = suc m; within = omega arith; is = p; none_before = none }

least-of : (s0 s1 : List ℕ) (m : ℕ) → LeastOf s0 s1 (suc m) (least_of s0 s1 m)
unfolding least_of
least-of s0 s1 zero = record { rooting = 1; within = omega arith; is = refl; none_before = λ x e b. (let z : x ≡ 1 = omega arith in before-irrefl (word_of s0 s1 1) (rw z at b)) }
least-of s0 s1 (suc m) = least_more s0 s1 (suc m) (least_of s0 s1 m) (least-of s0 s1 m)

pub least-word : (s0 s1 : List ℕ) → 1 ≤ length s0 → LeastOf s0 s1 (length s0) (least_word s0 s1)
unfolding least_word
least-word s0 s1 h = let e : suc (pred (length s0)) ≡ length s0 = omega arith in subst (λ (k : ℕ). LeastOf s0 s1 k (least_of s0 s1 (pred (length s0)))) e (least-of s0 s1 (pred (length s0)))

-- two words that are both least
least-same : (s0 s1 : List ℕ) (m : ℕ) (v w : List ℕ) → LeastOf s0 s1 m v → LeastOf s0 s1 m w → v ≡ w
least-same s0 s1 m v w L K = go (compared v w)
  where
    go : Compared v w → v ≡ w
    go (before b) = absurd (K.none_before L.rooting L.within (rw L.is at b))
    go (equal e) = e
    go (after b) = absurd (L.none_before K.rooting K.within (rw K.is at b))

-- ---- kept

module _ (s0 s1 : List ℕ) (root : ℕ) (e : OneTo (length s0) root) where
  some_edge : 1 ≤ length s0
  some_edge = omega arith

  pub kept-least : Kept s0 s1 root → word_of s0 s1 root ≡ least_word s0 s1
  unfolding Kept
  kept-least k = least-same s0 s1 (length s0) (word_of s0 s1 root) (least_word s0 s1) record { rooting = root; within = e; is = refl; none_before = k } (least-word s0 s1 some_edge)

  pub least_kept : word_of s0 s1 root ≡ least_word s0 s1 → Kept s0 s1 root
  unfolding Kept
  least_kept q x i b = (least-word s0 s1 some_edge).none_before x i (rw q at b)

-- ---- isomorphic without roots

module _ (s0 s1 : List ℕ) (r : ℕ) (A : Accepts s0 s1 r) (t0 t1 : List ℕ) (q : ℕ) (B : Accepts t0 t1 q) where
  pub rooting-isomorphic : (x : ℕ) → OneTo (length s0) x → word_of s0 s1 x ≡ word_of t0 t1 q → Isomorphic s0 s1 t0 t1
  rooting-isomorphic x e w = root-isomorphic-isomorphic (words-isomorphic s0 s1 x (accepts-rerooted s0 s1 r A x e) t0 t1 q B w)

  -- an isomorphism carries rooting to rooting, with its word
  pub isomorphic-carries : (i : Isomorphic s0 s1 t0 t1) (x : ℕ) → OneTo (length s0) x → OneTo (length t0) (i.by x) × (word_of s0 s1 x ≡ word_of t0 t1 (i.by x))
  isomorphic-carries i x e =
      let y : OneTo (length t0) (i.by x) = (let z = i.is.into x e in let s = i.sizes in omega arith) in
      (y, isomorphic-words s0 s1 x (accepts-rerooted s0 s1 r A x e) t0 t1 (i.by x) (accepts-rerooted t0 t1 q B (i.by x) y) record { sizes = i.sizes; by = i.by; is = i.is; roots = refl })

  pub isomorphic-rooting : Isomorphic s0 s1 t0 t1 → (x : ℕ) × OneTo (length s0) x × (word_of s0 s1 x ≡ word_of t0 t1 q)
  isomorphic-rooting i =
      let o = i.is.onto q (let z = B.root_in in let s = i.sizes in omega arith) in
      (o.0, o.1, (isomorphic-carries i o.0 o.1).1 ∙ ap (word_of t0 t1) o.2)

  -- the least of one is the least of the other
  least-carried : (i : Isomorphic s0 s1 t0 t1) → LeastOf t0 t1 (length t0) (least_word s0 s1)
  least-carried i = record { rooting = i.by L.rooting; within = c.0; is = L.is ∙ c.1; none_before = none }
    where
      L : LeastOf s0 s1 (length s0) (least_word s0 s1)
      L = least-word s0 s1 A.size.0

      c : OneTo (length t0) (i.by L.rooting) × (word_of s0 s1 L.rooting ≡ word_of t0 t1 (i.by L.rooting))
      c = isomorphic-carries i L.rooting L.within

      none : (y : ℕ) → OneTo (length t0) y → ¬ Before (word_of t0 t1 y) (least_word s0 s1)
      none y e b =
          let o = i.is.onto y (let s = i.sizes in omega arith) in
          L.none_before o.0 o.1 (rw ((isomorphic-carries i o.0 o.1).1 ∙ ap (word_of t0 t1) o.2) b)

  pub isomorphic-least : Isomorphic s0 s1 t0 t1 → least_word s0 s1 ≡ least_word t0 t1
  isomorphic-least i = least-same t0 t1 (length t0) (least_word s0 s1) (least_word t0 t1) (least-carried i) (least-word t0 t1 B.size.0)

  pub least-isomorphic : least_word s0 s1 ≡ least_word t0 t1 → Isomorphic s0 s1 t0 t1
  least-isomorphic w = root-isomorphic-isomorphic
      (words-isomorphic s0 s1 L.rooting (accepts-rerooted s0 s1 r A L.rooting L.within) t0 t1 K.rooting (accepts-rerooted t0 t1 q B K.rooting K.within) (sym L.is ∙ w ∙ K.is))
    where
      L : LeastOf s0 s1 (length s0) (least_word s0 s1)
      L = least-word s0 s1 A.size.0

      K : LeastOf t0 t1 (length t0) (least_word t0 t1)
      K = least-word t0 t1 B.size.0
