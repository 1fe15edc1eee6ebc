-- Tests on numbers as equations with `true` and `false`, and the same decided.
use mathlib.Core.Path.{◌≡◌, refl, sym}
use mathlib.Core.Logic.{◌≢◌, ◌⊎◌, inl, inr}
use mathlib.Core.Bool.{Bool, true, false, true≢false, cond}
use Prim.Native.Nat.{ℕ, ◌≤◌, ◌<◌}
use native.Mathlib.Omega.{arith}
use lib.Dec.{T, eqb, leb, ltb, eqb→eq, eqb_refl, leb→le, le→leb, ltb→lt, lt→ltb, nltb→le}

pub T→true : (b : Bool) → T b → b ≡ true
T→true true t = refl
T→true false t = absurd t

pub true→T : (b : Bool) → b ≡ true → T b
true→T b e = rw e tt

pub eqb_same : (x : ℕ) → eqb x x ≡ true
eqb_same x = T→true (eqb x x) (eqb_refl x)

pub eqb-true : (x y : ℕ) → eqb x y ≡ true → x ≡ y
eqb-true x y e = eqb→eq x y (true→T (eqb x y) e)

-- a test that does not hold fails
pub not-true : (b : Bool) → ¬ (b ≡ true) → b ≡ false
not-true true n = absurd (n refl)
not-true false n = refl

pub eqb-ne : (x y : ℕ) → x ≢ y → eqb x y ≡ false
eqb-ne x y n = not-true (eqb x y) (λ e. n (eqb-true x y e))

pub eqb-false : (x y : ℕ) → eqb x y ≡ false → x ≢ y
eqb-false x y e p = true≢false (cc (eqb_same y))

-- x ≡ y or not
pub same? : (x y : ℕ) → (x ≡ y) ⊎ (x ≢ y)
same? x y = go (eqb x y) refl
  where
    go : (b : Bool) → eqb x y ≡ b → (x ≡ y) ⊎ (x ≢ y)
    go true e = inl (eqb-true x y e)
    go false e = inr (eqb-false x y e)

-- an equality test keeps its answer under a map that is one-to-one here
pub eqb-by : (x y x' y' : ℕ) → (x ≡ y → x' ≡ y') → (x' ≡ y' → x ≡ y) → eqb x y ≡ eqb x' y'
eqb-by x y x' y' to from = go (same? x y)
  where
    go : (x ≡ y) ⊎ (x ≢ y) → eqb x y ≡ eqb x' y'
    go (inl e) = rw (e, to e, eqb_same y, eqb_same y')
    go (inr n) = rw (eqb-ne x y n, eqb-ne x' y' (λ e. n (from e)))

pub cond-all {ℓ κ} : {A : Type ℓ} (P : A → Type κ) (b : Bool) (x y : A) → (b ≡ true → P x) → (b ≡ false → P y) → P (cond b x y)
cond-all P true x y h k = h refl
cond-all P false x y h k = k refl

pub lt-true : (d n : ℕ) → d < n → ltb d n ≡ true
lt-true d n h = T→true (ltb d n) (lt→ltb d n h)

pub lt-false : (d n : ℕ) → n ≤ d → ltb d n ≡ false
lt-false d n h = not-true (ltb d n) (λ e. let i = ltb→lt d n (true→T (ltb d n) e) in omega arith)

pub lt? : (d n : ℕ) → (d < n) ⊎ (n ≤ d)
lt? d n = go (ltb d n) refl
  where
    go : (b : Bool) → ltb d n ≡ b → (d < n) ⊎ (n ≤ d)
    go true e = inl (ltb→lt d n (true→T (ltb d n) e))
    go false e = inr (nltb→le d n (rw e tt))

pub ltb-true : (d n : ℕ) → ltb d n ≡ true → d < n
ltb-true d n e = ltb→lt d n (true→T (ltb d n) e)

pub le-true : (a b : ℕ) → a ≤ b → leb a b ≡ true
le-true a b h = T→true (leb a b) (le→leb a b h)

pub leb-true : (a b : ℕ) → leb a b ≡ true → a ≤ b
leb-true a b e = leb→le a b (true→T (leb a b) e)

pub le-false : (a b : ℕ) → b < a → leb a b ≡ false
le-false a b h = not-true (leb a b) (λ e. let i = leb-true a b e in omega arith)

pub eqb-eq : (x y : ℕ) → x ≡ y → eqb x y ≡ true
eqb-eq x y e = rw e (eqb_same y)

pub both_true : (a b : Bool) → cond a b false ≡ true → (a ≡ true) × (b ≡ true)
both_true true b e = (refl, e)
both_true false b e = absurd (true≢false (sym e))
