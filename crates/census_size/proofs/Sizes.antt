-- Laws of the inputs that name a size: which bytes the sizes of one digit and of two have, and how long an input is that names one of these.
use mathlib.Core.Path.{◌≡◌, refl, ap, ◌∙◌}
use mathlib.Core.Logic.{◌≢◌, ◌⊎◌, inl, inr, ⊎_elim}
use mathlib.Core.List.{List, [], ◌∷◌, ◌++◌}
use Prim.Native.Nat.{ℕ, ◌+◌, ◌*◌, ◌/◌, ◌%◌, ◌≤◌, ◌<◌}
use native.Mathlib.Omega.{arith}
use lib.ListN.{length, get_or}
use Rattle.lists.proofs.Tests.{lt?}
use Rattle.words.specs.Letters.{decimal}
use Rattle.words.proofs.Decimal.{decimal-small, decimal-more}
use Rattle.std.specs.Prelude.{Ok, Err}
use Rattle.refusals.specs.declared.Refusal.{Refusal}
use Rattle.listing_ranking.specs.Promises.{CountPromise}
use Rattle.census_size.specs.declared.Request.TheVariants.{Census}
use Rattle.census_size.specs.Size.{Names, NamedSizePromise, RequestPromise}

-- ---- decimals of one digit and of two, with the newline

line-one : (n : ℕ) → n < 10 → decimal n ++ (10 ∷ []) ≡ (48 + n) ∷ 10 ∷ []
line-one n h = rw (decimal-small n h)

line-two : (n : ℕ) → 10 ≤ n → n ≤ 99 → decimal n ++ (10 ∷ []) ≡ (48 + n / 10) ∷ (48 + n % 10) ∷ 10 ∷ []
line-two n l h = rw (decimal-more n (omega arith) l, decimal-small (n / 10) (omega arith))

-- the bytes of an input that names a size of one digit or two
pub names-bytes : (input : List ℕ) (n : ℕ) → n ≤ 99 → Names input n
    → ((1 ≤ n) × (n < 10) × (input ≡ (48 + n) ∷ 10 ∷ [])) ⊎ ((10 ≤ n) × (input ≡ (48 + n / 10) ∷ (48 + n % 10) ∷ 10 ∷ []))
names-bytes input n h (l, e) = go (lt? n 10)
  where
    go : (n < 10) ⊎ (10 ≤ n) → ((1 ≤ n) × (n < 10) × (input ≡ (48 + n) ∷ 10 ∷ [])) ⊎ ((10 ≤ n) × (input ≡ (48 + n / 10) ∷ (48 + n % 10) ∷ 10 ∷ []))
    go (inl s) = inl (l, s, e ∙ line-one n s)
    go (inr s) = inr (s, e ∙ line-two n s h)

-- ---- an input of two bytes

pub one-named : (a b n : ℕ) → 1 ≤ n → n < 10 → a ≡ 48 + n → b ≡ 10 → NamedSizePromise (a ∷ b ∷ []) n
one-named a b n l h p q = inl ((l, rw (line-one n h, p, q)), omega arith)

-- what a size of one digit asks of the bytes
pub one-bytes : (a b n : ℕ) → n ≤ 99 → Names (a ∷ b ∷ []) n → (1 ≤ n) × (n < 10) × (a ≡ 48 + n) × (b ≡ 10)
one-bytes a b n h m = go (names-bytes (a ∷ b ∷ []) n h m)
  where
    go : ((1 ≤ n) × (n < 10) × (a ∷ b ∷ [] ≡ (48 + n) ∷ 10 ∷ [])) ⊎ ((10 ≤ n) × (a ∷ b ∷ [] ≡ (48 + n / 10) ∷ (48 + n % 10) ∷ 10 ∷ [])) → (1 ≤ n) × (n < 10) × (a ≡ 48 + n) × (b ≡ 10)
    go (inl (l, s, e)) = (l, s, cc, cc)
    go (inr (s, e)) = absurd (omega (arith, ap length e))

pub one_none : (a b : ℕ) → ((n : ℕ) → 1 ≤ n → n < 10 → a ≡ 48 + n → b ≡ 10 → ⊥) → NamedSizePromise (a ∷ b ∷ []) 0
one_none a b f = inr (refl, λ n h m. let (l, s, p, q) = one-bytes a b n h m in f n l s p q)

pub named_small : (input : List ℕ) (r : ℕ) → NamedSizePromise input r → r ≤ 99
named_small input r (inl (m, h)) = h
named_small input r (inr (z, none)) = omega arith

-- ---- an input of three bytes

pub two-named : (a b c t : ℕ) → NamedSizePromise (a ∷ c ∷ []) t → 1 ≤ t → 48 ≤ b → b < 58 → (n : ℕ) → n + 48 ≡ t * 10 + b → NamedSizePromise (a ∷ b ∷ c ∷ []) n
two-named a b c t (inr (z, none)) l p q n e = absurd (omega arith)
two-named a b c t (inl (m, h)) l p q n e = inl ((omega arith, go (one-bytes a c t h m)), omega (arith, one-bytes a c t h m))
  where
    go : (1 ≤ t) × (t < 10) × (a ≡ 48 + t) × (c ≡ 10) → a ∷ b ∷ c ∷ [] ≡ decimal n ++ (10 ∷ [])
    go (_, s, u, v) =
        let x : a ≡ 48 + n / 10 = omega arith in
        let y : b ≡ 48 + n % 10 = omega arith in
        rw (line-two n (omega arith) (omega arith), x, y, v)

-- what a size of two digits asks of the bytes: without the last digit they name the tens
pub two_bytes : (a b c n : ℕ) → n ≤ 99 → Names (a ∷ b ∷ c ∷ []) n → Names (a ∷ c ∷ []) (n / 10) × (b ≡ 48 + n % 10)
two_bytes a b c n h m = go (names-bytes (a ∷ b ∷ c ∷ []) n h m)
  where
    go : ((1 ≤ n) × (n < 10) × (a ∷ b ∷ c ∷ [] ≡ (48 + n) ∷ 10 ∷ [])) ⊎ ((10 ≤ n) × (a ∷ b ∷ c ∷ [] ≡ (48 + n / 10) ∷ (48 + n % 10) ∷ 10 ∷ [])) → Names (a ∷ c ∷ []) (n / 10) × (b ≡ 48 + n % 10)
    go (inl (l, s, e)) = absurd (omega (arith, ap length e))
    go (inr (s, e)) =
        let x : a ≡ 48 + n / 10 = cc in
        let z : c ≡ 10 = cc in
        ((omega arith, rw (line-one (n / 10) (omega arith), x, z)), cc)

pub two_none : (a b c : ℕ) → ((n : ℕ) → n ≤ 99 → Names (a ∷ c ∷ []) (n / 10) → b ≡ 48 + n % 10 → ⊥) → NamedSizePromise (a ∷ b ∷ c ∷ []) 0
two_none a b c f = inr (refl, λ n h m. let (s, p) = two_bytes a b c n h m in f n h s p)

-- the tens are none: so is the whole
pub two-without : (a b c t : ℕ) → NamedSizePromise (a ∷ c ∷ []) t → t ≡ 0 → NamedSizePromise (a ∷ b ∷ c ∷ []) 0
two-without a b c t (inl ((l, e), h)) z = absurd (omega arith)
two-without a b c t (inr (z, none)) e = two_none a b c (λ n h m p. none (n / 10) (omega arith) m)

-- ---- an input of any length

pub two-long : (l : List ℕ) (r : ℕ) → length l ≡ 2 → NamedSizePromise (get_or l 0 0 ∷ get_or l 1 0 ∷ []) r → NamedSizePromise l r
two-long (a ∷ b ∷ []) r e h = h
two-long [] r e h = absurd (omega arith)
two-long (a ∷ []) r e h = absurd (omega arith)
two-long (a ∷ b ∷ c ∷ l) r e h = absurd (omega arith)

pub three-long : (l : List ℕ) (r : ℕ) → length l ≡ 3 → NamedSizePromise (get_or l 0 0 ∷ get_or l 1 0 ∷ get_or l 2 0 ∷ []) r → NamedSizePromise l r
three-long (a ∷ b ∷ c ∷ []) r e h = h
three-long [] r e h = absurd (omega arith)
three-long (a ∷ []) r e h = absurd (omega arith)
three-long (a ∷ b ∷ []) r e h = absurd (omega arith)
three-long (a ∷ b ∷ c ∷ d ∷ l) r e h = absurd (omega arith)

pub names-long : (input : List ℕ) (n : ℕ) → n ≤ 99 → Names input n → (length input ≡ 2) ⊎ (length input ≡ 3)
names-long input n h m = ⊎_elim (λ w. inl (ap length w.2)) (λ w. inr (ap length w.1)) (names-bytes input n h m)

pub none_named : (input : List ℕ) → ¬ (length input ≡ 2) → ¬ (length input ≡ 3) → NamedSizePromise input 0
none_named input p q = inr (refl, λ n h m. ⊎_elim p q (names-long input n h m))

-- an input names one size at most
pub names-once : (input : List ℕ) (m n : ℕ) → m ≤ 99 → n ≤ 99 → Names input m → Names input n → m ≡ n
names-once input m n h k p q = go (names-bytes input m h p) (names-bytes input n k q)
  where
    Bytes : ℕ → Type 0
    Bytes x = ((1 ≤ x) × (x < 10) × (input ≡ (48 + x) ∷ 10 ∷ [])) ⊎ ((10 ≤ x) × (input ≡ (48 + x / 10) ∷ (48 + x % 10) ∷ 10 ∷ []))

    go : Bytes m → Bytes n → m ≡ n
    go (inl (_, _, d)) (inl (_, _, e)) = let x : 48 + m ≡ 48 + n = cc in omega arith
    go (inl (_, _, d)) (inr (_, e)) = absurd (omega (arith, ap length d, ap length e))
    go (inr (_, d)) (inl (_, _, e)) = absurd (omega (arith, ap length d, ap length e))
    go (inr (_, d)) (inr (_, e)) = let x : 48 + m / 10 ≡ 48 + n / 10 = cc in let y : 48 + m % 10 ≡ 48 + n % 10 = cc in omega arith

-- ---- what is asked for

-- an empty input names no size, and no other is empty
pub nothing-asked : (input : List ℕ) → length input ≡ 0 → input ≡ []
nothing-asked [] e = refl
nothing-asked (x ∷ l) e = absurd (omega arith)

pub census-asked : (input : List ℕ) (n c : ℕ) → NamedSizePromise input n → CountPromise n (Ok c) → RequestPromise input (Ok (Census n))
census-asked input n c (inl (m, h)) (s, e) = (m, s)
census-asked input n c (inr (z, none)) (s, e) = absurd (omega arith)

pub refusal-asked : (input : List ℕ) (n : ℕ) (r : Refusal) → length input ≢ 0 → NamedSizePromise input n → CountPromise n (Err r) → RequestPromise input (Err r)
refusal-asked input n r d (inl (m, h)) (e, out) = (e, λ q. d (ap length q), λ x s p. out (rw (names-once input x n (omega arith) h p m) at s))
refusal-asked input n r d (inr (z, none)) (e, out) = (e, λ q. d (ap length q), λ x s p. none x (omega arith) p)
