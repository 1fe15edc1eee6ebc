-- Laws of decimals: how many digits are enough, and the last digit taken off, which is the step of each loop over the digits.
use mathlib.Core.Path.{◌≡◌, sym, ap, ◌∙◌}
use mathlib.Core.Logic.{◌⊎◌, inl, inr}
use mathlib.Core.List.{List, [], ◌∷◌, ◌++◌}
use Prim.Native.Nat.{ℕ, zero, suc, ◌+◌, ◌-◌, ◌/◌, ◌%◌, ◌^◌, ◌≤◌, ◌<◌}
use native.Mathlib.Nat.{pow-suc}
use native.Mathlib.Omega.{arith}
use lib.ListN.{length, set, length-append, length-set}
use Rattle.lists.proofs.Tests.{lt?, lt-true, lt-false}
use Rattle.lists.specs.Overwriting.{overwrite_from}
use Rattle.words_decimals.specs.Decimals.{digits, decimal}
use Rattle.lists.proofs.Overwriting.{from_one, from_last}

-- ---- digits

digits-small : (k m : ℕ) → m < 10 → digits (suc k) m ≡ (48 + m) ∷ []
unfolding digits
digits-small k m h = rw (lt-true m 10 h)

digits_more : (k m : ℕ) → 10 ≤ m → digits (suc k) m ≡ digits k (m / 10) ++ ((48 + m % 10) ∷ [])
unfolding digits
digits_more k m h = rw (lt-false m 10 h)

-- k + 1 digits are enough for a number below 10 ^ (k + 1): with more allowed it is the same
pub digits-enough : (k j m : ℕ) → m < 10 ^ suc k → suc k ≤ j → digits j m ≡ digits (suc k) m
digits-enough k zero m h l = absurd (omega arith)
digits-enough zero (suc j) m h l = digits-small j m h ∙ sym (digits-small 0 m h)
digits-enough (suc k) (suc j) m h l = go (lt? m 10) (digits-enough k j (m / 10))
  where
    go : (m < 10) ⊎ (10 ≤ m) → (m / 10 < 10 ^ suc k → suc k ≤ j → digits j (m / 10) ≡ digits (suc k) (m / 10)) → digits (suc j) m ≡ digits (suc (suc k)) m
    go (inl s) f = digits-small j m s ∙ sym (digits-small (suc k) m s)
    go (inr s) f =
        let e = f (omega (arith, pow-suc 10 (suc k))) (omega arith) in
        rw (digits_more j m s, digits_more (suc k) m s, e)

digits-length : (k m : ℕ) → length (digits k m) ≤ k
unfolding digits
digits-length zero m = omega arith
digits-length (suc k) m = go (lt? m 10) (digits-length k (m / 10))
  where
    go : (m < 10) ⊎ (10 ≤ m) → length (digits k (m / 10)) ≤ k → length (digits (suc k) m) ≤ suc k
    go (inl s) i = rw (lt-true m 10 s) (omega arith)
    go (inr s) i = rw (lt-false m 10 s) (simp length-append (omega arith))

pub decimal-length : (m : ℕ) → length (decimal m) ≤ 20
unfolding decimal
decimal-length m = digits-length 20 m

-- k + 1 digits are enough for a number below 10 ^ (k + 1)
pub decimal-within : (k m : ℕ) → k < 20 → m < 10 ^ suc k → length (decimal m) ≤ suc k
unfolding decimal
decimal-within k m l h = rw (digits-enough k 20 m h l) (digits-length (suc k) m)

pub decimal-some : (m : ℕ) → 1 ≤ length (decimal m)
unfolding decimal
decimal-some m = go (lt? m 10)
  where
    go : (m < 10) ⊎ (10 ≤ m) → 1 ≤ length (digits 20 m)
    go (inl s) = rw (digits-small 19 m s) (omega arith)
    go (inr s) = rw (digits_more 19 m s) (simp length-append (omega arith))

pub decimal-small : (m : ℕ) → m < 10 → decimal m ≡ (48 + m) ∷ []
unfolding decimal
decimal-small m h = digits-small 19 m h

-- the last digit, and the others before it
pub decimal-more : (m : ℕ) → m < 10 ^ 20 → 10 ≤ m → decimal m ≡ decimal (m / 10) ++ ((48 + m % 10) ∷ [])
unfolding decimal
decimal-more m h s = digits_more 19 m s ∙ ap (λ (t : List ℕ). t ++ ((48 + m % 10) ∷ [])) (sym (digits-enough 18 20 (m / 10) (omega arith) (omega arith)))

pub length_more : (m : ℕ) → m < 10 ^ 20 → 10 ≤ m → length (decimal m) ≡ suc (length (decimal (m / 10)))
length_more m h s = rw (decimal-more m h s) (simp length-append (omega arith))

-- ---- a decimal written from its last digit backwards

-- m is being written at place i of d: e holds the digits from `end` on, and those of x, which stand before them, are left
pub record Left (d : List ℕ) (i m : ℕ) (e : List ℕ) (end x : ℕ) : Type 0 where
  pub small : x ≤ m
  pub place : end ≡ i + length (decimal x)
  pub within : end ≤ length d
  pub long : length e ≡ length d
  pub rest : overwrite_from i (decimal x) e ≡ overwrite_from i (decimal m) d

pub left-more : (d : List ℕ) (i m : ℕ) (e : List ℕ) (end x : ℕ) → m < 10 ^ 20 → Left d i m e end x → 10 ≤ x → Left d i m (set e (end - 1) (48 + x % 10)) (end - 1) (x / 10)
left-more d i m e end x h l s = record {
  small = omega (arith, l.small);
  place = at-end;
  within = omega (arith, l.within);
  long = length-set e (end - 1) (48 + x % 10) ∙ l.long;
  rest = rw at-end (sym (from_last i (decimal (x / 10)) (48 + x % 10) e (omega (arith, one, l.place, l.within, l.long))) ∙ ap (λ (t : List ℕ). overwrite_from i t e) (sym (decimal-more x (omega (arith, l.small)) s)) ∙ l.rest);
}
  where
    one : length (decimal x) ≡ suc (length (decimal (x / 10)))
    one = length_more x (omega (arith, l.small)) s

    at-end : end - 1 ≡ i + length (decimal (x / 10))
    at-end = omega (arith, one, l.place)

pub left-last : (d : List ℕ) (i m : ℕ) (e : List ℕ) (end x : ℕ) → Left d i m e end x → x < 10 → set e i (48 + x) ≡ overwrite_from i (decimal m) d
left-last d i m e end x l s = sym (from_one i (48 + x) e (omega (arith, ap length one, l.place, l.within, l.long))) ∙ ap (λ (t : List ℕ). overwrite_from i t e) (sym one) ∙ l.rest
  where
    one : decimal x ≡ (48 + x) ∷ []
    one = decimal-small x s
