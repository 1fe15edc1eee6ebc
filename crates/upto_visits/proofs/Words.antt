-- The visits at a word as the code parts it, its first item and the rest, and those of the whole list.
use mathlib.Core.Path.{◌≡◌, refl}
use mathlib.Core.Logic.{◌⊎◌, inl, inr}
use mathlib.Core.List.{List, [], ◌∷◌}
use Prim.Native.Nat.{ℕ, zero, suc, ◌+◌, ◌-◌, ◌^◌, ◌≤◌, ◌<◌}
use native.Mathlib.Omega.{arith}
use lib.ListN.{length, get_or, take, drop}
use Rattle.lists.proofs.Tests.{lt?}
use Rattle.lists.proofs.Lists.{rest-is}
use Rattle.upto_words.specs.Within.{FitsWithin, WordWithin}
use Rattle.upto_weights.specs.Weights.{weight, weight_f, weight_b, passed, passed_word, whole_weight}
use Rattle.upto_table.proofs.Table.{branches-small}
use Rattle.upto_visits.proofs.Passing.{weight_f-few, weight_f-more, weight_b-more, passed-small}

abbrev rest : List ℕ → List ℕ
rest w = take (length w - 1) (drop 1 w)

pub word_some : (n : ℕ) (w : List ℕ) → WordWithin n w → 1 ≤ length w
word_some n [] a = absurd a
word_some n (x ∷ w) a = omega arith

word-U : (n : ℕ) (w : List ℕ) → WordWithin n w → get_or w 0 0 ≡ 0 → (1 ≤ n) × FitsWithin 1 (n - 1) (rest w) × (passed_word 0 1 n w ≡ passed 0 1 1 (n - 1) (rest w))
unfolding passed_word
word-U n [] a e = absurd a
word-U zero (zero ∷ w) a e = absurd a
word-U (suc f) (zero ∷ w) a e = let x : suc f - 1 ≡ f = omega arith in rw (x, rest-is 0 w) (omega arith, a, refl)
word-U n (suc x ∷ w) a e = absurd (omega arith)

word-T : (n : ℕ) (w : List ℕ) → WordWithin n w → ¬ (get_or w 0 0 ≡ 0)
    → (3 ≤ n) × FitsWithin 3 (n - 3) (rest w) × (passed_word 0 1 n w ≡ weight 0 1 1 (n - 1) + passed 0 1 3 (n - 3) (rest w))
unfolding passed_word
word-T n [] a e = absurd a
word-T n (zero ∷ w) a e = absurd (e refl)
word-T zero (suc zero ∷ w) a e = absurd a
word-T (suc zero) (suc zero ∷ w) a e = absurd a
word-T (suc (suc zero)) (suc zero ∷ w) a e = absurd a
word-T (suc (suc (suc f))) (suc zero ∷ w) a e =
    let x : suc (suc (suc f)) - 3 ≡ f = omega arith in
    let y : suc (suc (suc f)) - 1 ≡ suc (suc f) = omega arith in
    rw (x, y, rest-is 1 w) (omega arith, a, refl)
word-T n (suc (suc x) ∷ w) a e = absurd a

module _ (n : ℕ) (w : List ℕ) (a : WordWithin n w) where
  module _ (e : get_or w 0 0 ≡ 0) where
    pub some-U : 1 ≤ n
    some-U = (word-U n w a e).0

    pub fits-U : FitsWithin 1 (n - 1) (rest w)
    fits-U = (word-U n w a e).1

    pub visits-U : passed_word 0 1 n w ≡ passed 0 1 1 (n - 1) (rest w)
    visits-U = (word-U n w a e).2

  module _ (e : ¬ (get_or w 0 0 ≡ 0)) where
    pub some-T : 3 ≤ n
    some-T = (word-T n w a e).0

    pub fits-T : FitsWithin 3 (n - 3) (rest w)
    fits-T = (word-T n w a e).1

    pub sum-T : n ≤ 50 → weight 0 1 1 (n - 1) + passed 0 1 3 (n - 3) (rest w) < 2 ^ 51
    sum-T l =
        let i = some-T in
        let x = passed-small 3 (n - 3) (rest w) (omega arith) fits-T in
        let y = branches-small 1 (n - 1) (omega arith) in
        omega arith

    pub visits-T : passed_word 0 1 n w ≡ weight 0 1 1 (n - 1) + passed 0 1 3 (n - 3) (rest w)
    visits-T = (word-T n w a e).2

-- ---- the whole list

pub whole-few : (n : ℕ) → 1 ≤ n → n < 3 → whole_weight 0 1 n ≡ weight 0 1 1 (n - 1)
unfolding whole_weight weight_f weight_b
whole-few n l k = omega (arith, weight_b-more 1 n l, weight_f-few 1 n k)

pub whole-more : (n : ℕ) → 3 ≤ n → whole_weight 0 1 n ≡ weight 0 1 1 (n - 1) + weight 0 1 3 (n - 3)
unfolding whole_weight weight_f weight_b
whole-more n l = omega (arith, weight_b-more 1 n (omega arith), weight_f-more 1 n l)

-- it has less than 52 bits
pub whole-small : (n : ℕ) → 1 ≤ n → n ≤ 50 → whole_weight 0 1 n < 2 ^ 51
whole-small n l k = go (lt? n 3)
  where
    go : (n < 3) ⊎ (3 ≤ n) → whole_weight 0 1 n < 2 ^ 51
    go (inl f) = let y = branches-small 1 (n - 1) (omega arith) in let e = whole-few n l f in omega arith
    go (inr m) = let y = branches-small 1 (n - 1) (omega arith) in let x = branches-small 3 (n - 3) (omega arith) in let e = whole-more n m in omega arith
