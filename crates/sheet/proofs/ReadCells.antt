-- What read word makes of a word that fits a cell, at most 51 items: a diagram has at most 100 edges (`read-short-size`), and a refusal is one of
-- 21, 26, 22, 23 and 25 (`read-short-refusals`); 24 does not come, because an item adds at most 3 edges to those of the first.
use mathlib.Core.Path.{◌≡◌, ap}
use mathlib.Core.Logic.{◌⊎◌, inl, inr, ⊎_elim}
use mathlib.Core.Bool.{Bool, true, false, cond}
use mathlib.Core.List.{List, [], ◌∷◌}
use Prim.Native.Nat.{ℕ, zero, suc, ◌+◌, ◌*◌, ◌≤◌, ◌<◌}
use native.Mathlib.Omega.{arith}
use lib.Dec.{leb, ltb}
use lib.ListN.{length}
use Rattle.lists.specs.Lists.{Has}
use Rattle.lists.proofs.Tests.{le-true, ltb-true}
use Rattle.lists.proofs.Lists.{length-1, length-3, length-remove_at, all-has}
use Rattle.words.specs.Word.{Pair}
use Rattle.words_reading.specs.Read.{Read, refused, built, items, read_first, read}
use Rattle.words_reading.proofs.Spelling.{not-built, built-passed}

not-refused : (n : ℕ) (D : Pair) → ¬ (built D ≡ refused n)
not-refused n D e = let z : ◌≡◌ {A = ℕ} 0 1 = cc in omega arith

same_number : (j k : ℕ) → refused j ≡ refused k → k ≡ j
same_number j k e = cc

-- a test before a refusal: the refusal is the test's, or comes later
refused-where : (b : Bool) (q : Read) (n k : ℕ) → cond b q (refused n) ≡ refused k → (k ≡ n) ⊎ (q ≡ refused k)
refused-where true q n k e = inr e
refused-where false q n k e = inl (same_number n k e)

-- ---- the size: each pending label asks for one more item, and an item adds at most two edges beyond those that it makes pending

items-short-size : (w st s0 s1 : List ℕ) (D : Pair) → items w st s0 s1 ≡ built D → length D.black + length st ≤ length s0 + 2 * length w
unfolding items
items-short-size [] [] s0 s1 D e =
    let z : ◌≡◌ {A = Pair} record { black = s0; white = s1 } D = cc in
    let y : length s0 ≡ length D.black = ap (λ (p : Pair). length p.black) z in
    omega arith
items-short-size [] (k ∷ r) s0 s1 D e = absurd (not-built 25 D e)
items-short-size (x ∷ w) [] s0 s1 D e = absurd (not-built 26 D e)
items-short-size (zero ∷ w) (k ∷ r) s0 s1 D e = let i = items-short-size w r s0 s1 D e in omega arith
items-short-size (suc zero ∷ w) (k ∷ r) s0 s1 D e =
    let i = rw length-3 at (items-short-size w _ _ _ D (built-passed (leb (suc (suc (suc (length s0)))) 1024) _ 24 D e).1) in
    omega arith
items-short-size (suc (suc zero) ∷ w) (k ∷ r) s0 s1 D e =
    let i = rw length-1 at (items-short-size w _ _ _ D (built-passed (leb (suc (length s0)) 1024) _ 24 D e).1) in
    omega arith
items-short-size (suc (suc (suc d)) ∷ w) (k ∷ r) s0 s1 D e =
    let q = built-passed (ltb d (length r)) _ 23 D e in
    let i = items-short-size w _ _ _ D q.1 in
    let j = length-remove_at d r (ltb-true d (length r) q.0) in
    omega arith

first-short-size : (w : List ℕ) (D : Pair) → read_first w ≡ built D → length w ≤ 51 → length D.black ≤ 100
first-short-size [] D e l = absurd (not-built 21 D e)
first-short-size (zero ∷ w) D e l = let i = items-short-size w _ (1 ∷ []) _ D e in omega arith
first-short-size (suc zero ∷ w) D e l = let i = items-short-size w _ (2 ∷ 3 ∷ 1 ∷ []) _ D e in omega arith
first-short-size (suc (suc x) ∷ w) D e l = absurd (not-built 22 D e)

pub read-short-size : (w : List ℕ) (D : Pair) → read w ≡ built D → length w ≤ 51 → length D.black ≤ 100
unfolding read
read-short-size w D e l = first-short-size w D (built-passed (leb (length w) 1025) (read_first w) 21 D e).1 l

-- ---- the refusals

abbrev pub ShortRefusals : ℕ → Type 0
ShortRefusals k = Has k (21 ∷ 26 ∷ 22 ∷ 23 ∷ 25 ∷ [])

pub short-above : (k : ℕ) → ShortRefusals k → 20 < k
short-above k h = all-has (λ (x : ℕ). 20 < x) (21 ∷ 26 ∷ 22 ∷ 23 ∷ 25 ∷ []) k (omega arith, (omega arith, (omega arith, (omega arith, (omega arith, tt))))) h

items-refusals : (w st s0 s1 : List ℕ) (k : ℕ) → items w st s0 s1 ≡ refused k → length s0 + 3 * length w ≤ 1024 → ShortRefusals k
unfolding items
items-refusals [] [] s0 s1 k e l = absurd (not-refused k _ e)
items-refusals [] (x ∷ r) s0 s1 k e l = inr (inr (inr (inr (inl (same_number 25 k e)))))
items-refusals (x ∷ w) [] s0 s1 k e l = inr (inl (same_number 26 k e))
items-refusals (zero ∷ w) (x ∷ r) s0 s1 k e l = items-refusals w r s0 s1 k e (omega arith)
items-refusals (suc zero ∷ w) (x ∷ r) s0 s1 k e l =
    items-refusals w _ _ _ k (rw (le-true (suc (suc (suc (length s0)))) 1024 (omega arith)) at e) (rw length-3 (omega arith))
items-refusals (suc (suc zero) ∷ w) (x ∷ r) s0 s1 k e l =
    items-refusals w _ _ _ k (rw (le-true (suc (length s0)) 1024 (omega arith)) at e) (rw length-1 (omega arith))
items-refusals (suc (suc (suc d)) ∷ w) (x ∷ r) s0 s1 k e l =
    ⊎_elim (λ q. inr (inr (inr (inl q)))) (λ q. items-refusals w _ _ _ k q (omega arith)) (refused-where (ltb d (length r)) _ 23 k e)

first-refusals : (w : List ℕ) (k : ℕ) → read_first w ≡ refused k → length w ≤ 51 → ShortRefusals k
first-refusals [] k e l = inl (same_number 21 k e)
first-refusals (zero ∷ w) k e l = items-refusals w _ (1 ∷ []) _ k e (omega arith)
first-refusals (suc zero ∷ w) k e l = items-refusals w _ (2 ∷ 3 ∷ 1 ∷ []) _ k e (omega arith)
first-refusals (suc (suc x) ∷ w) k e l = inr (inr (inl (same_number 22 k e)))

pub read-short-refusals : (w : List ℕ) (k : ℕ) → read w ≡ refused k → length w ≤ 51 → ShortRefusals k
unfolding read
read-short-refusals w k e l = first-refusals w k (rw (le-true (length w) 1025 (omega arith)) at e) l
