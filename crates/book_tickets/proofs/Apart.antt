-- Tickets are apart if their remainders are: numbers whose remainders differ differ. The remainders met so far are marked.
use mathlib.Core.Path.{◌≡◌, refl, sym, ap, ◌∙◌}
use mathlib.Core.Logic.{◌≢◌, ◌⊎◌, inl, inr}
use mathlib.Core.Bool.{true, false, cond}
use mathlib.Core.List.{List}
use Prim.Native.Nat.{ℕ, suc, ◌+◌, ◌-◌, ◌%◌, ◌≤◌, ◌<◌}
use native.Mathlib.Numerals.{add-one}
use native.Mathlib.Omega.{arith}
use lib.Dec.{eqb}
use lib.ListN.{length, get_or, set, replicate, length-set}
use lib.Seq.{get_or-set_same, get_or-set_other}
use Rattle.lists.specs.Lists.{at}
use Rattle.lists.specs.Ranges.{OneTo, every}
use Rattle.lists.proofs.Tests.{eqb-ne, eqb-eq, same?}
use Rattle.lists.proofs.Lists.{at-zeros}
use Rattle.lists.proofs.Ranges.{true-every}
use Rattle.book_tickets.specs.Tickets.{stands_once}

pub differ : (m x y : ℕ) → x % m ≢ y % m → x ≢ y
differ m x y n e = n (ap (λ (z : ℕ). z % m) e)

-- the remainders of the first i tickets of l are marked
pub record Marked (l : List ℕ) (i : ℕ) (marks : List ℕ) : Type 0 where
  pub long : length marks ≡ 160
  pub small : (p : ℕ) → get_or marks p 0 ≤ 1
  pub mark : (j : ℕ) → OneTo i j → at l j ≢ 0 → get_or marks (at l j % 128) 0 ≡ 1

pub none-marked : (l : List ℕ) → Marked l 0 (replicate 160 0)
none-marked l = record { long = refl; small = λ p. let e = at-zeros 160 (suc p) in omega arith; mark = λ j e. absurd (omega arith) }

no_ticket : (l : List ℕ) (j : ℕ) → at l j ≡ 0 → stands_once l j ≡ true
unfolding stands_once
no_ticket l j e = rw (eqb-eq (at l j) 0 e)

-- a ticket whose remainder has no mark is another than those before it
once : (l : List ℕ) (i : ℕ) (marks : List ℕ) → Marked l i marks → at l (suc i) ≢ 0 → get_or marks (at l (suc i) % 128) 0 ≡ 0 → stands_once l (suc i) ≡ true
unfolding stands_once
once l i marks M z free =
    let d : suc i - 1 ≡ i = omega arith in
    rw (eqb-ne (at l (suc i)) 0 z, d) (true-every i (λ m. cond (eqb (at l m) (at l (suc i))) false true) (λ m e. rw (eqb-ne _ _ (other m e (same? (at l m) 0)))))
  where
    other : (m : ℕ) → OneTo i m → (at l m ≡ 0) ⊎ (at l m ≢ 0) → at l m ≢ at l (suc i)
    other m e (inl q) p = z (sym p ∙ q)
    other m e (inr q) p = differ 128 (at l m) (at l (suc i)) (λ r. let x = M.mark m e q in let y = ap (λ (n : ℕ). get_or marks n 0) r in omega arith) p

-- a share after the first i, whose mark is at that place
module _ (l : List ℕ) (i : ℕ) (marks : List ℕ) (place : ℕ) (is : place ≡ cond (eqb (at l (suc i)) 0) (128 + i) (at l (suc i) % 128)) (M : Marked l i marks) where
  at-remainder : at l (suc i) ≢ 0 → place ≡ at l (suc i) % 128
  at-remainder z = rw (eqb-ne (at l (suc i)) 0 z) at is

  one_apart : get_or marks place 0 ≡ 0 → stands_once l (suc i) ≡ true
  one_apart e = go (same? (at l (suc i)) 0)
    where
      go : (at l (suc i) ≡ 0) ⊎ (at l (suc i) ≢ 0) → stands_once l (suc i) ≡ true
      go (inl z) = no_ticket l (suc i) z
      go (inr z) = once l i marks M z (rw (at-remainder z) at e)

  pub more-apart : (clashes : ℕ) → (clashes ≡ 0 → every i (stands_once l) ≡ true) → clashes + get_or marks place 0 ≡ 0 → every (i + 1) (stands_once l) ≡ true
  more-apart clashes k e = rw (add-one, one_apart (omega arith)) (k (omega arith))

  pub more-marked : place < 160 → Marked l (i + 1) (set marks place 1)
  more-marked h = record { long = length-set marks _ _ ∙ M.long; small = λ p. small p (same? p place); mark = λ j e z. go j e z (same? (at l j % 128) place) (same? j (suc i)) }
    where
      here : get_or (set marks place 1) place 0 ≡ 1
      here = get_or-set_same marks place 1 0 (rw M.long h)

      small : (p : ℕ) → (p ≡ place) ⊎ (p ≢ place) → get_or (set marks place 1) p 0 ≤ 1
      small p (inl e) = rw (e, here) (omega arith)
      small p (inr n) = rw (get_or-set_other marks place p 1 0 n) (M.small p)

      go : (j : ℕ) → OneTo (i + 1) j → at l j ≢ 0 → (at l j % 128 ≡ place) ⊎ (at l j % 128 ≢ place) → (j ≡ suc i) ⊎ (j ≢ suc i) → get_or (set marks place 1) (at l j % 128) 0 ≡ 1
      go j e z (inl q) s = rw q here
      go j e z (inr q) (inl p) = absurd (q (ap (λ (x : ℕ). at l x % 128) p ∙ sym (at-remainder (rw p at z))))
      go j e z (inr q) (inr p) = get_or-set_other marks place (at l j % 128) 1 0 q ∙ M.mark j (omega arith) z
