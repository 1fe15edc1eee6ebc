-- Laws of runs: a run tells by its size and word where it stands, and a finished run stands nowhere.
use mathlib.Core.Path.{◌≡◌, refl, sym, ap, ◌∙◌}
use mathlib.Core.List.{List, ◌++◌}
use Prim.Native.Nat.{ℕ, zero, suc, ◌≤◌}
use native.Mathlib.Omega.{arith}
use lib.ListN.{length, take}
use lib.Seq.{take_at}
use Rattle.listing.specs.Listing.{count}
use Rattle.listing.specs.Position.{word_at}
use Rattle.listing.proofs.Positions.{at_once}
use Rattle.run_answers.specs.declared.Run.{Run}
use Rattle.run_answers.specs.Promises.{finished, run_after, RunAt, RunFinished}

-- two lists that are equal with what follows them, and equally long
pub front : (u v x y : List ℕ) → length u ≡ length v → u ++ x ≡ v ++ y → u ≡ v
front u v x y l e = sym (take_at u x (length v) l) ∙ ap (take (length v)) e ∙ take_at v y (length v) refl

pub given-once : (n p n' p' : ℕ) → p ≤ count n → p' ≤ count n' → run_after n p ≡ run_after n' p' → (n ≡ n') × (p ≡ p')
given-once n zero n' zero l l' e = (ap (λ (r : Run). r.size) e, refl)
given-once n zero n' (suc p') l l' e = let z : ◌≡◌ {A = ℕ} 0 1 = ap (λ (r : Run). r.stage) e in absurd (omega arith)
given-once n (suc p) n' zero l l' e = let z : ◌≡◌ {A = ℕ} 1 0 = ap (λ (r : Run). r.stage) e in absurd (omega arith)
given-once n (suc p) n' (suc p') l l' e =
    let q : n ≡ n' = ap (λ (r : Run). r.size) e in
    let w = front (word_at n (suc p)) (word_at n' (suc p')) _ _ (ap (λ (r : Run). r.length) e) (ap (λ (r : Run). r.items) e) in
    (q, at_once n (suc p) (suc p') (omega arith, l) (omega arith, rw (← q) at l') (w ∙ ap (λ (m : ℕ). word_at m (suc p')) (sym q)))

pub not-over : (n p n' : ℕ) → run_after n p ≡ finished n' → ⊥
not-over n zero n' e = let z : ◌≡◌ {A = ℕ} 0 2 = ap (λ (r : Run). r.stage) e in omega arith
not-over n (suc p) n' e = let z : ◌≡◌ {A = ℕ} 1 2 = ap (λ (r : Run). r.stage) e in omega arith

-- the same of a run that stands somewhere
pub stands_once : {n p n' p' : ℕ} {run : Run} → RunAt n p run → RunAt n' p' run → (n ≡ n') × (p ≡ p')
stands_once {n} {p} {n'} {p'} S T = given-once n p n' p' S.within T.within (sym S.is ∙ T.is)

pub stands-not-over : {n p n' : ℕ} {run : Run} → RunAt n p run → RunFinished n' run → ⊥
stands-not-over {n} {p} {n'} S O = not-over n p n' (sym S.is ∙ O.is)
