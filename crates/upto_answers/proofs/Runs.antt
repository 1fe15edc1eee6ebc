-- Laws of runs through the single list: a run tells by its bound and word where it stands, and a finished run stands nowhere.
use mathlib.Core.Path.{◌≡◌, refl, sym, ap, ◌∙◌}
use Prim.Native.Nat.{ℕ, zero, suc, ◌≤◌}
use native.Mathlib.Omega.{arith}
use Rattle.run_validity.proofs.Runs.{front}
use Rattle.upto.specs.Upto.{total, word_upto}
use Rattle.upto.proofs.Upto.{upto-once}
use Rattle.upto_answers.specs.declared.UptoRun.{UptoRun}
use Rattle.upto_answers.specs.Promises.{finished_upto, upto_after, UptoAt, UptoFinished}

pub upto-given-once : (n p n' p' : ℕ) → p ≤ total n → p' ≤ total n' → upto_after n p ≡ upto_after n' p' → (n ≡ n') × (p ≡ p')
upto-given-once n zero n' zero l l' e = (ap (λ (r : UptoRun). r.bound) e, refl)
upto-given-once n zero n' (suc p') l l' e = let z : ◌≡◌ {A = ℕ} 0 1 = ap (λ (r : UptoRun). r.stage) e in absurd (omega arith)
upto-given-once n (suc p) n' zero l l' e = let z : ◌≡◌ {A = ℕ} 1 0 = ap (λ (r : UptoRun). r.stage) e in absurd (omega arith)
upto-given-once n (suc p) n' (suc p') l l' e =
    let q : n ≡ n' = ap (λ (r : UptoRun). r.bound) e in
    let w = front (word_upto n (suc p)) (word_upto n' (suc p')) _ _ (ap (λ (r : UptoRun). r.length) e) (ap (λ (r : UptoRun). r.items) e) in
    (q, upto-once n (suc p) (suc p') (omega arith, l) (omega arith, rw (← q) at l') (w ∙ ap (λ (m : ℕ). word_upto m (suc p')) (sym q)))

pub upto-not-over : (n p n' : ℕ) → upto_after n p ≡ finished_upto n' → ⊥
upto-not-over n zero n' e = let z : ◌≡◌ {A = ℕ} 0 2 = ap (λ (r : UptoRun). r.stage) e in omega arith
upto-not-over n (suc p) n' e = let z : ◌≡◌ {A = ℕ} 1 2 = ap (λ (r : UptoRun). r.stage) e in omega arith

-- the same of a run that stands somewhere
pub upto-stands-once : {n p n' p' : ℕ} {run : UptoRun} → UptoAt n p run → UptoAt n' p' run → (n ≡ n') × (p ≡ p')
upto-stands-once {n} {p} {n'} {p'} S T = upto-given-once n p n' p' S.within T.within (sym S.is ∙ T.is)

pub upto-stands-not-over : {n p n' : ℕ} {run : UptoRun} → UptoAt n p run → UptoFinished n' run → ⊥
upto-stands-not-over {n} {p} {n'} S O = upto-not-over n p n' (sym S.is ∙ O.is)
