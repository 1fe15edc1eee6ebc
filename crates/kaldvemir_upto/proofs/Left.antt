-- The numbers and the visits that a step leaves are those of its run; and the layout is inverse to taking it apart.
use mathlib.Core.Path.{◌≡◌, refl, sym, ap, ◌∙◌}
use mathlib.Core.Logic.{◌⊎◌, inl, inr}
use mathlib.Core.List.{List, ◌∷◌}
use Prim.Native.Nat.{ℕ, zero, suc}
use native.Mathlib.Omega.{arith}
use lib.ListN.{length, get_or}
use lib.Seq.{take_all}
use Rattle.upto.specs.Upto.{total}
use Rattle.upto_answers.specs.declared.UptoRun.{UptoRun}
use Rattle.std.specs.Prelude.{Option, Some, None, Result, Ok, Err}
use Rattle.refusals.specs.declared.Refusal.{Refusal}
use Rattle.upto_answers.specs.declared.UptoGiven.{UptoGiven}
use Rattle.upto_answers.specs.Promises.{finished_upto, UptoAt, UptoFinished, UptoStepPromise}
use Rattle.upto_validity.proofs.Standing.{stands-visits}
use Rattle.kaldvemir_layout_run.proofs.Rows.{run_again}
use Rattle.kaldvemir_upto.specs.Layout.{upto_of, upto_numbers, UptoLayoutInverse}

-- the bound is the run's
stands-bound : (n p : ℕ) (run : UptoRun) → UptoAt n p run → run.bound ≡ n
stands-bound n zero run T = ap (λ (r : UptoRun). r.bound) T.is
stands-bound n (suc p) run T = ap (λ (r : UptoRun). r.bound) T.is

ended-bound : (n : ℕ) (run : UptoRun) → UptoFinished n run ⊎ UptoAt n (total n) run → run.bound ≡ n
ended-bound n run (inl O) = ap (λ (r : UptoRun). r.bound) O.is
ended-bound n run (inr T) = stands-bound n (total n) run T

-- and so are the visits, where all have been given
ended-visits : (n : ℕ) (run : UptoRun) → UptoFinished n run ⊎ UptoAt n (total n) run → run.visits ≡ (finished_upto n).visits
ended-visits n run (inl O) = ap (λ (r : UptoRun). r.visits) O.is
ended-visits n run (inr T) = stands-visits n (total n) run T

module _ (l : List ℕ) (v : ℕ) (next : UptoRun) (a0 a1 aw b0 b1 bw : List ℕ) where
  abbrev Stepped : Result (Option UptoGiven) Refusal → Type 0
  Stepped a = UptoStepPromise (upto_of l v) next a0 a1 aw b0 b1 bw a

  pub left-refused : (refusal : Refusal) → length l ≡ 54 → Stepped (Err refusal) → (l ≡ upto_numbers next) × (v ≡ next.visits)
  left-refused refusal h s = (sym (ap upto_numbers s.1 ∙ run_again l h), sym (ap (λ (r : UptoRun). r.visits) s.1))

  pub left_end : Stepped (Ok None) → (get_or l 0 0 ∷ 2 ∷ 0 ∷ next.items ≡ upto_numbers next) × (v ≡ next.visits)
  left_end s =
      let n = s.0.0 in
      (rw (s.0.1, ended-bound n (upto_of l v) s.0.2) refl, ended-visits n (upto_of l v) s.0.2 ∙ sym (ap (λ (r : UptoRun). r.visits) s.0.1))

  pub left-given : (given : UptoGiven) → Stepped (Ok (Some given)) → (get_or l 0 0 ∷ 1 ∷ given.length ∷ next.items ≡ upto_numbers next) × (given.visits ≡ next.visits)
  left-given given s =
      let G = s.2 in
      (rw (G.leaves, G.length_is, stands-bound s.0 s.1 (upto_of l v) G.stood) refl, G.visits_are ∙ sym (ap (λ (r : UptoRun). r.visits) G.leaves))

back : (r : UptoRun) → length r.items ≡ 51 → (length (upto_numbers r) ≡ 54) × (upto_of (upto_numbers r) r.visits ≡ r)
back r h = (omega arith, rw (take_all 51 r.items (omega arith)))

pub upto-layout-inverse : UptoLayoutInverse
upto-layout-inverse = record { again = λ l v h. (run_again l h, refl); back = back }
