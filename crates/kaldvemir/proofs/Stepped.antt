-- The numbers that a step leaves are those of its run, whose size is the one that it had.
use mathlib.Core.Path.{◌≡◌, refl, sym, ◌∙◌, ap}
use mathlib.Core.Logic.{◌⊎◌, inl, inr}
use mathlib.Core.List.{List, ◌∷◌}
use Prim.Native.Nat.{ℕ, suc}
use lib.ListN.{length, get_or}
use Rattle.listing.specs.Listing.{count}
use Rattle.listing.specs.Position.{word_at}
use Rattle.run_answers.specs.declared.Run.{Run}
use Rattle.std.specs.Prelude.{Option, Some, None, Result, Ok, Err}
use Rattle.refusals.specs.declared.Refusal.{Refusal}
use Rattle.run_steps.specs.Promises.{RunAt, RunFinished, run_after, finished, StepPromise}
use Rattle.run_steps.proofs.Standing.{stands-size}
use Rattle.kaldvemir_layout_run.specs.Layout.{run_of, run_numbers}
use Rattle.kaldvemir_layout_run.proofs.Rows.{run_again}
use Rattle.kaldvemir_answers_run.specs.Runs.{step_numbers}

over-size : (n : ℕ) (run : Run) → RunFinished n run → run.size ≡ n
over-size n run O = ap (λ (r : Run). r.size) O.is

ended-size : {A : Type 0} (n p : ℕ) (run : Run) → RunFinished n run ⊎ (RunAt n p run × A) → run.size ≡ n
ended-size n p run (inl O) = over-size n run O
ended-size n p run (inr S) = stands-size n p run S.0

end-numbers : {A : Type 0} (l : List ℕ) (n p : ℕ) (next : Run) → next ≡ finished n → RunFinished n (run_of l) ⊎ (RunAt n p (run_of l) × A) → get_or l 0 0 ∷ 2 ∷ 0 ∷ next.items ≡ run_numbers next
end-numbers l n p next e o = rw (e, ended-size n p (run_of l) o) refl

given-numbers : (l : List ℕ) (n p m : ℕ) (next : Run) → next ≡ run_after n (suc p) → m ≡ length (word_at n (suc p)) → RunAt n p (run_of l) → get_or l 0 0 ∷ 1 ∷ m ∷ next.items ≡ run_numbers next
given-numbers l n p m next e h S = rw (e, h, stands-size n p (run_of l) S) refl

pub step_left : (l : List ℕ) (next : Run) (a0 a1 aw b0 b1 bw : List ℕ) (a : Result (Option ℕ) Refusal) → length l ≡ 54 → StepPromise (run_of l) next a0 a1 aw b0 b1 bw a → step_numbers a next.items l ≡ run_numbers next
step_left l next a0 a1 aw b0 b1 bw (Ok (Some m)) h s = given-numbers l s.0 s.1 m next s.5 s.6 s.2
step_left l next a0 a1 aw b0 b1 bw (Ok None) h s = end-numbers l s.0.0 (count s.0.0) next s.0.1 s.0.2
step_left l next a0 a1 aw b0 b1 bw (Err e) h s = sym (ap run_numbers s.1 ∙ run_again l h)
