-- Steps that are lent lists of zeros: those that give the diagrams from a position on, one after another, and the one that answers "end".
use mathlib.Core.Path.{◌≡◌, refl}
use mathlib.Core.Logic.{◌⊎◌, inl, inr, ⊎_elim}
use mathlib.Core.List.{List, ◌∷◌}
use Prim.Native.Nat.{ℕ, zero, suc, ◌+◌, ◌≤◌}
use native.Mathlib.Nat.{add-zero}
use native.Mathlib.Omega.{arith}
use lib.ListN.{length, replicate, length-replicate}
use Rattle.std.specs.Prelude.{Some, None, Ok}
use Rattle.lists.specs.Ranges.{OneTo}
use Rattle.words.specs.Outputs.{Short, overwrite}
use Rattle.listing.specs.Listing.{count}
use Rattle.listing.specs.Position.{word_at}
use Rattle.listing.specs.Diagrams.{diagram_at}
use Rattle.run_answers.specs.declared.Run.{Run}
use Rattle.run_steps.specs.Promises.{run_after, finished, RunAt, RunFinished}
use Rattle.theorems.specs.SecondList.{Step, Happened, History, written}

not_short : (n : ℕ) → ¬ Short n (replicate n 0) (replicate n 0) (replicate (suc n) 0)
not_short n (inl l) = let e = length-replicate {A = ℕ} n 0 in omega arith
not_short n (inr (inl l)) = let e = length-replicate {A = ℕ} n 0 in omega arith
not_short n (inr (inr l)) = let e = length-replicate {A = ℕ} (suc n) 0 in omega arith

-- the step that gives the diagram after position p
abbrev pub step_at : ℕ → ℕ → Step
step_at n p = record {
  s0 = replicate n 0;
  s1 = replicate n 0;
  word = replicate (suc n) 0;
  s0_after = overwrite (diagram_at n (suc p)).black (replicate n 0);
  s1_after = overwrite (diagram_at n (suc p)).white (replicate n 0);
  word_after = overwrite (word_at n (suc p)) (replicate (suc n) 0);
  answer = Ok (Some (length (word_at n (suc p))));
}

-- the step that answers "end"
abbrev pub end_step : ℕ → Step
end_step n = record {
  s0 = replicate n 0;
  s1 = replicate n 0;
  word = replicate (suc n) 0;
  s0_after = replicate n 0;
  s1_after = replicate n 0;
  word_after = replicate (suc n) 0;
  answer = Ok None;
}

-- k steps from position p on, and then `more`
abbrev pub steps_from : ℕ → ℕ → ℕ → List Step → List Step
steps_from n p zero more = more
steps_from n p (suc k) more = step_at n p ∷ steps_from n (suc p) k more

pub end-happens : (n : ℕ) (run next : Run) → next ≡ finished n → RunFinished n run ⊎ RunAt n (count n) run → Happened run next (end_step n)
end-happens n run next e T = (
  (n, e, ⊎_elim (λ O. inl O) (λ S. inr (S, not_short n)) T),
  record { s0_same = refl; s1_same = refl; word_same = refl },
)

module _ (n : ℕ) (more : List Step) where
  pub from-happened : OneTo 50 n → (k p : ℕ) (run end : Run) → RunAt n p run → p + k ≤ count n → History (run_after n (p + k)) more end → History run (steps_from n p k more) end
  from-happened N zero p run end T l h = rw T.is (rw add-zero at h)
  from-happened N (suc k) p run end T l h =
      let z : p + suc k ≡ suc p + k = omega arith in (
        run_after n (suc p),
        (n, p, T, omega arith, not_short n, refl, refl, record { s0_written = refl; s1_written = refl; word_written = refl }),
        from-happened N k (suc p) (run_after n (suc p)) end record { sized = N; within = omega arith; is = refl } (omega arith) (rw z at h),
      )

  pub from-written : (k p : ℕ) → written (steps_from n p k more) ≡ k + written more
  from-written zero p = omega arith
  from-written (suc k) p = let e = from-written k (suc p) in omega arith
