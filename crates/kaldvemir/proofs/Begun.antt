-- The numbers of a run that begins at a position fit 16 bits.
use Prim.Native.Nat.{ℕ, zero, suc, ◌≤◌}
use native.Mathlib.Omega.{arith}
use Rattle.listing_ranking.proofs.Answers.{at_length}
use Rattle.run_answers.specs.declared.Run.{Run}
use Rattle.std.specs.Prelude.{Result, Ok, Err}
use Rattle.refusals.specs.declared.Refusal.{Refusal}
use Rattle.run_steps.specs.Promises.{RunAt, BeginAtPromise}
use Rattle.kaldvemir_answers_run.specs.Runs.{FitsBegun}

at_small : (n p : ℕ) (next : Run) → RunAt n p next → FitsBegun (Ok tt) next
at_small n zero next S = let b = S.sized in rw S.is (omega arith, omega arith, omega arith)
at_small n (suc p) next S =
    let b = S.sized in
    let w = at_length n (suc p) (omega arith, S.within) in
    rw S.is (omega arith, omega arith, omega arith)

pub begun-fits : (n p : ℕ) (next : Run) (a : Result (Unit {0}) Refusal) → BeginAtPromise n p next a → FitsBegun a next
begun-fits n p next (Ok u) S = at_small n p next S
begun-fits n p next (Err e) r = tt
