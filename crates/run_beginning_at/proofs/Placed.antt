-- The run at a position: a word over zeros is the run at that word, and it is the run that has given as many diagrams as its position says.
use mathlib.Core.Path.{◌≡◌, ap, ◌∙◌}
use mathlib.Core.List.{List, ◌++◌}
use Prim.Native.Nat.{ℕ, zero, suc, ◌≤◌}
use native.Mathlib.Omega.{arith}
use lib.ListN.{length, replicate}
use Rattle.lists.specs.Ranges.{OneTo}
use Rattle.lists.proofs.Lists.{drop-zeros}
use Rattle.words.specs.Outputs.{overwrite}
use Rattle.words.proofs.Shape.{word_length}
use Rattle.listing.specs.Listing.{count}
use Rattle.listing.specs.Position.{word_at}
use Rattle.listing.proofs.Positions.{at-word}
use Rattle.run_answers.specs.declared.Run.{Run}
use Rattle.run_answers.specs.Promises.{fresh, at_word, RunAt}

-- a word that is written over 51 zeros leaves zeros after it
pub written-run : (n p m : ℕ) (items : List ℕ) → OneTo 50 n → OneTo (count n) p → m ≡ length (word_at n p) → items ≡ overwrite (word_at n p) (replicate 51 0)
    → ◌≡◌ {A = Run} record { size = n; stage = 1; length = m; items = items } (at_word n (word_at n p))
written-run n p m items N P e q =
    let w = word_at n p in
    let l : length w ≤ 51 = (let i = word_length n w (at-word n p P) in omega arith) in
    rw (e, q ∙ ap (λ (z : List ℕ). w ++ z) (drop-zeros 51 (length w) l))

pub run_at : (n p : ℕ) (run : Run) → OneTo 50 n → OneTo (count n) p → run ≡ at_word n (word_at n p) → RunAt n p run
run_at n zero run N P e = absurd (omega arith)
run_at n (suc p) run N P e = record { sized = N; within = P.1; is = e }

pub run-fresh : (n p : ℕ) (run : Run) → OneTo 50 n → p ≡ 0 → run ≡ fresh n → RunAt n p run
run-fresh n zero run N z e = record { sized = N; within = omega arith; is = e }
run-fresh n (suc p) run N z e = absurd (omega arith)
