-- What a step promises, by its branches; the run is valid but for 34.
use mathlib.Core.Path.{◌≡◌, refl, ap}
use mathlib.Core.Logic.{◌≢◌, ◌⊎◌, inl, inr}
use mathlib.Core.List.{List}
use Prim.Native.Nat.{ℕ}
use lib.ListN.{length}
use Rattle.words.specs.Shape.{Word}
use Rattle.words.specs.Outputs.{Short}
use Rattle.listing.specs.Listing.{count}
use Rattle.listing.specs.Diagrams.{diagram_at}
use Rattle.listing_successor.specs.Successor.{successor}
use Rattle.run_answers.specs.declared.Run.{Run}
use Rattle.run_answers.specs.declared.Stepped.{Stepped}
use Rattle.run_answers.specs.Promises.{finished, RunAt, RunFinished, RefusedStep, StepPromise}
use Rattle.run_validity.specs.Valid.{ValidRun}
use Rattle.run_validity.proofs.Standing.{Standing, standing, finished-over, over-valid, stands-valid, Next, last-stands, next-stands}
use Rattle.run_next_diagram.specs.Given.{StepGives}

module _ (run : Run) (a0 a1 aw : List ℕ) where
  pub step-34 : ¬ ValidRun run → RefusedStep run a0 a1 aw 34
  step-34 k = inl (refl, λ n p T. k (stands-valid n p run T), λ n O. k (over-valid n run O))

  module _ (S : ValidRun run) where
    pub step-over : run.stage ≡ 2 → (n : ℕ) × (run ≡ finished n) × (RunFinished n run ⊎ (RunAt n (count n) run × (¬ Short n a0 a1 aw)))
    step-over z = let O = finished-over run S z in (run.size, O.is, inl O)

    module _ (z : run.stage ≢ 2) where
      T : Standing run S.word
      T = standing run S z

      pub step-9 : Short run.size a0 a1 aw → RefusedStep run a0 a1 aw 9
      step-9 s = inr (refl, (run.size, T.place, T.stands, s))

      module _ (k : ¬ Short run.size a0 a1 aw) where
        pub step_end : (next : Run) → next ≡ finished run.size → length (successor run.size S.word) ≡ 0 → (n : ℕ) × (next ≡ finished n) × (RunFinished n run ⊎ (RunAt n (count n) run × (¬ Short n a0 a1 aw)))
        step_end next e l = (run.size, e, inr (last-stands run S.word T l, k))

        pub step-next : length (successor run.size S.word) ≢ 0 → Word run.size (successor run.size S.word)
        step-next l = (next-stands run S.word T l).word

        pub step_gives : (given : Stepped) (b0 b1 bw : List ℕ) → length (successor run.size S.word) ≢ 0 → StepGives run.size (successor run.size S.word) given a0 a1 aw b0 b1 bw → StepPromise run given.run a0 a1 aw b0 b1 bw given.answer
        unfolding diagram_at
        step_gives given b0 b1 bw l G = rw G.answer (run.size, T.place, T.stands, N.more, k, rw N.is at G.leaves, ap length N.is, rw N.is at G.written)
          where
            N : Next run S.word T
            N = next-stands run S.word T l
