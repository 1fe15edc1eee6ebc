-- What a step promises, by its branches; the run is valid but for 34.
use mathlib.Core.Path.{◌≡◌, refl, sym, ap, ◌∙◌}
use mathlib.Core.Logic.{◌≢◌, ◌⊎◌, inl, inr}
use mathlib.Core.List.{List}
use Prim.Native.Nat.{ℕ, suc, ◌+◌, ◌-◌, ◌^◌, ◌≤◌, ◌<◌}
use native.Mathlib.Omega.{arith}
use lib.ListN.{length, replicate}
use Rattle.lists.proofs.Lists.{length-0}
use Rattle.words.specs.Shape.{Word}
use Rattle.words.specs.Outputs.{Short}
use Rattle.listing.proofs.Spelled.{black-length}
use Rattle.upto.specs.Upto.{total, word_upto, size_of, Listed}
use Rattle.upto.specs.Visits.{visits}
use Rattle.upto.proofs.Upto.{at-upto}
use Rattle.upto_words.specs.Within.{labels_of}
use Rattle.upto_words.specs.Successor.{following, following_shared}
use Rattle.upto_words.proofs.Within.{labels-word}
use Rattle.upto_weights.proofs.Passing.{word-most}
use Rattle.upto_visits.proofs.Words.{whole-small}
use Rattle.upto_laws.proofs.Laws.{at-within, some_after, none_after, shared-less, visits-grow, visits-passed}
use Rattle.upto_answers.specs.declared.UptoRun.{UptoRun}
use Rattle.upto_answers.specs.declared.UptoStepped.{UptoStepped}
use Rattle.upto_answers.specs.Promises.{upto_at, finished_upto, UptoAt, UptoFinished, RefusedUpto, UptoStepPromise}
use Rattle.upto_validity.specs.Valid.{ValidUpto}
use Rattle.upto_validity.proofs.Standing.{Standing, standing, finished-over, stands-visits, over-valid, stands-valid}
use Rattle.upto_run.specs.Given.{UptoGiven}

module _ (run : UptoRun) (a0 a1 aw : List ℕ) where
  pub step-34 : ¬ ValidUpto run → RefusedUpto run a0 a1 aw 34
  step-34 k = inl (refl, λ n p T. k (stands-valid n p run T), λ n O. k (over-valid n run O))

  module _ (S : ValidUpto run) where
    pub step-over : run.stage ≡ 2 → (n : ℕ) × (run ≡ finished_upto n) × (UptoFinished n run ⊎ UptoAt n (total n) run)
    step-over z = let O = finished-over run S z in (run.bound, O.is, inl O)

    module _ (z : run.stage ≢ 2) where
      abbrev n : ℕ
      n = run.bound

      -- the word that follows
      abbrev v : List ℕ
      v = following n S.word

      pub T : Standing run S.word
      T = standing run S z

      following-is : following n (word_upto n T.place) ≡ v
      following-is = ap (following n) T.word

      shared-is : following_shared n (word_upto n T.place) ≡ following_shared n S.word
      shared-is = ap (following_shared n) T.word

      -- none follows the last
      pub step_end : (next : UptoRun) → next ≡ record { bound = n; stage = 2; length = 0; visits = run.visits; items = replicate 51 0 } → length v ≡ 0
          → (k : ℕ) × (next ≡ finished_upto k) × (UptoFinished k run ⊎ UptoAt k (total k) run)
      step_end next e l = (n, e ∙ ap over (stands-visits n T.place run T.stands ∙ ap (visits n) last), inr (rw last at T.stands))
        where
          last : T.place ≡ total n
          last = none_after n S.bounded.0 T.place T.stands.within (following-is ∙ length-0 v l)

          over : ℕ → UptoRun
          over x = record { bound = n; stage = 2; length = 0; visits = x; items = replicate 51 0 }

      module _ (l : length v ≢ 0) where
        after : (T.place < total n) × (word_upto n (suc T.place) ≡ following n (word_upto n T.place))
        after = some_after n S.bounded.0 T.place T.stands.within (λ e. l (ap length (sym following-is ∙ e)))

        next_is : word_upto n (suc T.place) ≡ v
        next_is = after.1 ∙ following-is

        -- it is a word of a size up to the bound
        listed : Listed n v
        listed = rw next_is at (at-upto n (suc T.place) (omega arith, after.0))

        pub next_word : Word (labels_of v) v
        next_word = let m = listed in rw (← labels-word m.0 v m.2) at m.2

        pub next-size : labels_of v ≤ 50
        next-size = let m = listed in let e = labels-word m.0 v m.2 in let i = m.1.1 in let j = S.bounded.1 in omega arith

        size_is : labels_of v ≡ size_of (word_upto n (suc T.place))
        size_is = sym (black-length (labels_of v) v next_word) ∙ ap size_of (sym next_is)

        pub step-9 : Short (labels_of v) a0 a1 aw → RefusedUpto run a0 a1 aw 9
        step-9 s = inr (refl, (n, T.place, T.stands, after.0, rw size_is at s))

        pub shared-below : following_shared n S.word < length v
        shared-below = rw (shared-is, following-is) at (shared-less n S.bounded.0 T.place after.0)

        -- the visits so far and the new ones
        pub visits_are : run.visits + (length v - suc (following_shared n S.word)) ≡ visits n (suc T.place)
        visits_are = ap (λ (x : ℕ). x + (length v - suc (following_shared n S.word))) (stands-visits n T.place run T.stands)
            ∙ sym (rw (shared-is, following-is) at (visits-grow n S.bounded.0 T.place after.0))

        -- which the table bounds
        pub visits-fit : run.visits + (length v - suc (following_shared n S.word)) < 2 ^ 51
        visits-fit = rw visits_are (
            let e = visits-passed n S.bounded.0 (suc T.place) after.0 in
            let m = word-most 0 1 n (word_upto n (suc T.place)) (at-within n (suc T.place) (omega arith, after.0)) in
            let s = whole-small n S.bounded.0 S.bounded.1 in
            omega arith)

        pub step_gives : (given : UptoStepped) (b0 b1 bw : List ℕ) → ¬ Short (labels_of v) a0 a1 aw
            → UptoGiven n (labels_of v) (run.visits + (length v - suc (following_shared n S.word))) v given a0 a1 aw b0 b1 bw
            → UptoStepPromise run given.run a0 a1 aw b0 b1 bw given.answer
        step_gives given b0 b1 bw k G = rw G.answer (
          n,
          T.place,
          record {
            stood = T.stands;
            more = after.0;
            room = k;
            leaves = G.leaves ∙ ap (λ (x : ℕ). upto_at n v x) visits_are ∙ ap (λ (w : List ℕ). upto_at n w (visits n (suc T.place))) (sym next_is);
            size_is = size_is;
            length_is = ap length (sym next_is);
            visits_are = visits_are;
            written = rw (← next_is) at G.written;
          },
        )
