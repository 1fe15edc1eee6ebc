-- The words of a size are those that begin with U and then those that begin with T; for the sizes 1 to 9 they fit in 1,024 numbers.
use mathlib.Core.Path.{◌≡◌, refl, ap, ◌∙◌}
use mathlib.Core.Logic.{◌⊎◌, inl, inr}
use mathlib.Core.Bool.{true}
use mathlib.Core.List.{List, [], ◌∷◌, ◌++◌}
use Prim.Native.Nat.{ℕ, zero, suc, ◌+◌, ◌-◌, ◌≤◌, ◌<◌}
use native.Mathlib.Nat.{zero-add}
use native.Mathlib.Omega.{arith}
use lib.Dec.{leb}
use lib.ListN.{length, set, take, length-append, length-set}
use lib.Seq.{take-suc-set}
use Rattle.lists.specs.Ranges.{OneTo, every}
use Rattle.lists.proofs.Tests.{leb-true, lt?}
use Rattle.lists.proofs.Ranges.{every_true}
use Rattle.words.specs.Shape.{less1, less3}
use Rattle.lists.proofs.Overwriting.{from-0, from-from}
use Rattle.listing.specs.Listing.{prefix_each, completions, listing}
use Rattle.listing_plain_walk.specs.Promises.{concatenated, PlainWalkPromise}
use Rattle.std.specs.Prelude.{Ok}
use Rattle.listing_plain_walk.specs.Walk.{all_completions, concatenated_behind, WalkRoom, WalkAdded}
use Rattle.listing_plain_walk_events.proofs.Rest.{rest-by}
use Rattle.listing_plain_walk.proofs.Texts.{text-append, text-each}

-- ---- one computed test

few : every 9 (λ n. leb (length (concatenated (listing n))) 1024) ≡ true
unfolding listing completions
few = refl

pub listing-few : (n : ℕ) → OneTo 9 n → length (concatenated (listing n)) ≤ 1024
listing-few n e = leb-true _ _ (every_true 9 (λ n. leb (length (concatenated (listing n))) 1024) few n e)

-- ---- the two parts

flat-text : (ws : List (List ℕ)) → concatenated ws ≡ concatenated_behind [] ws
unfolding concatenated_behind
flat-text [] = refl
flat-text (w ∷ ws) = ap (λ (t : List ℕ). w ++ t) (flat-text ws)

listing-parts : (n : ℕ) → concatenated (listing n) ≡ concatenated_behind (0 ∷ []) (less1 n [] (λ f. completions n 1 f)) ++ concatenated_behind (1 ∷ []) (less3 n [] (λ f. completions n 3 f))
unfolding listing
listing-parts n =
    let us = less1 n [] (λ f. completions n 1 f) in
    let ts = less3 n [] (λ f. completions n 3 f) in
    flat-text (prefix_each 0 us ++ prefix_each 1 ts) ∙ text-append [] (prefix_each 0 us) (prefix_each 1 ts) ∙ rw (text-each [] 0 us, text-each [] 1 ts)

-- the words that begin with U, and those that begin with T
abbrev U-words : ℕ → List ℕ
U-words n = concatenated_behind (0 ∷ []) (all_completions 1 (n - 1))

abbrev T-words : ℕ → List ℕ
T-words n = concatenated_behind (1 ∷ []) (all_completions 3 (n - 3))

small-parts : (n : ℕ) → 1 ≤ n → n < 3 → concatenated (listing n) ≡ U-words n
unfolding listing completions all_completions concatenated_behind
small-parts zero a b = absurd (omega arith)
small-parts (suc zero) a b = refl
small-parts (suc (suc zero)) a b = refl
small-parts (suc (suc (suc n))) a b = absurd (omega arith)

large-parts : (n : ℕ) → 3 ≤ n → concatenated (listing n) ≡ U-words n ++ T-words n
large-parts zero a = absurd (omega arith)
large-parts (suc zero) a = absurd (omega arith)
large-parts (suc (suc zero)) a = absurd (omega arith)
large-parts (suc (suc (suc n))) a =
    let e : suc (suc (suc n)) - 1 ≡ suc (suc n) = omega arith in
    let d : suc (suc (suc n)) - 3 ≡ n = omega arith in
    listing-parts (suc (suc (suc n))) ∙ rw (e, d, rest-by (suc (suc (suc n))) 1 (suc (suc n)) (omega arith), rest-by (suc (suc (suc n))) 3 n (omega arith))

-- ---- the two calls of the walk

module _ (n : ℕ) (e : OneTo 9 n) (out : List ℕ) (long : 1024 ≤ length out) where
  few-U : length (U-words n) ≤ 1024
  few-U = go (lt? n 3)
    where
      go : (n < 3) ⊎ (3 ≤ n) → length (U-words n) ≤ 1024
      go (inl l) = rw (small-parts n e.0 l) at (listing-few n e)
      go (inr l) = let a = ap length (large-parts n l) ∙ length-append (U-words n) (T-words n) in omega (arith, listing-few n e)

  pub first-room : (w : List ℕ) → length w ≡ 15 → WalkRoom out 0 (0 ∷ w) 1 1 (n - 1)
  first-room w l = record { places = omega arith; short = omega arith; room = omega (arith, few-U) }

  module _ (w out' word' : List ℕ) (j : ℕ) (A : WalkAdded out 0 (0 ∷ w) 1 1 (n - 1) out' word' j) where
    -- the words of size 1 and of size 2 all begin with U
    pub wrote_U : n < 3 → PlainWalkPromise n out out' (Ok j)
    wrote_U l = rw (small-parts n e.0 l) (e, long, A.up_to ∙ zero-add _, A.written ∙ from-0 _ out)

    module _ (l : 3 ≤ n) (out_long : length out' ≡ length out) (word_long : length word' ≡ 16) where
      both : length (concatenated (listing n)) ≡ length (U-words n) + length (T-words n)
      both = ap length (large-parts n l) ∙ length-append (U-words n) (T-words n)

      first-T : take 1 (set word' 0 1) ≡ 1 ∷ []
      first-T = take-suc-set word' 0 1 (omega arith)

      pub second-room : WalkRoom out' j (set word' 0 1) 1 3 (n - 3)
      second-room =
          let a = length-set word' 0 1 in
          record { places = omega arith; short = omega arith; room = rw first-T (omega (arith, both, listing-few n e, A.up_to)) }

      pub wrote-both : (out'' word'' : List ℕ) (k : ℕ) → WalkAdded out' j (set word' 0 1) 1 3 (n - 3) out'' word'' k → PlainWalkPromise n out out'' (Ok k)
      wrote-both out'' word'' k B =
          let u = rw first-T at B.up_to in
          let v = rw first-T at B.written in
          (e, long, omega (arith, both, A.up_to), v ∙ rw (A.written, A.up_to, large-parts n l) (from-from 0 (U-words n) out (omega (arith, few-U)) (T-words n) ∙ from-0 (U-words n ++ T-words n) out))
