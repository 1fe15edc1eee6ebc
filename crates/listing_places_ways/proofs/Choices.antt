-- Unranking: the event in whose block a place falls is the first item, and what is written grows by it.
use mathlib.Core.Path.{◌≡◌, refl, ap, ◌∙◌}
use mathlib.Core.List.{List, [], ◌∷◌, ◌++◌, append_assoc, append-nil}
use Prim.Native.Nat.{ℕ, zero, suc, ◌+◌, ◌*◌, ◌-◌, ◌/◌, ◌%◌, ◌≤◌, ◌<◌}
use native.Mathlib.Nat.{mod-lt}
use native.Mathlib.Omega.{arith}
use lib.ListN.{length, set}
use Rattle.lists.proofs.Lists.{length-1}
use Rattle.lists.proofs.Tests.{lt-true, lt-false}
use Rattle.words.specs.Outputs.{overwrite}
use Rattle.words.specs.Shape.{pre}
use Rattle.lists.proofs.Overwriting.{over-length, over-one}
use Rattle.listing.specs.Listing.{ways}
use Rattle.listing.specs.Ranking.{ways_f, ways_b, unrank}
use Rattle.listing.proofs.Completions.{pre-le}
use Rattle.listing.proofs.Ranking.{ways-parts}
use Rattle.listing_places_ways.specs.Steps.{Chosen, Unranking}
use Rattle.listing_places_ways.proofs.EventBlocks.{ways_f-some, ways_b-some, block-some, jump-divides}

nothing : (m f i : ℕ) → unrank m 0 f i ≡ []
unfolding unrank
nothing zero f i = refl
nothing (suc m) f i = refl

pub lowered : (h : ℕ) → h - 1 ≡ pre h
lowered zero = refl
lowered (suc h) = omega arith

module _ (height h f i : ℕ) (e : height ≡ suc h) (r : 3 * height + f ≤ 56) where
  chosen-W : i < ways h f → Chosen height f i 0 h f i
  unfolding unrank
  chosen-W l = rw e record { first = λ m. rw (lt-true i (ways h f) l); region = omega arith; within = l; falls = omega arith }

  chosen-F : ways h f ≤ i → i - ways h f < ways_f h f → Chosen height f i 1 (h + 2) (f - 3) (i - ways h f)
  unfolding unrank
  chosen-F a b = let z : h + 2 ≡ suc (suc h) = omega arith in rw (e, z) (go f r a b)
    where
      go : (f : ℕ) → 3 * height + f ≤ 56 → ways h f ≤ i → i - ways h f < ways_f h f → Chosen (suc h) f i 1 (suc (suc h)) (f - 3) (i - ways h f)
      go zero r a b = let s = ways_f-some h zero (i - ways h zero) b in absurd (omega arith)
      go (suc zero) r a b = let s = ways_f-some h (suc zero) (i - ways h (suc zero)) b in absurd (omega arith)
      go (suc (suc zero)) r a b = let s = ways_f-some h (suc (suc zero)) (i - ways h (suc (suc zero))) b in absurd (omega arith)
      go (suc (suc (suc g))) r a b =
          let y : suc (suc (suc g)) - 3 ≡ g = omega arith in
          rw y record { first = λ m. rw (lt-false i (ways h (suc (suc (suc g)))) a, lt-true (i - ways h (suc (suc (suc g)))) (ways_f h (suc (suc (suc g)))) b); region = omega arith; within = unfold ways_f in b; falls = omega arith }

  chosen-B : ways h f ≤ i → ways_f h f ≤ i - ways h f → i - ways h f - ways_f h f < ways_b h f → Chosen height f i 2 h (f - 1) (i - ways h f - ways_f h f)
  unfolding unrank
  chosen-B a b c = rw e (go f r a b c)
    where
      go : (f : ℕ) → 3 * height + f ≤ 56 → ways h f ≤ i → ways_f h f ≤ i - ways h f → i - ways h f - ways_f h f < ways_b h f → Chosen (suc h) f i 2 h (f - 1) (i - ways h f - ways_f h f)
      go zero r a b c = let s = ways_b-some h zero (i - ways h zero - ways_f h zero) c in absurd (omega arith)
      go (suc g) r a b c =
          let y : suc g - 1 ≡ g = omega arith in
          rw y record {
            first = λ m. rw (lt-false i (ways h (suc g)) a, lt-false (i - ways h (suc g)) (ways_f h (suc g)) b, lt-true (i - ways h (suc g) - ways_f h (suc g)) (ways_b h (suc g)) c);
            region = omega arith;
            within = unfold ways_b in c;
            falls = omega arith;
          }

  -- past W, F and B: h blocks of the J, all of one length
  module _ (a : ways h f ≤ i) (b : ways_f h f ≤ i - ways h f) (c : ways_b h f ≤ i - ways h f - ways_f h f) (l : i < ways height f) where
    abbrev rest : ℕ
    rest = i - ways h f - ways_f h f - ways_b h f

    in_blocks : rest < h * ways (pre h) f
    in_blocks = let z = rw (e, ways-parts) at l in omega arith

    chosen-J : Chosen height f i (3 + rest / ways (h - 1) f) (h - 1) f (rest % ways (h - 1) f)
    unfolding unrank
    chosen-J =
        rw (e, lowered h) record {
          first = λ m. rw (lt-false i (ways h f) a, lt-false (i - ways h f) (ways_f h f) b, lt-false (i - ways h f - ways_f h f) (ways_b h f) c) (jump-divides 3 h (ways (pre h) f) rest (λ k. unrank m (pre h) f k) in_blocks);
          region = let z = pre-le h in omega arith;
          within = mod-lt rest (block-some h (ways (pre h) f) rest in_blocks);
          falls = let z = pre-le h in omega arith;
        }

-- the same with the numbers as they were looked up
module _ (height h f i a b c : ℕ) (e : height ≡ suc h) (r : 3 * height + f ≤ 56) (l : i < ways height f) (w-block : a ≡ ways h f) (f-block : b ≡ ways_f h f) (b-block : c ≡ ways_b h f) where
  pub found-W : i < a → Chosen height f i 0 h f i
  found-W m = chosen-W height h f i e r (rw w-block at m)

  pub found-F : a ≤ i → i - a < b → (3 ≤ f) × Chosen height f i 1 (h + 2) (f - 3) (i - a)
  found-F m n = let n' = rw (w-block, f-block) at n in (ways_f-some h f (i - ways h f) n', rw w-block (chosen-F height h f i e r (rw w-block at m) n'))

  pub found-B : a ≤ i → b ≤ i - a → i - a - b < c → (1 ≤ f) × Chosen height f i 2 h (f - 1) (i - a - b)
  found-B m n o =
      let o' = rw (w-block, f-block, b-block) at o in
      (ways_b-some h f (i - ways h f - ways_f h f) o', rw (w-block, f-block) (chosen-B height h f i e r (rw w-block at m) (rw (w-block, f-block) at n) o'))

  module _ (m : a ≤ i) (n : b ≤ i - a) (o : c ≤ i - a - b) where
    pub jump-within : i - a - b - c < h * ways (h - 1) f
    jump-within = rw (w-block, f-block, b-block, lowered h) (in_blocks height h f i e r (rw w-block at m) (rw (w-block, f-block) at n) (rw (w-block, f-block, b-block) at o) l)

    pub found-J : Chosen height f i (3 + (i - a - b - c) / ways (h - 1) f) (h - 1) f ((i - a - b - c) % ways (h - 1) f)
    found-J = rw (w-block, f-block, b-block) (chosen-J height h f i e r (rw w-block at m) (rw (w-block, f-block) at n) (rw (w-block, f-block, b-block) at o) l)

-- ---- what is written

module _ (W a b : List ℕ) (next height free place : ℕ) (U : Unranking W a b next height free place) where
  same-long : length b ≡ length a
  same-long =
      let i = U.room in
      let j = U.next_is in
      ap length U.list_is ∙ over-length U.done a (omega arith)

  pub unranking-room : 0 < height → next < length b
  unranking-room l =
      let i = U.room in
      let j = U.enough in
      rw same-long (omega arith)

  pub unranking-more : (item height' free' place' : ℕ) → 0 < height → Chosen height free place item height' free' place' → Unranking W a (set b next item) (next + 1) height' free' place'
  unranking-more item height' free' place' l C = go U.left U.whole U.enough U.room
    where
      go : (m : ℕ) → W ≡ U.done ++ unrank m height free place → height + free ≤ m → next + m ≤ length a → Unranking W a (set b next item) (next + 1) height' free' place'
      go zero w n r = absurd (omega arith)
      go (suc m) w n r = record {
        done = U.done ++ (item ∷ []);
        left = m;
        whole = w ∙ rw (C.first m, append_assoc);
        next_is = let z = U.next_is in rw length-1 (omega arith);
        list_is = rw U.list_is (over-one U.done a next item U.next_is (omega arith));
        enough = let z = C.falls in omega arith;
        room = omega arith;
        region = C.region;
        within = C.within;
      }

  pub unranking-end : height ≡ 0 → (next ≡ length W) × (b ≡ overwrite W a)
  unranking-end e =
      let q : W ≡ U.done = U.whole ∙ rw (e, nothing U.left free place) (append-nil U.done) in
      rw q (U.next_is, U.list_is)
