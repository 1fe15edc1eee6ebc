-- Ranking: of the ways to go on, those that begin with an event before an item's, one law for each event; and none of these sums grows large.
use mathlib.Core.Path.{◌≡◌, refl}
use mathlib.Core.List.{List, [], ◌∷◌}
use Prim.Native.Nat.{ℕ, zero, suc, ◌+◌, ◌*◌, ◌-◌, ◌^◌, ◌≤◌, ◌<◌}
use native.Mathlib.Omega.{arith}
use Rattle.words.specs.Shape.{pre, Fits}
use Rattle.listing.specs.Listing.{ways}
use Rattle.listing.specs.Ranking.{ways_f, ways_b, rank}
use Rattle.listing.proofs.Completions.{pre-le}
use Rattle.listing.proofs.Ranking.{placed}
use Rattle.listing_table.proofs.Table.{ways-small}
use Rattle.listing_places_ways.specs.Steps.{Passed}
use Rattle.listing_places_ways.proofs.Choices.{lowered}

-- what a word that fits says of the height and the labels free
pub height-some : (height f x : ℕ) (w : List ℕ) → Fits height f (x ∷ w) → 1 ≤ height
height-some zero f x w a = absurd a
height-some (suc h) f x w a = omega arith

pub rank-small : (height f : ℕ) (w : List ℕ) → 3 * height + f ≤ 56 → Fits height f w → rank height f w < 2 ^ 49
rank-small height f w r a = let x = (placed w height f a).lt in let y = ways-small height f r in omega arith

module _ (height h f : ℕ) (w : List ℕ) (e : height ≡ suc h) (r : 3 * height + f ≤ 56) where
  pub passed-W : Fits height f (0 ∷ w) → Passed height f 0 w 0 h f
  unfolding rank
  passed-W a = rw e record { rank_is = omega arith; fits = rw e at a; region = omega arith }

  pub free-F : Fits height f (1 ∷ w) → 3 ≤ f
  free-F a = go f (rw e at a)
    where
      go : (f : ℕ) → Fits (suc h) f (1 ∷ w) → 3 ≤ f
      go zero a = absurd a
      go (suc zero) a = absurd a
      go (suc (suc zero)) a = absurd a
      go (suc (suc (suc f))) a = omega arith

  pub passed-F : Fits height f (1 ∷ w) → Passed height f 1 w (ways h f) (h + 2) (f - 3)
  unfolding rank
  passed-F a = let z : h + 2 ≡ suc (suc h) = omega arith in rw (e, z) (go f r (rw e at a))
    where
      go : (f : ℕ) → 3 * height + f ≤ 56 → Fits (suc h) f (1 ∷ w) → Passed (suc h) f 1 w (ways h f) (suc (suc h)) (f - 3)
      go zero r a = absurd a
      go (suc zero) r a = absurd a
      go (suc (suc zero)) r a = absurd a
      go (suc (suc (suc g))) r a = let y : suc (suc (suc g)) - 3 ≡ g = omega arith in rw y record { rank_is = refl; fits = a; region = omega arith }

  pub free-B : Fits height f (2 ∷ w) → 1 ≤ f
  free-B a = go f (rw e at a)
    where
      go : (f : ℕ) → Fits (suc h) f (2 ∷ w) → 1 ≤ f
      go zero a = absurd a
      go (suc f) a = omega arith

  pub passed-B : Fits height f (2 ∷ w) → Passed height f 2 w (ways h f + ways_f h f) h (f - 1)
  unfolding rank
  passed-B a = rw e (go f r (rw e at a))
    where
      go : (f : ℕ) → 3 * height + f ≤ 56 → Fits (suc h) f (2 ∷ w) → Passed (suc h) f 2 w (ways h f + ways_f h f) h (f - 1)
      go zero r a = absurd a
      go (suc g) r a = let y : suc g - 1 ≡ g = omega arith in rw y record { rank_is = omega arith; fits = a; region = omega arith }

  pub sum-B : Fits height f (2 ∷ w) → ways h f + ways_f h f < 2 ^ 49
  sum-B a = let x = (passed-B a).rank_is in let y = rank-small height f (2 ∷ w) r a in omega arith

pub passed-J : (h f d : ℕ) (w : List ℕ) → 3 * h + f ≤ 53 → Fits (suc h) f (suc (suc (suc d)) ∷ w) → Passed (suc h) f (suc (suc (suc d))) w (ways h f + ways_f h f + ways_b h f + d * ways (h - 1) f) (h - 1) f
unfolding rank
passed-J h f d w r a =
    let y : h - 1 ≡ pre h = lowered h in
    rw y record { rank_is = omega arith; fits = a.1; region = let z = pre-le h in omega arith }

pub sum-J : (h f d : ℕ) (w : List ℕ) → 3 * h + f ≤ 53 → Fits (suc h) f (suc (suc (suc d)) ∷ w) → ways h f + ways_f h f + ways_b h f + d * ways (h - 1) f < 2 ^ 49
sum-J h f d w r a = let x = (passed-J h f d w r a).rank_is in let y = rank-small (suc h) f (suc (suc (suc d)) ∷ w) (omega arith) a in omega arith

-- the same at a height and an item as the code has them
module _ (height h f x d : ℕ) (w : List ℕ) (e : height ≡ suc h) (q : x ≡ suc (suc (suc d))) where
  pub item-J : Fits height f (x ∷ w) → Fits (suc h) f (suc (suc (suc d)) ∷ w)
  item-J a = rw (e, q) at a

  pub from-J : (before height' free' : ℕ) → Passed (suc h) f (suc (suc (suc d))) w before height' free' → Passed height f x w before height' free'
  from-J before height' free' p = rw (e, q) p

-- ---- along a word: `place` ways come before those that go on with the items w
pub record Ranked (total place height free : ℕ) (w : List ℕ) : Type 0 where
  pub sum : total ≡ place + rank height free w
  pub fits : Fits height free w
  pub region : 3 * height + free ≤ 56

pub ranked-more : (total place height free x : ℕ) (w : List ℕ) (before height' free' : ℕ) → Ranked total place height free (x ∷ w) → Passed height free x w before height' free' → Ranked total (place + before) height' free' w
ranked-more total place height free x w before height' free' R p =
    let a = R.sum in
    let b = p.rank_is in
    record { sum = omega arith; fits = p.fits; region = p.region }

pub ranked-end : (total place height free : ℕ) → Ranked total place height free [] → place ≡ total
unfolding rank
ranked-end total place height free R = let a = R.sum in omega arith
