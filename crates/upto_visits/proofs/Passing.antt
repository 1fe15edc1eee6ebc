-- Counting visits: the branches met before what comes after an item, one law for each event; and none of these sums grows large.
use mathlib.Core.Path.{◌≡◌, refl}
use mathlib.Core.List.{List, [], ◌∷◌}
use Prim.Native.Nat.{ℕ, zero, suc, ◌+◌, ◌*◌, ◌-◌, ◌^◌, ◌≤◌, ◌<◌}
use native.Mathlib.Omega.{arith}
use Rattle.upto_words.specs.Within.{FitsWithin}
use Rattle.upto_weights.specs.Weights.{weight, weight_f, weight_b, passed}
use Rattle.upto_weights.proofs.Passing.{passed-most}
use Rattle.upto_table.proofs.Table.{branches-small}
use Rattle.upto_visits.specs.Steps.{PassedBranches}

-- ---- what comes after F, and after B

pub weight_f-few : (h f : ℕ) → f < 3 → weight_f 0 1 h f ≡ 0
unfolding weight_f
weight_f-few h zero l = refl
weight_f-few h (suc zero) l = refl
weight_f-few h (suc (suc zero)) l = refl
weight_f-few h (suc (suc (suc f))) l = absurd (omega arith)

pub weight_f-more : (h f : ℕ) → 3 ≤ f → weight_f 0 1 h f ≡ weight 0 1 (h + 2) (f - 3)
unfolding weight_f
weight_f-more h zero l = absurd (omega arith)
weight_f-more h (suc zero) l = absurd (omega arith)
weight_f-more h (suc (suc zero)) l = absurd (omega arith)
weight_f-more h (suc (suc (suc f))) l =
    let a : h + 2 ≡ suc (suc h) = omega arith in
    let b : suc (suc (suc f)) - 3 ≡ f = omega arith in
    rw (a, b)

pub weight_b-few : (h f : ℕ) → f < 1 → weight_b 0 1 h f ≡ 0
unfolding weight_b
weight_b-few h zero l = refl
weight_b-few h (suc f) l = absurd (omega arith)

pub weight_b-more : (h f : ℕ) → 1 ≤ f → weight_b 0 1 h f ≡ weight 0 1 h (f - 1)
unfolding weight_b
weight_b-more h zero l = absurd (omega arith)
weight_b-more h (suc f) l = let b : suc f - 1 ≡ f = omega arith in rw b

-- ---- items

pub height-some : (height f x : ℕ) (w : List ℕ) → FitsWithin height f (x ∷ w) → 1 ≤ height
height-some zero f x w a = absurd a
height-some (suc h) f x w a = omega arith

pub passed-small : (height f : ℕ) (w : List ℕ) → 3 * height + f ≤ 56 → FitsWithin height f w → passed 0 1 height f w < 2 ^ 50
passed-small height f w r a = let x = passed-most 0 1 w height f a in let y = branches-small height f r in omega arith

module _ (height h f : ℕ) (w : List ℕ) (e : height ≡ suc h) (r : 3 * height + f ≤ 56) where
  pub passed-W : FitsWithin height f (0 ∷ w) → PassedBranches height f 0 w 1 h f
  unfolding passed
  passed-W a = rw e record { passed_is = refl; fits = rw e at a; region = omega arith }

  pub free-F : FitsWithin height f (1 ∷ w) → 3 ≤ f
  free-F a = go f (rw e at a)
    where
      go : (f : ℕ) → FitsWithin (suc h) f (1 ∷ w) → 3 ≤ f
      go zero a = absurd a
      go (suc zero) a = absurd a
      go (suc (suc zero)) a = absurd a
      go (suc (suc (suc f))) a = omega arith

  pub passed-F : FitsWithin height f (1 ∷ w) → PassedBranches height f 1 w (1 + weight 0 1 h f) (h + 2) (f - 3)
  unfolding passed
  passed-F a = let z : h + 2 ≡ suc (suc h) = omega arith in rw (e, z) (go f r (rw e at a))
    where
      go : (f : ℕ) → 3 * height + f ≤ 56 → FitsWithin (suc h) f (1 ∷ w) → PassedBranches (suc h) f 1 w (1 + weight 0 1 h f) (suc (suc h)) (f - 3)
      go zero r a = absurd a
      go (suc zero) r a = absurd a
      go (suc (suc zero)) r a = absurd a
      go (suc (suc (suc g))) r a = let y : suc (suc (suc g)) - 3 ≡ g = omega arith in rw y record { passed_is = omega arith; fits = a; region = omega arith }

  pub free-B : FitsWithin height f (2 ∷ w) → 1 ≤ f
  free-B a = go f (rw e at a)
    where
      go : (f : ℕ) → FitsWithin (suc h) f (2 ∷ w) → 1 ≤ f
      go zero a = absurd a
      go (suc f) a = omega arith

  pub passed-B : FitsWithin height f (2 ∷ w) → PassedBranches height f 2 w (1 + weight 0 1 h f + weight_f 0 1 h f) h (f - 1)
  unfolding passed
  passed-B a = rw e (go f r (rw e at a))
    where
      go : (f : ℕ) → 3 * height + f ≤ 56 → FitsWithin (suc h) f (2 ∷ w) → PassedBranches (suc h) f 2 w (1 + weight 0 1 h f + weight_f 0 1 h f) h (f - 1)
      go zero r a = absurd a
      go (suc g) r a = let y : suc g - 1 ≡ g = omega arith in rw y record { passed_is = omega arith; fits = a; region = omega arith }

  pub sum-B : FitsWithin height f (2 ∷ w) → 1 + weight 0 1 h f + weight_f 0 1 h f < 2 ^ 50
  sum-B a = let x = (passed-B a).passed_is in let y = passed-small height f (2 ∷ w) r a in omega arith

pub passed-J : (h f d : ℕ) (w : List ℕ) → 3 * h + f ≤ 53 → FitsWithin (suc h) f (suc (suc (suc d)) ∷ w)
    → PassedBranches (suc h) f (suc (suc (suc d))) w (1 + weight 0 1 h f + weight_f 0 1 h f + weight_b 0 1 h f + d * weight 0 1 (h - 1) f) (h - 1) f
unfolding passed
passed-J zero f d w r a = absurd (let i = a.0 in omega arith)
passed-J (suc h) f d w r a = let y : suc h - 1 ≡ h = omega arith in rw y record { passed_is = omega arith; fits = a.1; region = omega arith }

pub sum-J : (h f d : ℕ) (w : List ℕ) → 3 * h + f ≤ 53 → FitsWithin (suc h) f (suc (suc (suc d)) ∷ w) → 1 + weight 0 1 h f + weight_f 0 1 h f + weight_b 0 1 h f + d * weight 0 1 (h - 1) f < 2 ^ 50
sum-J h f d w r a = let x = (passed-J h f d w r a).passed_is in let y = passed-small (suc h) f (suc (suc (suc d)) ∷ w) (omega arith) a in omega arith

-- the same at a height and an item as the code has them
module _ (height h f x d : ℕ) (w : List ℕ) (e : height ≡ suc h) (q : x ≡ suc (suc (suc d))) where
  pub item-J : FitsWithin height f (x ∷ w) → FitsWithin (suc h) f (suc (suc (suc d)) ∷ w)
  item-J a = rw (e, q) at a

  pub from-J : (before height' free' : ℕ) → PassedBranches (suc h) f (suc (suc (suc d))) w before height' free' → PassedBranches height f x w before height' free'
  from-J before height' free' p = rw (e, q) p

-- ---- along a word: `visits` branches are met before what comes with the items w
pub record Visited (total visits height free : ℕ) (w : List ℕ) : Type 0 where
  pub sum : total ≡ visits + passed 0 1 height free w
  pub fits : FitsWithin height free w
  pub region : 3 * height + free ≤ 56

pub visited-more : (total visits height free x : ℕ) (w : List ℕ) (before height' free' : ℕ) → Visited total visits height free (x ∷ w) → PassedBranches height free x w before height' free' → Visited total (visits + before) height' free' w
visited-more total visits height free x w before height' free' v p =
    let a = v.sum in
    let b = p.passed_is in
    record { sum = omega arith; fits = p.fits; region = p.region }

pub visited-end : (total visits height free : ℕ) → Visited total visits height free [] → visits ≡ total
unfolding passed
visited-end total visits height free v = let a = v.sum in omega arith
