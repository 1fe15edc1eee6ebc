-- The single list by its successor: the word that follows, the visits at each word, and how many there are of both.
use mathlib.Core.Path.{◌≡◌, refl, sym, ap, ◌∙◌}
use mathlib.Core.Logic.{◌≢◌, ◌⊎◌, inl, inr}
use mathlib.Core.List.{List, [], ◌∷◌}
use Prim.Native.Nat.{ℕ, zero, suc, ◌+◌, ◌*◌, ◌-◌, ◌≤◌, ◌<◌}
use native.Mathlib.Omega.{arith}
use native.Mathlib.Nat.{mul-suc, mul-add}
use lib.ListN.{length}
use Rattle.lists.specs.Ranges.{OneTo}
use Rattle.upto.specs.Upto.{total, word_upto}
use Rattle.upto.specs.Visits.{visits}
use Rattle.upto_words.specs.Within.{WordWithin}
use Rattle.upto_words.specs.Successor.{following, following_shared}
use Rattle.upto_weights.specs.Weights.{passed_word, whole_weight}
use Rattle.upto.proofs.Upto.{at-upto, upto_next, upto-last}
use Rattle.upto.proofs.Visits.{visits-0, visits-next}
use Rattle.upto_words.proofs.Within.{within_word}
use Rattle.upto_words.proofs.Follows.{Follows, follows, follows-none}
use Rattle.upto_weights.proofs.Passing.{word-last, word_next}
use Rattle.upto_weights.proofs.Bound.{visits-bound}

empty? : (w : List ℕ) → (w ≡ []) ⊎ (w ≢ [])
empty? [] = inl refl
empty? (x ∷ w) = inr (λ e. let z : ◌≡◌ {A = ℕ} (suc (length w)) 0 = ap length e in absurd (omega arith))

-- the word at place p, [] before the first
pub at-within : (n p : ℕ) → OneTo (total n) p → WordWithin n (word_upto n p)
at-within n p l = (within_word n (word_upto n p)).1 (at-upto n p l)

module _ (n : ℕ) (one : 1 ≤ n) where
  pub at-start : (p : ℕ) → p ≤ total n → (word_upto n p ≡ []) ⊎ WordWithin n (word_upto n p)
  unfolding word_upto
  at-start zero l = inl refl
  at-start (suc p) l = inr (at-within n (suc p) (omega arith, l))

  follow : (p : ℕ) → p ≤ total n → following n (word_upto n p) ≢ [] → Follows n (word_upto n p) (following n (word_upto n p)) (following_shared n (word_upto n p))
  follow p l z = follows n (word_upto n p) one (at-start p l) z

  pub some_after : (p : ℕ) → p ≤ total n → following n (word_upto n p) ≢ [] → (p < total n) × (word_upto n (suc p) ≡ following n (word_upto n p))
  some_after p l z =
      let F = follow p l z in
      upto_next n p (following n (word_upto n p)) l ((within_word n (following n (word_upto n p))).0 F.fits) F.later (λ v L b. F.next v ((within_word n v).1 L) b)

  pub none_after : (p : ℕ) → p ≤ total n → following n (word_upto n p) ≡ [] → p ≡ total n
  unfolding word_upto following
  none_after zero l e = let z : ◌≡◌ {A = ℕ} 2 0 = ap length e in absurd (omega arith)
  none_after (suc p) l e = upto-last n (suc p) (omega arith, l) (λ v L. follows-none n _ (at-within n (suc p) (omega arith, l)) e v ((within_word n v).1 L))

  -- a word follows exactly if it is not the last
  more : (p : ℕ) → p < total n → following n (word_upto n p) ≢ []
  more p l e = let z = none_after p (omega arith) e in omega arith

  pub next-upto : (p : ℕ) → p < total n → word_upto n (suc p) ≡ following n (word_upto n p)
  next-upto p l = (some_after p (omega arith) (more p l)).1

  pub last-upto : following n (word_upto n (total n)) ≡ []
  last-upto = go (empty? (following n (word_upto n (total n))))
    where
      go : (following n (word_upto n (total n)) ≡ []) ⊎ (following n (word_upto n (total n)) ≢ []) → following n (word_upto n (total n)) ≡ []
      go (inl e) = e
      go (inr z) = let i = (some_after (total n) (omega arith) z).0 in absurd (omega arith)

  first : following n (word_upto n 0) ≢ []
  unfolding word_upto following
  first e = let z : ◌≡◌ {A = ℕ} 2 0 = ap length e in absurd (omega arith)

  -- there is a first word
  pub some_word : 1 ≤ total n
  some_word = (some_after 0 (omega arith) first).0

  -- what it shares is less than all of it
  pub shared-less : (p : ℕ) → p < total n → following_shared n (word_upto n p) < length (following n (word_upto n p))
  shared-less p l = (follow p (omega arith) (more p l)).longer

  -- each word adds the branches that it has beyond what it shares with the one before
  pub visits-grow : (p : ℕ) → p < total n → visits n (suc p) ≡ visits n p + (length (following n (word_upto n p)) - suc (following_shared n (word_upto n p)))
  visits-grow p l =
      let F = follow p (omega arith) (more p l) in
      let e = next-upto p l in
      rw e at (visits-next n p (following_shared n (word_upto n p)) l F.at_place (rw (← e) at F.shared) (rw (← e) at F.longer) (rw (← e) at F.after))

  -- what has been passed at a word: it and the words before it, and the visits
  pub counted : (a b p : ℕ) → p ≤ total n → passed_word a b n (word_upto n p) ≡ a * p + b * visits n p
  unfolding passed_word word_upto
  counted a b zero l = rw (visits-0 n) (omega arith)
  counted a b (suc p) l =
      let x = length (following n (word_upto n p)) - suc (following_shared n (word_upto n p)) in
      ap (passed_word a b n) (next-upto p l) ∙ word_next a b n (word_upto n p) one (at-start p (omega arith)) (more p l)
      ∙ ap (λ (y : ℕ). y + (a + b * x)) (counted a b p (omega arith))
      ∙ adds (visits n p) x
      ∙ ap (λ (v : ℕ). a * suc p + b * v) (sym (visits-grow p l))
    where
      adds : (v x : ℕ) → (a * p + b * v) + (a + b * x) ≡ a * suc p + b * (v + x)
      adds v x = rw (mul-suc a p, mul-add b v x) (omega arith)

  -- the visits at a word, by what has been passed
  pub visits-passed : (p : ℕ) → p ≤ total n → visits n p ≡ passed_word 0 1 n (word_upto n p)
  visits-passed p l = let e = counted 0 1 p l in omega arith

  last_within : WordWithin n (word_upto n (total n))
  last_within = at-within n (total n) (some_word, omega arith)

  pub all-visits : visits n (total n) ≡ whole_weight 0 1 n
  all-visits = visits-passed (total n) (omega arith) ∙ word-last 0 1 n _ last_within last-upto

  pub all_words : total n ≡ whole_weight 1 0 n
  all_words = let e = counted 1 0 (total n) (omega arith) in let f = word-last 1 0 n _ last_within last-upto in omega arith

  -- at the end of a run the visits are at most 2 · diagrams - 1
  pub visits-most : visits n (total n) + 1 ≤ 2 * total n
  visits-most = let b = visits-bound n one in rw (all-visits, all_words) b
