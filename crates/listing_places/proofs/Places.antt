-- The word at a position by unranking and the position of a word by ranking: the listing is the words that begin with U, then those with T.
use mathlib.Core.Path.{◌≡◌, refl, sym, ap, ◌∙◌}
use mathlib.Core.Logic.{◌⊎◌, inl, inr}
use mathlib.Core.List.{List, [], ◌∷◌}
use Prim.Native.Nat.{ℕ, zero, suc, ◌+◌, ◌-◌, ◌^◌, ◌≤◌, ◌<◌}
use native.Mathlib.Omega.{arith}
use lib.ListN.{length, get_or, set, take, drop, get_or-append}
use lib.Seq.{get_or-append-add}
use Rattle.lists.specs.Ranges.{OneTo}
use Rattle.lists.proofs.Tests.{lt?}
use Rattle.lists.proofs.Lists.{rest-is}
use Rattle.words.specs.Shape.{Fits, Word}
use Rattle.words.specs.Word.{Spells}
use Rattle.words.proofs.Shape.{spells-word}
use Rattle.lists.proofs.Overwriting.{over-one}
use Rattle.listing.specs.Listing.{prefix_each, completions, listing, ways, count}
use Rattle.listing.specs.Position.{word_at, position}
use Rattle.listing.specs.Ranking.{rank}
use Rattle.listing.proofs.Completions.{length-each, completions-ways}
use Rattle.listing.proofs.Ranking.{get_or-each, unranked-at, placed}
use Rattle.listing.proofs.Positions.{at_once, position_in, at_position}
use Rattle.listing_table.proofs.Table.{ways-small}
use Rattle.listing_places_count.proofs.Count.{count-few, count-more}
use Rattle.listing_places_ways.specs.Steps.{Unranking}
use Rattle.listing_places_ways.proofs.Passing.{rank-small}

-- ---- the word at a position

at_U : (f i : ℕ) → i < ways 1 f → word_at (suc f) (suc i) ≡ 0 ∷ get_or (completions (suc f) 1 f) i []
unfolding word_at listing
at_U f i l =
    let z = completions-ways (suc f) 1 f (omega arith) in
    get_or-append (prefix_each 0 (completions (suc f) 1 f)) _ [] i (rw (length-each, z) l) ∙ get_or-each 0 i (completions (suc f) 1 f) (rw z l)

at-T : (f i : ℕ) → i < ways 3 f → word_at (suc (suc (suc f))) (suc (ways 1 (suc (suc f)) + i)) ≡ 1 ∷ get_or (completions (suc (suc (suc f))) 3 f) i []
unfolding word_at listing
at-T f i l =
    let y = length-each 0 (completions (suc (suc (suc f))) 1 (suc (suc f))) ∙ completions-ways (suc (suc (suc f))) 1 (suc (suc f)) (omega arith) in
    let z = completions-ways (suc (suc (suc f))) 3 f (omega arith) in
    rw (← y) (get_or-append-add (prefix_each 0 (completions (suc (suc (suc f))) 1 (suc (suc f)))) (prefix_each 1 (completions (suc (suc (suc f))) 3 f)) i [])
    ∙ get_or-each 1 i (completions (suc (suc (suc f))) 3 f) (rw z l)

-- the first item written: U where the place is among the words that begin with it
pub begun-U : (n p : ℕ) (a : List ℕ) → OneTo 50 n → 1 ≤ p → suc n ≤ length a → p - 1 < ways 1 (n - 1) → Unranking (word_at n p) a (set a 0 0) 1 1 (n - 1) (p - 1)
begun-U zero p a e q r l = absurd (omega arith)
begun-U (suc f) zero a e q r l = absurd (omega arith)
begun-U (suc f) (suc i) a e q r l =
    let x : suc f - 1 ≡ f = omega arith in
    let y : suc i - 1 ≡ i = omega arith in
    let b = rw (x, y) at l in
    rw (x, y) record {
      done = 0 ∷ [];
      left = suc f;
      whole = at_U f i b ∙ ap (λ (w : List ℕ). 0 ∷ w) (unranked-at (suc f) 1 f i (omega arith) b);
      next_is = refl;
      list_is = over-one [] a 0 0 refl (omega arith);
      enough = omega arith;
      room = omega arith;
      region = omega arith;
      within = b;
    }

-- otherwise T
pub T-some : (n p : ℕ) → OneTo 50 n → OneTo (count n) p → ways 1 (n - 1) ≤ p - 1 → (3 ≤ n) × (p - 1 - ways 1 (n - 1) < ways 3 (n - 3))
T-some n p e q l = go (lt? n 3)
  where
    go : (n < 3) ⊎ (3 ≤ n) → (3 ≤ n) × (p - 1 - ways 1 (n - 1) < ways 3 (n - 3))
    go (inl s) = let z = count-few n e.0 s in absurd (omega arith)
    go (inr s) = let z = count-more n s in (s, omega arith)

pub begun-T : (n p : ℕ) (a : List ℕ) → OneTo 50 n → OneTo (count n) p → suc n ≤ length a → ways 1 (n - 1) ≤ p - 1 → Unranking (word_at n p) a (set a 0 1) 1 3 (n - 3) (p - 1 - ways 1 (n - 1))
begun-T n p a e q r l = let s = T-some n p e q l in go n p e q.0 r l s.0 s.1
  where
    go : (n p : ℕ) → OneTo 50 n → 1 ≤ p → suc n ≤ length a → ways 1 (n - 1) ≤ p - 1 → 3 ≤ n → p - 1 - ways 1 (n - 1) < ways 3 (n - 3) → Unranking (word_at n p) a (set a 0 1) 1 3 (n - 3) (p - 1 - ways 1 (n - 1))
    go zero p e q r l s b = absurd (omega arith)
    go (suc zero) p e q r l s b = absurd (omega arith)
    go (suc (suc zero)) p e q r l s b = absurd (omega arith)
    go (suc (suc (suc f))) p e q r l s b =
        let x : suc (suc (suc f)) - 3 ≡ f = omega arith in
        let y : suc (suc (suc f)) - 1 ≡ suc (suc f) = omega arith in
        let l' = rw y at l in
        let b' = rw (x, y) at b in
        let z : p ≡ suc (ways 1 (suc (suc f)) + (p - 1 - ways 1 (suc (suc f)))) = omega arith in
        rw (x, y) record {
          done = 1 ∷ [];
          left = suc (suc (suc f));
          whole = ap (word_at (suc (suc (suc f)))) z ∙ at-T f (p - 1 - ways 1 (suc (suc f))) b' ∙ ap (λ (w : List ℕ). 1 ∷ w) (unranked-at (suc (suc (suc f))) 3 f (p - 1 - ways 1 (suc (suc f))) (omega arith) b');
          next_is = refl;
          list_is = over-one [] a 0 1 refl (omega arith);
          enough = omega arith;
          room = omega arith;
          region = omega arith;
          within = b';
        }

-- ---- the position of a word

-- a word stands at a position: that is its position
position-is : (n p : ℕ) (w : List ℕ) → Word n w → OneTo (count n) p → word_at n p ≡ w → position n w ≡ p
position-is n p w a e q = at_once n (position n w) p (position_in n w a) e (at_position n w a ∙ sym q)

count-U : (f : ℕ) → ways 1 f ≤ count (suc f)
count-U f = go (lt? (suc f) 3)
  where
    x : suc f - 1 ≡ f
    x = omega arith

    go : (suc f < 3) ⊎ (3 ≤ suc f) → ways 1 f ≤ count (suc f)
    go (inl s) = let z = rw x at (count-few (suc f) (omega arith) s) in omega arith
    go (inr s) = let z = rw x at (count-more (suc f) s) in omega arith

pub position-U : (f : ℕ) (w : List ℕ) → Fits 1 f w → position (suc f) (0 ∷ w) ≡ rank 1 f w + 1
position-U f w a =
    let P = placed w 1 f a in
    let z = P.lt in
    let y = count-U f in
    position-is (suc f) (suc (rank 1 f w)) (0 ∷ w) a (omega arith) (at_U f (rank 1 f w) z ∙ ap (λ (v : List ℕ). 0 ∷ v) (P.is (suc f) (omega arith))) ∙ omega arith

pub position-T : (f : ℕ) (w : List ℕ) → Fits 3 f w → position (suc (suc (suc f))) (1 ∷ w) ≡ ways 1 (suc (suc f)) + rank 3 f w + 1
position-T f w a =
    let P = placed w 3 f a in
    let z = P.lt in
    let x : suc (suc (suc f)) - 3 ≡ f = omega arith in
    let y : suc (suc (suc f)) - 1 ≡ suc (suc f) = omega arith in
    let u = rw (x, y) at (count-more (suc (suc (suc f))) (omega arith)) in
    position-is (suc (suc (suc f))) (suc (ways 1 (suc (suc f)) + rank 3 f w)) (1 ∷ w) a (omega arith) (at-T f (rank 3 f w) z ∙ ap (λ (v : List ℕ). 1 ∷ v) (P.is (suc (suc (suc f))) (omega arith))) ∙ omega arith

-- ---- a word as the code parts it: its first item, and the rest

abbrev rest : List ℕ → List ℕ
rest w = take (length w - 1) (drop 1 w)

word-U : (n : ℕ) (w : List ℕ) → Word n w → get_or w 0 0 ≡ 0 → (1 ≤ n) × Fits 1 (n - 1) (rest w) × (position n w ≡ rank 1 (n - 1) (rest w) + 1)
word-U n [] a e = absurd a
word-U zero (zero ∷ w) a e = absurd a
word-U (suc f) (zero ∷ w) a e = let x : suc f - 1 ≡ f = omega arith in rw (x, rest-is 0 w) (omega arith, a, position-U f w a)
word-U n (suc x ∷ w) a e = absurd (omega arith)

word-T : (n : ℕ) (w : List ℕ) → Word n w → ¬ (get_or w 0 0 ≡ 0) → (3 ≤ n) × Fits 3 (n - 3) (rest w) × (position n w ≡ ways 1 (n - 1) + rank 3 (n - 3) (rest w) + 1)
word-T n [] a e = absurd a
word-T n (zero ∷ w) a e = absurd (e refl)
word-T zero (suc zero ∷ w) a e = absurd a
word-T (suc zero) (suc zero ∷ w) a e = absurd a
word-T (suc (suc zero)) (suc zero ∷ w) a e = absurd a
word-T (suc (suc (suc f))) (suc zero ∷ w) a e =
    let x : suc (suc (suc f)) - 3 ≡ f = omega arith in
    let y : suc (suc (suc f)) - 1 ≡ suc (suc f) = omega arith in
    rw (x, y, rest-is 1 w) (omega arith, a, position-T f w a)
word-T n (suc (suc x) ∷ w) a e = absurd a

module _ (n : ℕ) (w : List ℕ) (S : Spells n w) (l : n ≤ 50) where
  module _ (e : get_or w 0 0 ≡ 0) where
    pub some-U : 1 ≤ n
    some-U = (word-U n w (spells-word n w S) e).0

    pub fits-U : Fits 1 (n - 1) (rest w)
    fits-U = (word-U n w (spells-word n w S) e).1

    pub sum-U : rank 1 (n - 1) (rest w) < 2 ^ 49
    sum-U = let i = some-U in rank-small 1 (n - 1) (rest w) (omega arith) fits-U

    pub place-U : position n w ≡ rank 1 (n - 1) (rest w) + 1
    place-U = (word-U n w (spells-word n w S) e).2

  module _ (e : ¬ (get_or w 0 0 ≡ 0)) where
    pub some-T : 3 ≤ n
    some-T = (word-T n w (spells-word n w S) e).0

    pub fits-T : Fits 3 (n - 3) (rest w)
    fits-T = (word-T n w (spells-word n w S) e).1

    pub sum-T : ways 1 (n - 1) + rank 3 (n - 3) (rest w) < 2 ^ 50
    sum-T =
        let i = some-T in
        let x = rank-small 3 (n - 3) (rest w) (omega arith) fits-T in
        let y = ways-small 1 (n - 1) (omega arith) in
        omega arith

    pub place-T : position n w ≡ ways 1 (n - 1) + rank 3 (n - 3) (rest w) + 1
    place-T = (word-T n w (spells-word n w S) e).2
