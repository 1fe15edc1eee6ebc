-- Kept count counts classes: the positions of the kept diagrams, of which each class has exactly one.
use mathlib.Core.Path.{◌≡◌, refl, sym, ap, ◌∙◌}
use mathlib.Core.Logic.{◌≢◌, ◌⊎◌, inl, inr}
use mathlib.Core.Bool.{Bool, true, false, true≢false, cond}
use mathlib.Core.List.{List, [], ◌∷◌}
use Prim.Native.Nat.{ℕ, zero, suc, ◌+◌, ◌≤◌}
use native.Mathlib.Omega.{arith}
use lib.ListN.{length}
use Rattle.std.specs.Prelude.{true, Ok}
use Rattle.lists.specs.Lists.{Has, Distinct}
use Rattle.lists.specs.Ranges.{OneTo}
use Rattle.lists.proofs.Tests.{same?}
use Rattle.lists.proofs.Lists.{pigeons}
use Rattle.diagrams.specs.Check.{Accepts}
use Rattle.diagrams.proofs.Checks.{accepts-diagram}
use Rattle.diagrams.proofs.Isomorphisms.{isomorphic-sym}
use Rattle.words.specs.Word.{Pair}
use Rattle.words.proofs.Order.{same_self, same_true}
use Rattle.labelling.specs.Labelling.{word_of}
use Rattle.labelling.specs.Rootings.{least_word, Kept}
use Rattle.labelling.proofs.Rootings.{kept-least, least_kept}
use Rattle.listing.specs.Listing.{count}
use Rattle.listing.specs.Diagrams.{diagram_at}
use Rattle.listing.proofs.InPlace.{at_size, at-accepted}
use Rattle.census_definition.specs.Census.{is_kept_word, kept_among, kept_count}
use Rattle.theorems.specs.KeepMark.{KeptAnswers, AtPosition}
use Rattle.theorems.specs.KeptCount.{InOne, Representatives, CountedClasses, KeptCountHolds}
use Rattle.theorems.proofs.KeepMark.{keep-mark-holds}

-- ---- the numbers that pass a test

module _ (t : ℕ → Bool) where
  -- those of 1..k, the largest first
  abbrev passing : ℕ → List ℕ
  passing zero = []
  passing (suc k) = cond (t (suc k)) (suc k ∷ passing k) (passing k)

  has-passing : (k x : ℕ) → Has x (passing k) → OneTo k x × (t x ≡ true)
  has-passing zero x h = absurd h
  has-passing (suc k) x h = go (t (suc k)) refl (has-passing k x) h
    where
      go : (b : Bool) → t (suc k) ≡ b → (Has x (passing k) → OneTo k x × (t x ≡ true)) → Has x (cond b (suc k ∷ passing k) (passing k)) → OneTo (suc k) x × (t x ≡ true)
      go true q r (inl e) = (omega arith, rw e q)
      go true q r (inr i) = let o = r i in let l = o.0 in (omega arith, o.1)
      go false q r i = let o = r i in let l = o.0 in (omega arith, o.1)

  passing-has : (k x : ℕ) → OneTo k x → t x ≡ true → Has x (passing k)
  passing-has zero x l e = absurd (omega arith)
  passing-has (suc k) x l e = go (t (suc k)) refl (same? x (suc k)) (λ i. passing-has k x i e)
    where
      go : (b : Bool) → t (suc k) ≡ b → (x ≡ suc k) ⊎ (x ≢ suc k) → (OneTo k x → Has x (passing k)) → Has x (cond b (suc k ∷ passing k) (passing k))
      go true q (inl p) r = inl p
      go true q (inr d) r = inr (r (omega arith))
      go false q (inl p) r = absurd (true≢false (sym e ∙ ap t p ∙ q))
      go false q (inr d) r = r (omega arith)

  passing-distinct : (k : ℕ) → Distinct (passing k)
  passing-distinct zero = tt
  passing-distinct (suc k) = go (t (suc k)) (passing-distinct k)
    where
      go : (b : Bool) → Distinct (passing k) → Distinct (cond b (suc k ∷ passing k) (passing k))
      go true d = (λ h. let o = (has-passing k (suc k) h).0 in omega arith, d)
      go false d = d

-- ---- the positions of the kept diagrams

kept-true : (D : Pair) → 1 ≤ length D.black → Kept D.black D.white 1 → is_kept_word D ≡ true
unfolding is_kept_word
kept-true D h k = rw (← kept-least D.black D.white 1 (omega arith) k) (same_self (word_of D.black D.white 1))

true-kept : (D : Pair) → 1 ≤ length D.black → is_kept_word D ≡ true → Kept D.black D.white 1
unfolding is_kept_word
true-kept D h e = least_kept D.black D.white 1 (omega arith) (same_true (word_of D.black D.white 1) (least_word D.black D.white) e)

abbrev kept_at : ℕ → ℕ → Bool
kept_at n p = is_kept_word (diagram_at n p)

abbrev kept_positions : ℕ → ℕ → List ℕ
kept_positions n = passing (kept_at n)

kept-many : (n k : ℕ) → length (kept_positions n k) ≡ kept_among n 0 k
unfolding kept_among
kept-many n zero = refl
kept-many n (suc k) = let e : 0 + k ≡ k = omega arith in rw e (go (is_kept_word (diagram_at n (suc k))) (kept-many n k))
  where
    go : (b : Bool) → length (kept_positions n k) ≡ kept_among n 0 k → length (cond b (suc k ∷ kept_positions n k) (kept_positions n k)) ≡ kept_among n 0 k + cond b 1 0
    go true q = omega arith
    go false q = omega arith

-- ---- the classes of a size

module _ (n : ℕ) (N : OneTo 50 n) where
  accepted : (p : ℕ) → OneTo (count n) p → Accepts (diagram_at n p).black (diagram_at n p).white 1
  accepted p e = at-accepted n p e (omega arith)

  some : (p : ℕ) → OneTo (count n) p → 1 ≤ length (diagram_at n p).black
  some p e = (accepted p e).size.0

  marked : (p : ℕ) → Has p (kept_positions n (count n)) → KeptAnswers n p (Ok true)
  marked p h = let o = has-passing (kept_at n) (count n) p h in (accepted p o.0, true-kept (diagram_at n p) (some p o.0) o.1)

  all_marked : (p : ℕ) → OneTo (count n) p → KeptAnswers n p (Ok true) → Has p (kept_positions n (count n))
  all_marked p e M = passing-has (kept_at n) (count n) p e (kept-true (diagram_at n p) (some p e) M.1)

  in_one : (s0 s1 : List ℕ) (root : ℕ) → Accepts s0 s1 root → length s0 ≡ n → InOne n s0 s1 (kept_positions n (count n))
  in_one s0 s1 root A l =
      let M = keep-mark-holds n N s0 s1 root A l in
      record { position = M.position; among = all_marked M.position M.in_class.0 M.yes; in_class = M.in_class; only = λ q h x. M.only q x (marked q h) }

  -- ---- however the representatives are chosen, there are as many

  module _ {ps qs : List ℕ} (A : Representatives n ps) (B : Representatives n qs) where
    -- the second list's representative of a diagram's class, and those of all diagrams of a list
    other : (a : ℕ) → OneTo (count n) a → InOne n (diagram_at n a).black (diagram_at n a).white qs
    other a e = B.each_class (diagram_at n a).black (diagram_at n a).white 1 (accepted a e) (at_size n a e)

    abbrev others : (l : List ℕ) → ((p : ℕ) → Has p l → OneTo (count n) p) → List ℕ
    others [] h = []
    others (a ∷ l) h = (other a (h a (inl refl))).position ∷ others l (λ p i. h p (inr i))

    others-length : (l : List ℕ) (h : (p : ℕ) → Has p l → OneTo (count n) p) → length (others l h) ≡ length l
    others-length [] h = refl
    others-length (a ∷ l) h = ap suc (others-length l (λ p i. h p (inr i)))

    others-among : (l : List ℕ) (h : (p : ℕ) → Has p l → OneTo (count n) p) (x : ℕ) → Has x (others l h) → Has x qs
    others-among [] h x i = absurd i
    others-among (a ∷ l) h x (inl e) = rw e (other a (h a (inl refl))).among
    others-among (a ∷ l) h x (inr i) = others-among l (λ p j. h p (inr j)) x i

    others-from : (l : List ℕ) (h : (p : ℕ) → Has p l → OneTo (count n) p) (x : ℕ) → Has x (others l h) → (b : ℕ) × Has b l × ((f : OneTo (count n) b) × (x ≡ (other b f).position))
    others-from [] h x i = absurd i
    others-from (a ∷ l) h x (inl e) = (a, inl refl, (h a (inl refl), e))
    others-from (a ∷ l) h x (inr i) = let r = others-from l (λ p j. h p (inr j)) x i in (r.0, inr r.1, r.2)

    back : (a : ℕ) (e : OneTo (count n) a) (x : ℕ) → x ≡ (other a e).position → AtPosition n (diagram_at n x).black (diagram_at n x).white a
    back a e x q = (e, rw q (isomorphic-sym (accepts-diagram _ _ 1 (accepted a e)).maps (other a e).in_class.1))

    -- diagrams of the first list with the same representative in the second are the same
    same-other : (a b : ℕ) (e : OneTo (count n) a) (f : OneTo (count n) b) → Has a ps → Has b ps → (other a e).position ≡ (other b f).position → a ≡ b
    same-other a b e f i j q =
        let x = (other a e).position in
        let l = (other a e).in_class.0 in
        let I = A.each_class (diagram_at n x).black (diagram_at n x).white 1 (accepted x l) (at_size n x l) in
        I.only a i (back a e x refl) ∙ sym (I.only b j (back b f x q))

    others-distinct : (l : List ℕ) (h : (p : ℕ) → Has p l → OneTo (count n) p) → ((p : ℕ) → Has p l → Has p ps) → Distinct l → Distinct (others l h)
    others-distinct [] h g d = tt
    others-distinct (a ∷ l) h g d = (
      λ i.
          let r = others-from l (λ p j. h p (inr j)) _ i in
          d.0 (rw (same-other a r.0 (h a (inl refl)) r.2.0 (g a (inl refl)) (g r.0 (inr r.1)) r.2.1) r.1),
      others-distinct l (λ p j. h p (inr j)) (λ p j. g p (inr j)) d.1,
    )

    no_more : length ps ≤ length qs
    no_more = rw others-length at (pigeons (others ps A.listed) qs (others-distinct ps A.listed (λ p i. i) A.distinct) (others-among ps A.listed))

  as-many-each : {ps qs : List ℕ} → Representatives n ps → Representatives n qs → length ps ≡ length qs
  as-many-each A B = let i = no_more A B in let j = no_more B A in omega arith

  kept-representatives : Representatives n (kept_positions n (count n))
  kept-representatives = record { distinct = passing-distinct (kept_at n) (count n); listed = λ p h. (has-passing (kept_at n) (count n) p h).0; each_class = in_one }

  counted-classes : (c : ℕ) → c ≡ kept_count n → CountedClasses n c
  counted-classes c e = record {
    kept_positions = kept_positions n (count n);
    as_many = kept-many n (count n) ∙ sym e;
    representatives = kept-representatives;
    however_chosen = λ qs R. as-many-each R kept-representatives ∙ kept-many n (count n) ∙ sym e;
    marked = marked;
    all_marked = all_marked;
  }

pub kept-count-holds : KeptCountHolds
kept-count-holds n c (N, e) = counted-classes n N c e
