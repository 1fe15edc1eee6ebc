-- The steps of the walk over plain variables: a word that ends, a dead end, and one more event of a branching.
use mathlib.Core.Path.{◌≡◌, refl, sym, ap, ◌∙◌}
use mathlib.Core.Logic.{◌≢◌}
use mathlib.Core.List.{List, [], ◌∷◌, ◌++◌}
use Prim.Native.Nat.{ℕ, zero, suc, ◌+◌, ◌-◌, ◌≤◌, ◌<◌}
use native.Mathlib.Nat.{add-zero, zero-add, suc-add}
use native.Mathlib.Numerals.{add-one}
use native.Mathlib.Omega.{arith}
use lib.ListN.{length, set, take, length-append, length-set}
use lib.Seq.{take-set-le, take-suc-set, take-take, length-take-le}
use Rattle.lists.specs.Overwriting.{overwrite_from}
use Rattle.lists.proofs.Overwriting.{from-none, from-from}
use Rattle.listing.specs.Listing.{prefix_each}
use Rattle.listing_plain_walk.specs.Walk.{all_completions, completions_after, concatenated_behind, LeadsTo, WalkRoom, WalkAdded}
use Rattle.listing_plain_walk_events.proofs.Rest.{rest_end, rest-dead, begun, begun_all}
use Rattle.listing_plain_walk.proofs.Texts.{text-append, text-each, text-none, text-one}

-- ---- end or pop

-- at an end the text is the word so far
text-end : (p : List ℕ) → concatenated_behind p (all_completions 0 0) ≡ p
text-end p = rw rest_end (text-one p)

pub ending : (out : List ℕ) (i : ℕ) (word : List ℕ) (len : ℕ) → WalkRoom out i word len 0 0 → (i + len ≤ length out) × (len ≤ length word)
ending out i word len R =
    let l : len ≤ length word = omega (arith, R.places) in
    (rw (text-end (take len word), length-take-le len word l) at R.room, l)

pub ended : (out : List ℕ) (i : ℕ) (word : List ℕ) (len : ℕ) (out' : List ℕ) (j : ℕ) → len ≤ length word
    → (j ≡ i + len) × (out' ≡ overwrite_from i (take len word) out) → WalkAdded out i word len 0 0 out' word j
ended out i word len out' j l k = record { up_to = rw (text-end (take len word), length-take-le len word l) k.0; written = rw (text-end (take len word)) k.1; word_same = refl }

pub dead : (out : List ℕ) (i : ℕ) (word : List ℕ) (len f : ℕ) → f ≢ 0 → WalkAdded out i word len 0 f out word i
dead out i word len f n =
    let e : concatenated_behind (take len word) (all_completions 0 f) ≡ [] = rw (rest-dead f n) (text-none (take len word)) in
    record { up_to = rw e (sym (add-zero i)); written = rw e (sym (from-none i out)); word_same = refl }

-- ---- branch

-- the loop over the events: those below e are done with
pub record Branched (out₀ : List ℕ) (i : ℕ) (word₀ : List ℕ) (len h f : ℕ) (out word : List ℕ) (j e : ℕ) : Type 0 where
  pub out_long : length out ≡ length out₀
  pub word_long : length word ≡ length word₀
  pub word_same : take len word ≡ take len word₀
  pub up_to : j ≡ i + length (concatenated_behind (take len word₀) (begun e h f))
  pub written : out ≡ overwrite_from i (concatenated_behind (take len word₀) (begun e h f)) out₀

pub branched-none : (out : List ℕ) (i : ℕ) (word : List ℕ) (len h f : ℕ) → Branched out i word len h f out word i 0
unfolding begun
branched-none out i word len h f =
    let e : concatenated_behind (take len word) [] ≡ [] = text-none (take len word) in
    record { out_long = refl; word_long = refl; word_same = refl; up_to = rw e (sym (add-zero i)); written = rw e (sym (from-none i out)) }

pub branched-all : (out₀ : List ℕ) (i : ℕ) (word₀ : List ℕ) (len h f : ℕ) (out word : List ℕ) (j : ℕ) → Branched out₀ i word₀ len h f out word j (h + 3) → WalkAdded out₀ i word₀ len (suc h) f out word j
branched-all out₀ i word₀ len h f out word j B = record { up_to = rw begun_all at B.up_to; written = rw begun_all at B.written; word_same = B.word_same }

begun-suc : (p : List ℕ) (h f e : ℕ) → concatenated_behind p (begun (suc e) h f) ≡ concatenated_behind p (begun e h f) ++ concatenated_behind (p ++ (e ∷ [])) (completions_after e h f)
unfolding begun
begun-suc p h f e = text-append p (begun e h f) (prefix_each e (completions_after e h f)) ∙ ap (λ (t : List ℕ). concatenated_behind p (begun e h f) ++ t) (text-each p e (completions_after e h f))

-- the text of more events is no shorter
begun-le : (p : List ℕ) (h f e k : ℕ) → length (concatenated_behind p (begun e h f)) ≤ length (concatenated_behind p (begun (k + e) h f))
begun-le p h f e zero = rw zero-add (omega arith)
begun-le p h f e (suc k) =
    let i = begun-le p h f e k in
    rw (suc-add, begun-suc p h f (k + e), length-append) (omega arith)

-- what is the same up to one item more is the same
take_less : (l : ℕ) (a b : List ℕ) → take (l + 1) a ≡ take (l + 1) b → take l a ≡ take l b
take_less l a b e = sym (take-take l (l + 1) a (omega arith)) ∙ ap (λ (t : List ℕ). take l t) e ∙ take-take l (l + 1) b (omega arith)

module _ (out₀ : List ℕ) (i : ℕ) (word₀ : List ℕ) (len h f : ℕ) (out word : List ℕ) (j e h' f' : ℕ) (B : Branched out₀ i word₀ len h f out word j e) (R : WalkRoom out₀ i word₀ len (suc h) f) (l : e < h + 3) (L : LeadsTo e h f h' f') where
  -- the word so far, with e
  next : take (len + 1) (set word len e) ≡ take len word₀ ++ (e ∷ [])
  next = rw add-one (take-suc-set word len e (omega (arith, R.places, B.word_long)) ∙ ap (λ (t : List ℕ). t ++ (e ∷ [])) B.word_same)

  grown : concatenated_behind (take len word₀) (begun (e + 1) h f) ≡ concatenated_behind (take len word₀) (begun e h f) ++ concatenated_behind (take (len + 1) (set word len e)) (all_completions h' f')
  grown = rw (add-one e, next, L.same) (begun-suc (take len word₀) h f e)

  longer : length (concatenated_behind (take len word₀) (begun (e + 1) h f)) ≡ length (concatenated_behind (take len word₀) (begun e h f)) + length (concatenated_behind (take (len + 1) (set word len e)) (all_completions h' f'))
  longer = ap length grown ∙ length-append (concatenated_behind (take len word₀) (begun e h f)) (concatenated_behind (take (len + 1) (set word len e)) (all_completions h' f'))

  fits : i + length (concatenated_behind (take len word₀) (begun (e + 1) h f)) ≤ length out₀
  fits =
      let a = begun-le (take len word₀) h f (e + 1) (h + 2 - e) in
      let b : (h + 2 - e) + (e + 1) ≡ h + 3 = omega arith in
      let c = rw (b, begun_all h f) at a in
      omega (arith, R.room)

  pub branched-room : WalkRoom out j (set word len e) (len + 1) h' f'
  branched-room =
      let a = length-set word len e in
      let b = longer in
      let c = fits in
      record { places = omega (arith, R.places, B.word_long, L.falls); short = omega (arith, R.short, B.word_long); room = omega (arith, B.up_to, B.out_long) }

  pub branched-more : (out' word' : List ℕ) (j' : ℕ) → length out' ≡ length out → length word' ≡ length (set word len e)
      → WalkAdded out j (set word len e) (len + 1) h' f' out' word' j' → Branched out₀ i word₀ len h f out' word' j' (e + 1)
  branched-more out' word' j' a b A = record {
    out_long = a ∙ B.out_long;
    word_long = b ∙ length-set word len e ∙ B.word_long;
    word_same = take_less len word' (set word len e) A.word_same ∙ take-set-le len word len e (omega arith) ∙ B.word_same;
    up_to = omega (arith, A.up_to, B.up_to, longer);
    written = A.written ∙ rw (B.written, B.up_to, grown) (from-from i (concatenated_behind (take len word₀) (begun e h f)) out₀ (let b = longer in let c = fits in omega arith) (concatenated_behind (take (len + 1) (set word len e)) (all_completions h' f')));
  }
