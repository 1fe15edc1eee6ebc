-- Drawing goes on by one item, and ends where no label is pending. That the height by which unranking chooses is that of the stack need not be
-- carried along: the items to come tell it.
use mathlib.Core.Path.{◌≡◌, refl, sym, ap, ◌∙◌}
use mathlib.Core.Option.{some}
use mathlib.Core.List.{List, [], ◌∷◌, ◌++◌}
use Prim.Native.Nat.{ℕ, zero, suc, ◌+◌, ◌-◌, ◌≤◌, ◌<◌}
use native.Mathlib.Omega.{arith}
use lib.Dec.{ltb}
use lib.ListN.{length, get_or, drop, set}
use lib.Seq.{drop_at, drop-append-add, drop-length, get_or-set_same}
use Rattle.lists.specs.Lists.{put, remove_at}
use Rattle.lists.specs.Ranges.{OneTo}
use Rattle.lists.proofs.Lists.{length-remove_at, all-at}
use Rattle.lists.proofs.Tests.{ltb-true}
use Rattle.words.specs.Shape.{Fits}
use Rattle.words.specs.Word.{Pair, spells, spell}
use Rattle.words.specs.Outputs.{overwrite, Short, Written}
use Rattle.words.proofs.Outputs.{long_enough}
use Rattle.words.proofs.Growing.{none≢some, cond-some}
use Rattle.words_spelling_events.specs.States.{state_after, first_state}
use Rattle.words_spelling_events.specs.Spelling.{SpellingRoom, SpellingState}
use Rattle.words_spelling.proofs.Laws.{midway_end}
use Rattle.listing.specs.Listing.{ways, completions, count}
use Rattle.listing.specs.Position.{word_at}
use Rattle.listing.specs.Diagrams.{diagram_at}
use Rattle.listing.proofs.InPlace.{at-spells, at_size}
use Rattle.listing.specs.Ranking.{unrank}
use Rattle.listing.proofs.Completions.{completions-fit, completions-ways}
use Rattle.listing.proofs.Ranking.{unranked-at}
use Rattle.listing_places_ways.specs.Steps.{Chosen, Unranking}
use Rattle.listing_places_ways.proofs.Choices.{unranking-more, unranking-end}
use Rattle.listing_places.proofs.Places.{begun-U, begun-T}
use Rattle.listing_unranking.specs.Drawing.{Rooted, Drawing}

-- items that finish a diagram from a stack, and that fit a height, fit the stack's own
same-height : (w st s0 s1 : List ℕ) (D : Pair) (h f : ℕ) → spells w st s0 s1 ≡ some D → Fits h f w → h ≡ length st
unfolding spells
same-height [] [] s0 s1 D zero f e a = refl
same-height [] [] s0 s1 D (suc h) f e a = absurd a
same-height [] (k ∷ r) s0 s1 D h f e a = absurd (none≢some D e)
same-height (x ∷ w) [] s0 s1 D h f e a = absurd (none≢some D e)
same-height (x ∷ w) (k ∷ r) s0 s1 D zero f e a = absurd a
same-height (zero ∷ w) (k ∷ r) s0 s1 D (suc h) f e a = ap suc (same-height w r s0 s1 D h f e a)
same-height (suc zero ∷ w) (k ∷ r) s0 s1 D (suc h) zero e a = absurd a
same-height (suc zero ∷ w) (k ∷ r) s0 s1 D (suc h) (suc zero) e a = absurd a
same-height (suc zero ∷ w) (k ∷ r) s0 s1 D (suc h) (suc (suc zero)) e a = absurd a
same-height (suc zero ∷ w) (k ∷ r) s0 s1 D (suc h) (suc (suc (suc f))) e a = let i = same-height w _ _ _ D (suc (suc h)) f e a in omega arith
same-height (suc (suc zero) ∷ w) (k ∷ r) s0 s1 D (suc h) zero e a = absurd a
same-height (suc (suc zero) ∷ w) (k ∷ r) s0 s1 D (suc h) (suc f) e a = ap suc (same-height w r _ _ D h f e a)
same-height (suc (suc (suc d)) ∷ w) (k ∷ r) s0 s1 D (suc zero) f e a = let l = a.0 in absurd (omega arith)
same-height (suc (suc (suc d)) ∷ w) (k ∷ r) s0 s1 D (suc (suc h)) f e a =
    let q = cond-some (ltb d (length r)) (spells w (remove_at d r) s0 (put (put s1 k (get_or r d 0)) (get_or r d 0) k)) D e in
    let z = length-remove_at d r (ltb-true d (length r) q.0) in
    let i = same-height w (remove_at d r) s0 _ D h f q.1 a.1 in
    omega arith

unranked-fits : (m h f i : ℕ) → h + f ≤ m → i < ways h f → Fits h f (unrank m h f i)
unranked-fits m h f i l p = rw (← unranked-at m h f i l p) (all-at (Fits h f) (completions m h f) i [] (completions-fit m h f) (rw (completions-ways m h f l) p))

module _ (W a b : List ℕ) (next height free place : ℕ) (U : Unranking W a b next height free place) where
  rest-is : drop next W ≡ unrank U.left height free place
  rest-is = ap (drop next) U.whole ∙ drop_at U.done _ next (sym U.next_is)

  rest-fits : Fits height free (drop next W)
  rest-fits = rw rest-is (unranked-fits U.left height free place U.enough U.within)

  item_is : (item height' free' place' : ℕ) → 0 < height → Chosen height free place item height' free' place' → drop next W ≡ item ∷ drop (next + 1) W
  item_is item height' free' place' l C = go U.left U.whole U.enough
    where
      go : (m : ℕ) → W ≡ U.done ++ unrank m height free place → height + free ≤ m → drop next W ≡ item ∷ drop (next + 1) W
      go zero w n = absurd (omega arith)
      go (suc m) w n =
          let v : W ≡ U.done ++ (item ∷ unrank m height' free' place') = w ∙ rw (C.first m) in
          rw (v, U.next_is) (drop_at U.done (item ∷ unrank m height' free' place') (length U.done) refl ∙ ap (λ (t : List ℕ). item ∷ t) (sym (drop-append-add U.done (item ∷ unrank m height' free' place') 1)))

  -- the first item of the word is the one written first
  first-item : (x : ℕ) → b ≡ set a 0 x → next ≡ 1 → W ≡ x ∷ drop 1 W
  first-item x e one = go U.done U.next_is U.list_is U.whole
    where
      go : (s : List ℕ) → next ≡ length s → b ≡ overwrite s a → W ≡ s ++ unrank U.left height free place → W ≡ x ∷ drop 1 W
      go [] n i w = absurd (omega arith)
      go (y ∷ []) n i w =
          let r = U.room in
          let z : x ≡ y = sym (get_or-set_same a 0 x 0 (omega arith)) ∙ ap (λ (l : List ℕ). get_or l 0 0) (sym e ∙ i) in
          rw (w, z)
      go (y ∷ z ∷ s) n i w = absurd (omega arith)

module _ (D : Pair) (W a a0 a1 word stack b0 b1 : List ℕ) (next used height free place : ℕ) (G : Drawing D W a a0 a1 word stack b0 b1 next used height free place) where
  module _ (item height' free' place' : ℕ) (l : 0 < height) (C : Chosen height free place item height' free' place') where
    -- the item chosen is the next one to draw
    pub drawing-item : SpellingState D (item ∷ drop (next + 1) W) G.state a0 a1 stack b0 b1 used height
    drawing-item = rw (item_is W a word next height free place G.unranking item height' free' place' l C) at G.spelling

    -- and when it is drawn, the stack's height is the one after the choice
    module _ (q d0 d1 : List ℕ) (u h : ℕ) (M : SpellingState D (drop (next + 1) W) (state_after item G.state) a0 a1 q d0 d1 u h) where
      written : Unranking W a (set word next item) (next + 1) height' free' place'
      written = unranking-more W a word next height free place G.unranking item height' free' place' l C

      height_is : h ≡ height'
      height_is = M.height_is ∙ sym (same-height (drop (next + 1) W) _ _ _ D height' free' M.goes (rest-fits W a (set word next item) (next + 1) height' free' place' written))

      pub drawing-falls : h + free' < height + free
      drawing-falls = rw height_is C.falls

      pub drawing-more : Drawing D W a a0 a1 (set word next item) q d0 d1 (next + 1) u h free' place'
      drawing-more = record { unranking = rw height_is written; state = state_after item G.state; spelling = M }

  pub drawing-end : height ≡ 0 → (next ≡ length W) × Written D W a0 a1 a b0 b1 word
  drawing-end e =
      let u = unranking-end W a word next height free place G.unranking e in
      let z : drop next W ≡ [] = rw u.0 (drop-length W) in
      let s = midway_end D G.state a0 a1 stack b0 b1 used height (rw z at G.spelling) in
      (u.0, record { s0_written = s.0; s1_written = s.1; word_written = u.1 })

-- the first item, U or T, written and drawn
module _ (n p root free place : ℕ) (a0 a1 a : List ℕ) (R : Rooted n p root free place a0 a1 a) where
  pub rooted-word : 1 ≤ length a
  rooted-word = let l = long_enough n a0 a1 a R.room in omega arith

  pub rooted-room : SpellingRoom (diagram_at n p) a0 a1
  rooted-room =
      let l = long_enough n a0 a1 a R.room in
      let s = R.listed in
      let z = at_size n p R.counted in
      record { small = omega arith; room0 = omega arith; room1 = omega arith }

  pub rooted-spells : spell (root ∷ drop 1 (word_at n p)) ≡ some (diagram_at n p)
  rooted-spells = rw (← first-item (word_at n p) a (set a 0 root) 1 _ free place R.unranking root refl refl) (at-spells n p R.counted)

  pub rooted-drawing : (stack b0 b1 : List ℕ) (u h : ℕ) → SpellingState (diagram_at n p) (drop 1 (word_at n p)) (first_state root) a0 a1 stack b0 b1 u h → Drawing (diagram_at n p) (word_at n p) a a0 a1 (set a 0 root) stack b0 b1 1 u h free place
  rooted-drawing stack b0 b1 u h M = record { unranking = rw M.height_is R.unranking; state = first_state root; spelling = M }

-- it is U where the place is among the words that begin with it, and otherwise T
module _ (n p : ℕ) (a0 a1 a : List ℕ) (e : OneTo 50 n) (q : OneTo (count n) p) (s : ¬ Short n a0 a1 a) where
  long : suc n ≤ length a
  long = (long_enough n a0 a1 a s).2

  pub rooted-U : p - 1 < ways 1 (n - 1) → Rooted n p 0 (n - 1) (p - 1) a0 a1 a
  unfolding first_state
  rooted-U l = record { listed = e; counted = q; room = s; unranking = begun-U n p a e q.0 long l }

  pub rooted-T : ways 1 (n - 1) ≤ p - 1 → Rooted n p 1 (n - 3) (p - 1 - ways 1 (n - 1)) a0 a1 a
  unfolding first_state
  rooted-T l = record { listed = e; counted = q; room = s; unranking = begun-T n p a e q long l }
