-- The counts of labels after a beginning of a word are the state of a word that is read: as high as labels are pending, with as many free as are not given.
use mathlib.Core.Path.{◌≡◌, refl, sym, ap, ◌∙◌}
use mathlib.Core.Option.{some}
use mathlib.Core.List.{List, [], ◌∷◌, ◌++◌}
use Prim.Native.Nat.{ℕ, zero, suc, ◌+◌, ◌-◌, ◌≤◌, ◌<◌}
use native.Mathlib.Omega.{arith}
use lib.ListN.{length, get_or, take, drop, take-append-drop}
use lib.Seq.{take-length, drop-length}
use Rattle.lists.specs.Lists.{remove_at}
use Rattle.lists.proofs.Lists.{length-remove_at, length-1, length-3}
use Rattle.words.specs.Shape.{Fits, Word}
use Rattle.words.specs.Word.{Pair, spells, spell, Spells}
use Rattle.words.proofs.Growing.{none≢some}
use Rattle.words.proofs.Shape.{grows, word-spells}
use Rattle.words_spelling_events.specs.States.{State, event_state, state_after, first_state, state_after_all, state_of}
use Rattle.words_spelling_events.proofs.States.{Goes, jump-deep, after-item, begun-good}
use Rattle.words_respelling.specs.SpelledSoFar.{SpelledSoFar}
use Rattle.words_respelling_undo.proofs.Laws.{take_more}
use Rattle.listing_successor_states.specs.declared.StackState.{StackState}
use Rattle.listing_successor_states.specs.States.{stack_state, dead_end, state_after_item, state_after_first}
use Rattle.listing_successor_states.proofs.Cases.{state-same, after-F, after-B, after-J, start-U, start-T}
use Rattle.listing_successor_states.proofs.States.{From, fits_after, word-start, start_small}
use Rattle.listing_successor.proofs.Backwards.{state_after_items, state_after_items-one, state_after_items-small}

-- the state after a beginning of a word of n edges
abbrev pub state_after_beginning : ℕ → List ℕ → StackState
state_after_beginning n [] = dead_end
state_after_beginning n (x ∷ u) = state_after_items (state_after_first n x).height (state_after_first n x).free u

-- ---- by the labels of a diagram

module _ (D : Pair) where
  abbrev n : ℕ
  n = length D.black

  abbrev counted : State → StackState
  counted S = stack_state (length S.pending) (n - length S.black)

  counted-item : (x : ℕ) (w : List ℕ) (S : State) → Goes D (x ∷ w) S → state_after_item (length S.pending) (n - length S.black) x ≡ counted (state_after x S)
  unfolding spells event_state
  counted-item x w S g = go x S.pending g
    where
      go : (x : ℕ) (p : List ℕ) → spells (x ∷ w) p S.black S.white ≡ some D
          → state_after_item (length p) (n - length S.black) x ≡ counted (event_state x (get_or p 0 0) (remove_at 0 p) S.black S.white)
      go x [] g = absurd (none≢some D g)
      go zero (k ∷ r) g = refl
      go (suc zero) (k ∷ r) g =
          let i = rw length-3 at (grows w _ _ _ D g) in
          sym (after-F (suc (length r)) (n - length S.black) 1 (λ z. omega arith) refl (omega arith)) ∙ state-same _ _ _ _ (omega arith) (rw length-3 (omega arith))
      go (suc (suc zero)) (k ∷ r) g =
          let i = rw length-1 at (grows w _ _ _ D g) in
          sym (after-B (suc (length r)) (n - length S.black) 2 (λ z. omega arith) refl (λ z. omega arith)) ∙ state-same _ _ _ _ (omega arith) (rw length-1 (omega arith))
      go (suc (suc (suc d))) (k ∷ r) g =
          let l = jump-deep D d w record { pending = k ∷ r; black = S.black; white = S.white } g in
          let z = length-remove_at d r l in
          sym (after-J (n - length S.black) (suc (length r)) (suc (suc (suc d))) (λ z. omega arith) (λ z. omega arith) (λ z. omega arith) (omega arith)) ∙ state-same _ _ _ _ (omega arith) refl

  counted-items : (u v : List ℕ) (S : State) → Goes D (u ++ v) S → state_after_items (length S.pending) (n - length S.black) u ≡ counted (state_after_all u S)
  unfolding state_after_all
  counted-items [] v S g = refl
  counted-items (x ∷ u) v S g = rw (counted-item x (u ++ v) S g) (counted-items u v (state_after x S) (after-item D x (u ++ v) S g))

  counted-begun : (p v : List ℕ) → 1 ≤ length p → spell (p ++ v) ≡ some D → state_after_beginning n p ≡ counted (state_of p)
  unfolding spell first_state state_of
  counted-begun [] v l e = absurd (omega arith)
  counted-begun (zero ∷ p) v l e = let i = grows (p ++ v) _ _ _ D e in rw (← (start-U n 0 refl (λ z. omega arith))) (counted-items p v (first_state 0) e)
  counted-begun (suc zero ∷ p) v l e = let i = grows (p ++ v) _ _ _ D e in rw (← (start-T n 1 refl (omega arith))) (counted-items p v (first_state 1) e)
  counted-begun (suc (suc x) ∷ p) v l e = absurd (none≢some D e)

-- ---- what holds of the state after a beginning

begun-fits : (n : ℕ) (p w : List ℕ) → 1 ≤ length p → Word n (p ++ w) → From (state_after_beginning n p) w
begun-fits n [] w l a = absurd (omega arith)
begun-fits n (x ∷ p) w l a = go p _ _ (word-start n x (p ++ w) a)
  where
    go : (p : List ℕ) (h f : ℕ) → Fits h f (p ++ w) → From (state_after_items h f p) w
    go [] h f a = a
    go (y ∷ p) h f a = go p _ _ (fits_after h f y (p ++ w) a)

begun-small : (n : ℕ) (p : List ℕ) → n ≤ 50 → (state_after_beginning n p).height + (state_after_beginning n p).free ≤ 50
begun-small n [] l = omega arith
begun-small n (x ∷ p) l = state_after_items-small p _ _ (start_small n x l)

begun-one : (n : ℕ) (p : List ℕ) (x : ℕ) → 1 ≤ length p → state_after_beginning n (p ++ (x ∷ [])) ≡ state_after_item (state_after_beginning n p).height (state_after_beginning n p).free x
begun-one n [] x l = absurd (omega arith)
begun-one n (y ∷ p) x l = state_after_items-one p _ _ x

-- ---- a word of n edges that is drawn as far as place i

module _ (n : ℕ) (w : List ℕ) (a : Word n w) (i : ℕ) {stack popped s0 s1 : List ℕ} {used height : ℕ} (R : SpelledSoFar (take i w) stack popped s0 s1 used height) where
  spelt : Spells n w
  spelt = word-spells n w a

  spelt-here : spell (take i w ++ drop i w) ≡ some spelt.pair
  spelt-here = ap spell (take-append-drop i w) ∙ spelt.spelt

  some_item : 1 ≤ length (take i w)
  some_item = R.begins.some_item

  pub used-few : used ≤ n
  used-few =
      let g = grows (drop i w) _ _ _ spelt.pair (begun-good spelt.pair (take i w) (drop i w) some_item spelt-here).0 in
      let u = R.holds.used_is in
      let z = spelt.sized in
      omega arith

  pub state-is : state_after_beginning n (take i w) ≡ stack_state height (n - used)
  state-is = rw spelt.sized at (counted-begun spelt.pair (take i w) (drop i w) some_item spelt-here) ∙ state-same _ _ _ _ (sym R.height_is) (ap (λ (k : ℕ). n - k) (sym R.holds.used_is))

  pub here-fits : Fits height (n - used) (drop i w)
  here-fits = rw state-is at (begun-fits n (take i w) (drop i w) some_item (rw take-append-drop a))

  pub here-small : n ≤ 50 → height + (n - used) ≤ 50
  here-small l = rw state-is at (begun-small n (take i w) l)

-- the item at i leads from the counts before it to those after it
pub state-next : (n : ℕ) (w : List ℕ) → Word n w → (i : ℕ) → i < length w
    → {stack popped s0 s1 : List ℕ} {used height : ℕ} → SpelledSoFar (take i w) stack popped s0 s1 used height
    → {stack' popped' s0' s1' : List ℕ} {used' height' : ℕ} → SpelledSoFar (take (i + 1) w) stack' popped' s0' s1' used' height'
    → state_after_item height (n - used) (get_or w i 0) ≡ stack_state height' (n - used')
state-next n w a i l R R' =
    rw (state-is n w a i R) at (sym (begun-one n (take i w) (get_or w i 0) R.begins.some_item))
    ∙ ap (state_after_beginning n) (sym (take_more w i l))
    ∙ state-is n w a (i + 1) R'

-- where nothing is left to read, every label is given and none is pending
fits-none : (h f : ℕ) → Fits h f [] → (h ≡ 0) × (f ≡ 0)
fits-none zero zero a = (refl, refl)
fits-none zero (suc f) a = absurd a
fits-none (suc h) f a = absurd a

pub whole-counts : (n : ℕ) (w : List ℕ) → Word n w → {stack popped s0 s1 : List ℕ} {used height : ℕ} → SpelledSoFar w stack popped s0 s1 used height → SpelledSoFar w stack popped s0 s1 n 0
whole-counts n w a {stack} {popped} {s0} {s1} {used} {height} R =
    let R' : SpelledSoFar (take (length w) w) stack popped s0 s1 used height = rw take-length R in
    let z = fits-none height (n - used) (rw drop-length at (here-fits n w a (length w) R')) in
    let u = used-few n w a (length w) R' in
    let e : used ≡ n = omega arith in
    rw (e, z.0) at R
