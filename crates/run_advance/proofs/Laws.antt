-- The step from a word that is drawn to the next: its events taken back to the last item that can be raised, and the least ending drawn after that.
use mathlib.Core.Path.{◌≡◌, refl, sym, ap, ◌∙◌}
use mathlib.Core.Logic.{◌≢◌, ◌⊎◌, inl, inr}
use mathlib.Core.Bool.{true}
use mathlib.Core.List.{List, [], ◌∷◌, ◌++◌}
use Prim.Native.Nat.{ℕ, zero, suc, ◌+◌, ◌-◌, ◌≤◌, ◌<◌}
use native.Mathlib.Numerals.{add-one}
use native.Mathlib.Omega.{arith}
use lib.ListN.{length, get_or, set, take, drop, length-set, length-append, length-drop, take-append-drop, drop_of_length-le}
use lib.Seq.{take-suc, drop-cons, length-take-le, take-take, take_all, take_at, get_or_at, get_or-take, drop-append-add, take-suc-set}
use Rattle.words.specs.Shape.{Word}
use Rattle.words.proofs.Shape.{word-spells, word_length}
use Rattle.words_respelling.specs.SpelledSoFar.{SpelledSoFar, EventDue}
use Rattle.listing_successor_states.specs.declared.StackState.{StackState}
use Rattle.listing_successor_states.specs.States.{stack_state, state_after_item, state_after_first}
use Rattle.listing_successor_states.proofs.States.{start_word}
use Rattle.listing_successor_events.proofs.Ends.{leads-less}
use Rattle.listing_successor_endings.proofs.Endings.{ends-lead, ending-lead, ending-0, ending-least}
use Rattle.listing_successor.specs.Successor.{can_end, least_above, least_event, least_ending, raised_to, root_raised, next_ending, successor}
use Rattle.listing_successor.proofs.Backwards.{keep-behind, next-behind, item-low, fits-ends}
use Rattle.listing_successor.proofs.Follows.{words-follow, cons-not}
use Rattle.run_advance.specs.Drawing.{PartDrawn, EventNext, EndsLeast, Drawn, WordHeld, TakenBack}
use Rattle.run_advance.proofs.Counts.{state_after_beginning, used-few, state-is, here-fits, here-small, state-next, whole-counts}

-- ---- taking back

-- what follows the rest follows the word, behind its beginning
behind : (n : ℕ) (p u : List ℕ) → 1 ≤ length p → (y : ℕ) (v : List ℕ) → next_ending (state_after_beginning n p).height (state_after_beginning n p).free u ≡ y ∷ v → successor n (p ++ u) ≡ p ++ (y ∷ v)
unfolding successor
behind n [] u l y v e = absurd (omega arith)
behind n (x ∷ p) u l y v e = rw (next-behind p _ _ u y v e) (keep-behind x p y v _)

-- nothing but the first item can be raised
rooted : (n : ℕ) (w : List ℕ) (h f : ℕ) → 1 ≤ length w → state_after_beginning n (take 1 w) ≡ stack_state h f → next_ending h f (drop 1 w) ≡ [] → successor n w ≡ root_raised n (get_or w 0 0)
unfolding successor
rooted n [] h f l s e = absurd (omega arith)
rooted n (x ∷ w) h f l s e = rw (ap (λ (z : StackState). z.height) s, ap (λ (z : StackState). z.free) s, e)

-- of the word in the first l items, those before i are drawn, and from i on none can be raised
pub record Back (n l : ℕ) (items : List ℕ) (i : ℕ) (stack popped s0 s1 : List ℕ) (used height : ℕ) : Type 0 where
  pub spelled : SpelledSoFar (take i items) stack popped s0 s1 used height
  pub last : next_ending height (n - used) (drop i (take l items)) ≡ []

module _ (n l : ℕ) (items : List ℕ) (small : n ≤ 50) (long : l ≤ length items) (a : Word n (take l items)) where
  abbrev w : List ℕ
  w = take l items

  pub word_some : 1 ≤ l
  word_some = go l a
    where
      go : (l : ℕ) → Word n (take l items) → 1 ≤ l
      go zero a = absurd a
      go (suc l) a = omega arith

  w-long : length w ≡ l
  w-long = length-take-le l items long

  pub back-starts : {stack popped s0 s1 : List ℕ} → SpelledSoFar w stack popped s0 s1 n 0 → Back n l items l stack popped s0 s1 n 0
  unfolding next_ending
  back-starts R = let z = w-long in record { spelled = R; last = rw (drop_of_length-le w {i = l} (omega arith)) }

  pub back_none : {stack popped s0 s1 : List ℕ} {i used height : ℕ} → i ≡ 1 → Back n l items i stack popped s0 s1 used height → TakenBack n w 0 0 stack popped s0 s1 n 0
  back_none e B0 =
      let B = rw e at B0 in
      let k = word_some in
      let R = rw (← (take-take 1 l items k)) at B.spelled in
      record {
        long = B.spelled.long;
        none = λ z. rooted n w _ _ (rw w-long k) (state-is n w a 1 R) B.last;
        started = λ z. absurd (z refl);
        within = λ z. absurd (z refl);
        some = λ z. absurd (z refl);
        spelled = λ z. absurd (z refl);
      }

  module _ (j : ℕ) (k : j < l) {stack popped s0 s1 : List ℕ} {used height : ℕ} (R : SpelledSoFar (take j items) stack popped s0 s1 used height) where
    here : SpelledSoFar (take j w) stack popped s0 s1 used height
    here = rw (take-take j l items (omega arith)) R

    inside : j < length w
    inside = rw w-long k

    abbrev x : ℕ
    x = get_or items j 0

    same : get_or w j 0 ≡ x
    same = get_or-take l items j 0 k

    rest-is : drop j w ≡ x ∷ drop (suc j) w
    rest-is = rw (← same) (drop-cons w j 0 inside)

    pub back-few : used ≤ n
    back-few = used-few n w a j here

    pub back_low : height + (n - used) ≤ 50
    back_low = here-small n w a j here small

    pub back-item : x ≤ 51
    back-item = item-low height (n - used) x (drop (suc j) w) back_low (rw rest-is at (here-fits n w a j here))

    module _ {stack' popped' s0' s1' : List ℕ} {used' height' : ℕ} (B : Back n l items (j + 1) stack' popped' s0' s1' used' height') (e : ℕ) (q : e ≡ least_above height (n - used) x) where
      after : SpelledSoFar (take (j + 1) w) stack' popped' s0' s1' used' height'
      after = rw (take-take (j + 1) l items (omega arith)) B.spelled

      leads : state_after_item height (n - used) x ≡ stack_state height' (n - used')
      leads = rw same at (state-next n w a j inside here after)

      next_here : next_ending height (n - used) (drop j w) ≡ raised_to e (state_after_item height (n - used) e)
      unfolding next_ending
      next_here = rw (rest-is, leads, (rw add-one at B.last), ← q)

      pub back_more : e ≡ 0 → Back n l items j stack popped s0 s1 used height
      back_more z = record { spelled = R; last = next_here ∙ rw z }

      pub back-raise : 1 ≤ j → e ≢ 0 → TakenBack n w j e stack popped s0 s1 used height
      back-raise s z = record {
        long = R.long;
        none = λ y. absurd (z y);
        started = λ y. s;
        within = λ y. inside;
        some = λ y. some;
        spelled = λ y. here;
      }
        where
          to : (e : ℕ) → e ≢ 0 → raised_to e (state_after_item height (n - used) e) ≡ e ∷ least_ending (state_after_item height (n - used) e).height (state_after_item height (n - used) e).free
          to zero z = absurd (z refl)
          to (suc e) z = refl

          some : successor n w ≡ take j w ++ (e ∷ least_ending (state_after_item height (n - used) e).height (state_after_item height (n - used) e).free)
          some = rw take-append-drop at (behind n (take j w) (drop j w) here.begins.some_item e (least_ending (state_after_item height (n - used) e).height (state_after_item height (n - used) e).free) (rw (state-is n w a j here) (next_here ∙ to e z)))

-- ---- drawing

module _ {n : ℕ} {v items : List ℕ} {i : ℕ} {stack popped s0 s1 : List ℕ} {used height : ℕ} (P : PartDrawn n v items i stack popped s0 s1 used height) where
  abbrev f : ℕ
  f = n - used

  pub part-few : used ≤ n
  part-few = used-few n v P.word i P.spelled

  pub part_low : height + f ≤ 50
  part_low = here-small n v P.word i P.spelled P.small

  module _ (end : drop i v ≡ least_ending height f) where
    ended : can_end height f ≡ true
    ended = fits-ends height f (drop i v) (here-fits n v P.word i P.spelled)

    -- the word is whole
    pub end-done : height ≡ 0 → Drawn n v i items stack popped s0 s1
    end-done z = record {
      long = P.long;
      length_is = i-is;
      items_are = P.begun ∙ all;
      spelled = λ y. whole-counts n v P.word (rw all at P.spelled);
    }
      where
        i-is : i ≡ length v
        i-is = let e : least_ending height f ≡ [] = rw (z, ending-0) in let m = P.within in let l = ap length (end ∙ e) in let d = length-drop i v in omega arith

        all : take i v ≡ v
        all = take_all i v (omega (arith, i-is))

    -- the word goes on
    module _ (z : height ≢ 0) (e : ℕ) (q : e ≡ least_event height f) where
      lead : drop i v ≡ e ∷ least_ending (state_after_item height f e).height (state_after_item height f e).free
      lead = end ∙ rw q (ending-lead height f z ended)

      more : i < length v
      more = let l = ap length lead in let d = length-drop i v in omega arith

      split : get_or v i 0 ∷ drop (suc i) v ≡ e ∷ least_ending (state_after_item height f e).height (state_after_item height f e).free
      split = sym (drop-cons v i 0 more) ∙ lead

      pub end-next : EventNext n v items i e stack popped s0 s1 used height
      end-next = record { part = P; more = more; event_is = let s = split in cc }

      pub end-least : EndsLeast v i e height f
      end-least = let s = split in cc

      pub end-less : {stack' popped' s0' s1' items' : List ℕ} {used' height' : ℕ} → PartDrawn n v items' (i + 1) stack' popped' s0' s1' used' height' → height' + (n - used') < height + f
      end-less P' =
          let s = rw (sym end-next.event_is ∙ q) at (state-next n v P.word i more P.spelled P'.spelled) in
          rw s at (leads-less height f (least_event height f) (ends-lead height f z ended).ok)

module _ {n : ℕ} {v items : List ℕ} {i e : ℕ} {stack popped s0 s1 : List ℕ} {used height : ℕ} (E : EventNext n v items i e stack popped s0 s1 used height) where
  abbrev P : PartDrawn n v items i stack popped s0 s1 used height
  P = E.part

  pub next_place : i < 51
  next_place = let l = word_length n v P.word in let s = P.small in let m = E.more in omega arith

  pub next-due : EventDue v i e stack popped s0 s1 used height
  next-due = record { started = P.started; within = E.more; listed = (n, P.small, word-spells n v P.word); item_is = E.event_is; spelled = P.spelled }

  pub next_drawn : {stack' popped' s0' s1' : List ℕ} {used' height' : ℕ} → SpelledSoFar (take (i + 1) v) stack' popped' s0' s1' used' height' → PartDrawn n v (set items i e) (i + 1) stack' popped' s0' s1' used' height'
  next_drawn R = record {
    small = P.small;
    word = P.word;
    started = omega arith;
    within = let m = E.more in omega arith;
    long = length-set items i e ∙ P.long;
    begun = rw (add-one, take-suc-set items i e (let l = P.long in let s = next_place in omega arith), P.begun, E.event_is) (sym (take-suc v i 0 E.more));
    spelled = R;
  }

  -- after the event the word ends in the least way
  pub next-ends : {items' stack' popped' s0' s1' : List ℕ} {used' height' : ℕ} → EndsLeast v i e height (n - used) → PartDrawn n v items' (i + 1) stack' popped' s0' s1' used' height' → drop (i + 1) v ≡ least_ending height' (n - used')
  next-ends L P' =
      let s = rw (← E.event_is) at (state-next n v P.word i E.more P.spelled P'.spelled) in
      rw add-one (rw s at L)

-- ---- a word that begins with an item, and then ends in the least way

module _ (n x : ℕ) (q : can_end (state_after_first n x).height (state_after_first n x).free ≡ true) where
  abbrev pub least : List ℕ
  least = x ∷ least_ending (state_after_first n x).height (state_after_first n x).free

  pub root-word : Word n least
  root-word = start_word n x (least_ending (state_after_first n x).height (state_after_first n x).free) (ending-least (state_after_first n x).height (state_after_first n x).free q).fits

  pub root-drawn : (items : List ℕ) {stack popped s0 s1 : List ℕ} {used height : ℕ} → n ≤ 50 → length items ≡ 51 → SpelledSoFar (take 1 least) stack popped s0 s1 used height → PartDrawn n least (set items 0 x) 1 stack popped s0 s1 used height
  root-drawn items s l R = record {
    small = s;
    word = root-word;
    started = omega arith;
    within = omega arith;
    long = length-set items 0 x ∙ l;
    begun = take-suc-set items 0 x (omega arith);
    spelled = R;
  }

  pub root_ends : {stack popped s0 s1 : List ℕ} {used height : ℕ} → SpelledSoFar (take 1 least) stack popped s0 s1 used height → drop 1 least ≡ least_ending height (n - used)
  root_ends R = let s = state-is n least root-word 1 R in rw (ap (λ (z : StackState). z.height) s, ap (λ (z : StackState). z.free) s)

-- ---- the word with an item raised

module _ (n : ℕ) (w : List ℕ) (a : Word n w) (small : n ≤ 50) {place e : ℕ} {stack popped s0 s1 : List ℕ} {used height : ℕ} (T : TakenBack n w place e stack popped s0 s1 used height) (z : e ≢ 0) where
  abbrev v : List ℕ
  v = successor n w

  abbrev tail : List ℕ
  tail = least_ending (state_after_item height (n - used) e).height (state_after_item height (n - used) e).free

  begin-long : length (take place w) ≡ place
  begin-long = length-take-le place w (let l = T.within z in omega arith)

  v-is : v ≡ take place w ++ (e ∷ tail)
  v-is = T.some z

  same-begin : take place v ≡ take place w
  same-begin = ap (take place) v-is ∙ take_at (take place w) (e ∷ tail) place begin-long

  v-long : place < length v
  v-long = rw (v-is, length-append, begin-long) (omega arith)

  not_none : (v : List ℕ) → place < length v → v ≢ []
  not_none [] l e = omega arith
  not_none (x ∷ v) l e = cons-not x v e

  pub raised-next : (items : List ℕ) → length items ≡ 51 → take place items ≡ take place w → EventNext n v items place e stack popped s0 s1 used height
  raised-next items l b = record {
    part = record {
      small = small;
      word = ((words-follow n w a).some (not_none v v-long)).0;
      started = T.started z;
      within = let m = v-long in omega arith;
      long = l;
      begun = b ∙ sym same-begin;
      spelled = rw same-begin (T.spelled z);
    };
    more = v-long;
    event_is = sym (ap (λ (u : List ℕ). get_or u place 0) v-is ∙ get_or_at (take place w) e tail 0 place begin-long);
  }

  pub raised-ends : EndsLeast v place e height (n - used)
  raised-ends = rw (v-is, ← (add-one place)) (rw begin-long at (drop-append-add (take place w) (e ∷ tail) 1))

-- ---- a word of the first l items

module _ (l : ℕ) (items : List ℕ) where
  pub held-there : (n : ℕ) {stack popped s0 s1 : List ℕ} → l ≤ length items → l ≢ 0 → WordHeld n (take l items) stack popped s0 s1 → Word n (take l items) × SpelledSoFar (take l items) stack popped s0 s1 n 0
  held-there n {stack} {popped} {s0} {s1} m z H = go H.held
    where
      go : (take l items ≡ []) ⊎ (Word n (take l items) × SpelledSoFar (take l items) stack popped s0 s1 n 0) → Word n (take l items) × SpelledSoFar (take l items) stack popped s0 s1 n 0
      go (inl e) = let k = length-take-le l items m in let i = ap length e in absurd (omega arith)
      go (inr h) = h

  pub begins-same : (place : ℕ) → l ≤ length items → place < length (take l items) → take place items ≡ take place (take l items)
  begins-same place m k = let e = length-take-le l items m in sym (take-take place l items (omega arith))

-- after the last word
pub drawn-none : {n : ℕ} {v items stack popped s0 s1 : List ℕ} → length items ≡ 51 → v ≡ [] → Drawn n v 0 items stack popped s0 s1
drawn-none l e = rw e record { long = l; length_is = refl; items_are = refl; spelled = λ z. absurd (z refl) }
