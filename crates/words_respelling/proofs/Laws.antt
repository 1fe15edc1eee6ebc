-- Laws of spellings: an item more, and the spelling of a whole word. Those of an item less are in `words_respelling_undo`.
use mathlib.Core.Path.{◌≡◌, refl, sym, ap, ◌∙◌}
use mathlib.Core.Logic.{◌≢◌, ◌⊎◌, inl, inr}
use mathlib.Core.Option.{some}
use mathlib.Core.List.{List, [], ◌∷◌, append-nil}
use Prim.Native.Nat.{ℕ, ◌+◌, ◌-◌, ◌≤◌, ◌<◌}
use native.Mathlib.Omega.{arith}
use lib.ListN.{length, get_or, set, take, drop, length-set}
use lib.Seq.{take-take, length-take-le, take-append_seam, take_at, get_or-set_same, get_or-set_other}
use Rattle.lists.proofs.Tests.{same?}
use Rattle.words.specs.Word.{Pair, spells, spell}
use Rattle.words.proofs.Outputs.{over-length}
use Rattle.words.proofs.Growing.{none≢some}
use Rattle.words.proofs.Shape.{grows}
use Rattle.words_spelling_events.specs.States.{State, top_label, state_after, first_state, state_of}
use Rattle.words_spelling_events.specs.Spelling.{SpellingRoom, SpellingHeld, SpellingState}
use Rattle.words_spelling_events.proofs.Lists.{next-item}
use Rattle.words_spelling_events.proofs.Laws.{pending-some, word_some}
use Rattle.words_spelling_events.proofs.Laws as laws
use Rattle.words_spelling_events.proofs.States.{begun-good, begun-one}
use Rattle.words_respelling_undo.proofs.Holding.{holds-own}
use Rattle.words_respelling_undo.proofs.Laws.{take_more, begun-next, listed-begins, place-low}
use Rattle.words_respelling.specs.SpelledSoFar.{ListedWord, ScratchLengths, SpelledSoFar, EventDue}

-- ---- an item more

room_of : (D : Pair) (s0 s1 : List ℕ) → length D.black ≤ 50 → length s0 ≡ 64 → length s1 ≡ 64 → SpellingRoom D s0 s1
room_of D s0 s1 l a b = record { small = l; room0 = omega arith; room1 = omega arith }

-- the lists that a state is written to stay as long as they are
same-long : (D : Pair) (w : List ℕ) (S : State) (a0 a1 stack b0 b1 : List ℕ) (used height : ℕ) → SpellingState D w S a0 a1 stack b0 b1 used height
    → (length b0 ≡ length a0) × (length b1 ≡ length a1)
same-long D w S a0 a1 stack b0 b1 used height M =
    let i = grows w S.pending S.black S.white D M.goes in
    let R = M.room in
    let u = M.holds.used_is in
    let v = M.holds.even in
    (ap length M.holds.s0_is ∙ over-length S.black a0 (omega arith), ap length M.holds.s1_is ∙ over-length S.white a1 (omega arith))

module _ (w : List ℕ) (L : ListedWord w) where
  abbrev D : Pair
  D = L.2.pair

  spelling-made : (stack popped a0 a1 b0 b1 : List ℕ) (i used height : ℕ) → 1 ≤ i → i ≤ length w → SpellingState D (drop i w) (state_of (take i w)) a0 a1 stack b0 b1 used height
      → length a0 ≡ 64 → length a1 ≡ 64 → length popped ≡ 64 → ((j : ℕ) → 1 ≤ j → j < i → get_or popped j 0 ≡ top_label (state_of (take j w))) → SpelledSoFar (take i w) stack popped b0 b1 used height
  spelling-made stack popped a0 a1 b0 b1 i used height a l M l0 l1 lp n =
      let q = same-long D (drop i w) _ a0 a1 stack b0 b1 used height M in
      record {
        rest = drop i w;
        diagram = D;
        begins = listed-begins w i L a l;
        long = record { stack_long = M.holds.long; popped_long = lp; s0_long = q.0 ∙ l0; s1_long = q.1 ∙ l1 };
        holds = holds-own _ _ _ a0 a1 stack b0 b1 used M.holds;
        height_is = M.height_is;
        noted = λ j b m. let k : j < i = rw (length-take-le i w l) at m in rw (take-take j i w (omega arith)) (n j b k);
      }

  module _ (stack popped s0 s1 : List ℕ) (i used height : ℕ) (a : 1 ≤ i) (l : i < length w) (R : SpelledSoFar (take i w) stack popped s0 s1 used height) where
    spelling-midway : SpellingState D (get_or w i 0 ∷ drop (i + 1) w) (state_of (take i w)) s0 s1 stack s0 s1 used height
    spelling-midway =
        let b = listed-begins w i L a (omega arith) in
        rw (← next-item w i l) record {
          goes = (begun-good D (take i w) (drop i w) b.some_item b.spelt).0;
          holds = R.holds;
          height_is = R.height_is;
          room = room_of D s0 s1 b.small R.long.s0_long R.long.s1_long;
        }

    spelling-height : (1 ≤ height) × (height ≤ 50)
    spelling-height = pending-some D _ _ s0 s1 stack s0 s1 used _ height spelling-midway

    -- the label that the item pops is noted
    spelling-added : (q t0 t1 : List ℕ) (u h : ℕ) → SpellingState D (drop (i + 1) w) (state_after (get_or w i 0) (state_of (take i w))) s0 s1 q t0 t1 u h
        → SpelledSoFar (take (i + 1) w) q (set popped i (get_or stack (height - 1) 0)) t0 t1 u h
    spelling-added q t0 t1 u h M =
        let Lg = R.long in
        spelling-made q _ s0 s1 t0 t1 (i + 1) u h (omega arith) (omega arith) (rw (begun-next w i a l) M) Lg.s0_long Lg.s1_long (length-set popped i _ ∙ Lg.popped_long) note
      where
        k : ℕ
        k = get_or stack (height - 1) 0

        is-top : k ≡ top_label (state_of (take i w))
        is-top = sym (ap (λ (r : List ℕ). get_or r 0 0) (laws.popped D _ _ s0 s1 stack s0 s1 used _ height (height - 1) spelling-midway refl).pending_is)

        note : (j : ℕ) → 1 ≤ j → j < i + 1 → get_or (set popped i k) j 0 ≡ top_label (state_of (take j w))
        note j b m = go (same? j i)
          where
            go : (j ≡ i) ⊎ (j ≢ i) → get_or (set popped i k) j 0 ≡ top_label (state_of (take j w))
            go (inl e) = rw (e, get_or-set_same popped i k 0 (let z = R.long.popped_long in let y = place-low w i L l in omega arith)) is-top
            go (inr n) =
                get_or-set_other popped i j k 0 n
                ∙ R.noted j b (rw (length-take-le i w (omega arith)) (omega arith))
                ∙ rw (take-take j i w (omega arith))

  -- the first item
  pub spelling-begun : (stack popped s0 s1 q t0 t1 : List ℕ) (u h : ℕ) → 1 ≤ length w → ScratchLengths stack popped s0 s1 → SpellingState D (drop 1 w) (first_state (get_or w 0 0)) s0 s1 q t0 t1 u h
      → SpelledSoFar (take 1 w) q popped t0 t1 u h
  spelling-begun stack popped s0 s1 q t0 t1 u h l Lg M =
      spelling-made q popped s0 s1 t0 t1 1 u h (omega arith) l (rw (take_more w 0 l, begun-one) M) Lg.s0_long Lg.s1_long Lg.popped_long (λ j a b. absurd (omega arith))

  pub listed-some : 1 ≤ length w
  listed-some = word_some L.0 w L.2

  -- what is there to begin the word with
  pub first-spelt : spell (get_or w 0 0 ∷ drop 1 w) ≡ some D
  first-spelt = ap spell (sym (next-item w 0 listed-some)) ∙ L.2.spelt

  pub first-room : (stack popped s0 s1 : List ℕ) → ScratchLengths stack popped s0 s1 → SpellingRoom D s0 s1
  first-room stack popped s0 s1 Lg = room_of D s0 s1 (listed-begins w 1 L (omega arith) listed-some).small Lg.s0_long Lg.s1_long

-- the same, of an item that is due
module _ {w : List ℕ} {place item : ℕ} {stack popped s0 s1 : List ℕ} {used height : ℕ} (E : EventDue w place item stack popped s0 s1 used height) where
  pub due-low : place < 64
  due-low = place-low w place E.listed E.within

  pub due-height : (1 ≤ height) × (height ≤ 50)
  due-height = spelling-height w E.listed stack popped s0 s1 place used height E.started E.within E.spelled

  pub due-midway : SpellingState E.listed.2.pair (item ∷ drop (place + 1) w) (state_of (take place w)) s0 s1 stack s0 s1 used height
  due-midway = rw E.item_is (spelling-midway w E.listed stack popped s0 s1 place used height E.started E.within E.spelled)

  pub due-added : (q t0 t1 : List ℕ) (u h : ℕ) → SpellingState E.listed.2.pair (drop (place + 1) w) (state_after item (state_of (take place w))) s0 s1 q t0 t1 u h
      → SpelledSoFar (take (place + 1) w) q (set popped place (get_or stack (height - 1) 0)) t0 t1 u h
  due-added q t0 t1 u h M = spelling-added w E.listed stack popped s0 s1 place used height E.started E.within E.spelled q t0 t1 u h (rw E.item_is at M)

-- ---- a whole word

pub spelling-whole : (w stack popped s0 s1 : List ℕ) (used height : ℕ) → SpelledSoFar w stack popped s0 s1 used height → (D : Pair) → spell w ≡ some D
    → (take (length D.black) s0 ≡ D.black) × (take (length D.black) s1 ≡ D.white)
unfolding spells
spelling-whole w stack popped s0 s1 used height R D e = go (state_of w).pending (begun-good D w [] R.begins.some_item (ap spell (append-nil w) ∙ e)).0
  where
    H : SpellingHeld (state_of w).pending (state_of w).black (state_of w).white s0 s1 stack s0 s1 used
    H = R.holds

    go : (st : List ℕ) → spells [] st (state_of w).black (state_of w).white ≡ some D → (take (length D.black) s0 ≡ D.black) × (take (length D.black) s1 ≡ D.white)
    go [] g =
        let x : D.black ≡ (state_of w).black = cc in
        let y : D.white ≡ (state_of w).white = cc in (
          rw x (ap (take (length (state_of w).black)) H.s0_is ∙ take-append_seam (state_of w).black _),
          rw (x, y) (ap (take (length (state_of w).black)) H.s1_is ∙ take_at (state_of w).white _ _ (H.even ∙ H.used_is)),
        )
    go (k ∷ r) g = absurd (none≢some D g)
