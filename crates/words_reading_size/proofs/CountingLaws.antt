-- Laws of counting: what the next item makes of the counts of a state, the counts after the first item, and the end. One law for each way out
-- of the code; going on from item to item, and the whole word, are laws of `words_reading`.
use mathlib.Core.Path.{◌≡◌, refl, sym, ap, ◌∙◌}
use mathlib.Core.Bool.{Bool, true, false, cond}
use mathlib.Core.List.{List, [], ◌∷◌, ◌++◌}
use Prim.Native.Nat.{ℕ, suc, ◌+◌, ◌-◌}
use native.Mathlib.Omega.{arith}
use lib.Dec.{leb, ltb}
use lib.ListN.{length, get_or, drop, length-drop}
use lib.Seq.{drop-cons}
use Rattle.std.specs.Prelude.{Result, Ok, Err}
use Rattle.lists.specs.Lists.{put, remove_at}
use Rattle.lists.proofs.Tests.{le-true, leb-true, ltb-true}
use Rattle.lists.proofs.Lists.{length-0, length-1, length-3, length-remove_at}
use Rattle.refusals.specs.declared.Refusal.{Refusal}
use Rattle.refusals.specs.declared.Refusal.TheVariants as refusal
use Rattle.refusals.specs.Numbers.{number}
use Rattle.words_reading_events.specs.declared.LabelCounts.{LabelCounts}
use Rattle.words_reading_events.specs.Items.{Read, refused, items}
use Rattle.words_reading_events.specs.State.{State, after_u, after_t, read_on}
use Rattle.words_reading.proofs.ReadingLaws.{popped}
use Rattle.words_reading_size.specs.Counting.{SizePromise, Counts, CountedAfter}

-- ---- the states after F, B and Jd

abbrev tripled : State → State
tripled t =
    let k = get_or t.stack 0 0 in
    let c = suc (length t.black) in
    record {
      stack = suc (suc c) ∷ suc c ∷ drop 1 t.stack;
      black = t.black ++ (suc c ∷ suc (suc c) ∷ c ∷ []);
      white = put t.white k c ++ (k ∷ suc c ∷ suc (suc c) ∷ []);
    }

abbrev extended : State → State
extended t =
    let k = get_or t.stack 0 0 in
    let c = suc (length t.black) in
    record { stack = drop 1 t.stack; black = t.black ++ (c ∷ []); white = put t.white k c ++ (k ∷ []) }

abbrev joined : ℕ → State → State
joined d t =
    let k = get_or t.stack 0 0 in
    let p = get_or (drop 1 t.stack) d 0 in
    record { stack = remove_at d (drop 1 t.stack); black = t.black; white = put (put t.white k p) p k }

-- a test decides whether the item leads to the state s or is refused, and the code has asked the same test
decided : (q : Read) (w : List ℕ) (s : State) (u h : ℕ) (x : Refusal) (b : Bool) (r : Result LabelCounts Refusal)
    → q ≡ cond b (read_on w s) (refused (number x)) → (b ≡ true → Counts u h s) → r ≡ cond b (Ok record { used = u; height = h }) (Err x) → CountedAfter q w r
decided q w s u h x true r e C f = rw f (s, C refl, e)
decided q w s u h x false r e C f = rw f e

module _ (used height : ℕ) (t : State) (o : Counts used height t) where
  -- ---- one item

  pub item_refused : height ≡ 0 → (item : ℕ) (w : List ℕ) → read_on (item ∷ w) t ≡ refused 26
  unfolding items
  item_refused g item w = rw (length-0 t.stack (sym o.pending ∙ g))

  three : used + 3 ≡ suc (suc (suc (length t.black)))
  three = omega (arith, o.given)

  one : used + 1 ≡ suc (length t.black)
  one = omega (arith, o.given)

  module _ (g : ¬ (height ≡ 0)) where
    -- the label that is popped and the stack below it
    met : (item : ℕ) (w : List ℕ) → read_on (item ∷ w) t ≡ items (item ∷ w) (get_or t.stack 0 0 ∷ drop 1 t.stack) t.black t.white
    met item w = ap (λ (s : List ℕ). items (item ∷ w) s t.black t.white) (drop-cons t.stack 0 0 (omega (arith, o.pending)))

    below : height - 1 ≡ length (drop 1 t.stack)
    below = rw length-drop (omega (arith, o.pending))

    -- W
    reads-W : (w : List ℕ) → read_on (0 ∷ w) t ≡ read_on w (popped t)
    unfolding items
    reads-W w = met 0 w ∙ refl

    pub counts-W : (w : List ℕ) (r : Result LabelCounts Refusal) → r ≡ cond (leb (used + 0) 1024) (Ok record { used = used + 0; height = height - 1 }) (Err refusal.LabelTooLarge)
        → CountedAfter (read_on (0 ∷ w) t) w r
    counts-W w r e = rw (e, le-true (used + 0) 1024 (omega (arith, o.room))) (popped t, counts, reads-W w)
      where
        counts : Counts (used + 0) (height - 1) (popped t)
        counts = record { given = omega (arith, o.given); pending = below; within = omega (arith, o.within); room = omega (arith, o.room) }

    -- F
    reads-F : (w : List ℕ) → read_on (1 ∷ w) t ≡ cond (leb (used + 3) 1024) (read_on w (tripled t)) (refused 24)
    unfolding items
    reads-F w = met 1 w ∙ rw three

    pub counts-F : (w : List ℕ) (r : Result LabelCounts Refusal) → r ≡ cond (leb (used + 3) 1024) (Ok record { used = used + 3; height = height + 1 }) (Err refusal.LabelTooLarge)
        → CountedAfter (read_on (1 ∷ w) t) w r
    counts-F w r = decided _ w (tripled t) (used + 3) (height + 1) refusal.LabelTooLarge (leb (used + 3) 1024) r (reads-F w) counts
      where
        counts : leb (used + 3) 1024 ≡ true → Counts (used + 3) (height + 1) (tripled t)
        counts b = record {
          given = rw length-3 three;
          pending = omega (arith, below);
          within = omega (arith, o.within);
          room = leb-true (used + 3) 1024 b;
        }

    -- B
    reads-B : (w : List ℕ) → read_on (2 ∷ w) t ≡ cond (leb (used + 1) 1024) (read_on w (extended t)) (refused 24)
    unfolding items
    reads-B w = met 2 w ∙ rw one

    pub counts-B : (w : List ℕ) (r : Result LabelCounts Refusal) → r ≡ cond (leb (used + 1) 1024) (Ok record { used = used + 1; height = height - 1 }) (Err refusal.LabelTooLarge)
        → CountedAfter (read_on (2 ∷ w) t) w r
    counts-B w r = decided _ w (extended t) (used + 1) (height - 1) refusal.LabelTooLarge (leb (used + 1) 1024) r (reads-B w) counts
      where
        counts : leb (used + 1) 1024 ≡ true → Counts (used + 1) (height - 1) (extended t)
        counts b = record { given = rw length-1 one; pending = below; within = omega (arith, o.within); room = leb-true (used + 1) 1024 b }

    -- Jd
    reads-J : (d : ℕ) (w : List ℕ) → read_on (suc (suc (suc d)) ∷ w) t ≡ cond (ltb d (height - 1)) (read_on w (joined d t)) (refused 23)
    unfolding items
    reads-J d w = met (suc (suc (suc d))) w ∙ rw below

    pub counts-J : (d : ℕ) (w : List ℕ) (r : Result LabelCounts Refusal) → r ≡ cond (ltb d (height - 1)) (Ok record { used = used; height = (height - 1) - 1 }) (Err refusal.JoinTooDeep)
        → CountedAfter (read_on (suc (suc (suc d)) ∷ w) t) w r
    counts-J d w r = decided _ w (joined d t) used ((height - 1) - 1) refusal.JoinTooDeep (ltb d (height - 1)) r (reads-J d w) counts
      where
        counts : ltb d (height - 1) ≡ true → Counts used ((height - 1) - 1) (joined d t)
        counts b =
            let l = length-remove_at d (drop 1 t.stack) (rw below at (ltb-true d (height - 1) b)) in
            record { given = o.given; pending = omega (arith, below); within = omega (arith, o.within); room = o.room }

  -- ---- the end of the items

  pub end_refused : ¬ (height ≡ 0) → read_on [] t ≡ refused 25
  unfolding items
  end_refused g = rw (drop-cons t.stack 0 0 (omega (arith, o.pending)))

  pub end-sized : height ≡ 0 → SizePromise (read_on [] t) (Ok used)
  unfolding items
  end-sized g = rw (length-0 t.stack (sym o.pending ∙ g)) (ap Ok o.given)

-- ---- the first item

pub counts-U : Counts 1 1 after_u
counts-U = record { given = refl; pending = refl; within = omega arith; room = omega arith }

pub counts-T : Counts 3 3 after_t
counts-T = record { given = refl; pending = refl; within = omega arith; room = omega arith }
