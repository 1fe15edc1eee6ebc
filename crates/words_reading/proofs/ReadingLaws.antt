-- Laws of reading: the pop before an event, the first item, the items one by one, the end, and the whole word. One law for each way out of
-- the code; those of the events are in `words_reading_events`.
use mathlib.Core.Path.{◌≡◌, refl, sym, ap, ◌∙◌}
use mathlib.Core.Bool.{cond}
use mathlib.Core.List.{List, [], ◌∷◌, ◌++◌}
use Prim.Native.Nat.{ℕ, zero, suc, ◌+◌, ◌-◌, ◌≤◌, ◌<◌}
use native.Mathlib.Nat.{pos_of_ne-zero}
use native.Mathlib.Numerals.{add-one}
use native.Mathlib.Omega.{arith}
use lib.Dec.{leb}
use lib.ListN.{length, get_or, set, take, drop, length-set, length-drop, drop_of_length-le}
use lib.Seq.{drop-cons, length-take-le, take-suc-set}
use Rattle.std.specs.Prelude.{Ok}
use Rattle.lists.specs.Lists.{All}
use Rattle.lists.proofs.Tests.{le-true, le-false}
use Rattle.lists.proofs.Lists.{length-0, rest-is}
use Rattle.pending_ring.specs.Ring.{Ring}
use Rattle.words_reading_events.specs.State.{State, after_u, after_t, read_on, ReadingHeld}
use Rattle.words_reading_events.proofs.EventLaws.{size}
use Rattle.words_reading_events.proofs.Stores.{take-3}
use Rattle.words_reading.specs.Read.{Read, refused, built, items, read_first, read, with_room, reading_answer, ReadPromise}

all_drop : (P : ℕ → Type 0) (s : List ℕ) → All P s → All P (drop 1 s)
all_drop P [] a = a
all_drop P (x ∷ s) a = a.1

-- the state after the pop
abbrev pub popped : State → State
popped t = record { stack = drop 1 t.stack; black = t.black; white = t.white }

module _ (nx pv x0 x1 : List ℕ) (u h : ℕ) (t : State) (o : ReadingHeld nx pv x0 x1 u h t) where
  long : length t.black ≡ u
  long = size nx pv x0 x1 u h t o

  -- ---- the pop

  pub popped-holds : (mx pw : List ℕ) → Ring mx pw (drop 1 t.stack) → ReadingHeld mx pw x0 x1 u (h - 1) (popped t)
  popped-holds mx pw r = record {
    ring = r;
    given = all_drop (λ l. l ≤ u) t.stack o.given;
    room = o.room;
    high = rw length-drop (omega (arith, o.high));
    black_long = o.black_long;
    white_long = o.white_long;
    blacks = o.blacks;
    whites = o.whites;
  }

  -- an item meets the label k that was popped and the stack below it
  pub item-met : (item item' k : ℕ) (w : List ℕ) → ¬ (h ≡ 0) → item ≡ item' → k ≡ get_or t.stack 0 0
      → read_on (item ∷ w) t ≡ items (item' ∷ w) (k ∷ drop 1 t.stack) t.black t.white
  item-met item item' k w g e f =
      rw (e, f) (ap (λ (s : List ℕ). items (item' ∷ w) s t.black t.white) (drop-cons t.stack 0 0 (pos_of_ne-zero (λ z. g (o.high ∙ z)))))

  -- W
  pub alone-closed : (k : ℕ) (w : List ℕ) → items (0 ∷ w) (k ∷ drop 1 t.stack) t.black t.white ≡ read_on w (popped t)
  unfolding items
  alone-closed k w = refl

  pub item_refused : h ≡ 0 → (item : ℕ) (w : List ℕ) → read_on (item ∷ w) t ≡ refused 26
  unfolding items
  item_refused g item w = rw (length-0 t.stack (sym o.high ∙ g))

  -- ---- the end of the items

  pub end_refused : ¬ (h ≡ 0) → read_on [] t ≡ refused 25
  unfolding items
  end_refused g = rw (drop-cons t.stack 0 0 (pos_of_ne-zero (λ e. g (o.high ∙ e))))

  end-built : h ≡ 0 → read_on [] t ≡ built record { black = t.black; white = t.white }
  unfolding items
  end-built g = rw (length-0 t.stack (sym o.high ∙ g))

  module _ (g : h ≡ 0) (a b : List ℕ) where
    pub room-refused-black : length a < u → with_room (read_on [] t) (length a) (length b) ≡ refused 9
    room-refused-black l = rw (end-built g, le-false (length t.black) (length a) (omega (arith, long)))

    pub room-refused-white : u ≤ length a → length b < u → with_room (read_on [] t) (length a) (length b) ≡ refused 9
    room-refused-white k l = rw (end-built g, le-true (length t.black) (length a) (omega (arith, long)), le-false (length t.black) (length b) (omega (arith, long)))

    pub room-gave : (n : ℕ) (c d : List ℕ) → n ≡ u → u ≤ length a → u ≤ length b
        → c ≡ cond (leb (length (take n x0)) (length a)) (take n x0 ++ drop (length (take n x0)) a) a
        → d ≡ cond (leb (length (take n x1)) (length b)) (take n x1 ++ drop (length (take n x1)) b) b
        → ReadPromise (with_room (read_on [] t) (length a) (length b)) (Ok u) a b c d
    room-gave n c d e k l p q =
        rw (end-built g, le-true (length t.black) (length a) (omega (arith, long)), le-true (length t.black) (length b) (omega (arith, long)), long, o.blacks, o.whites)
        (refl, filled x0 a c (omega (arith, o.black_long)) k (rw e at p), filled x1 b d (omega (arith, o.white_long)) l (rw e at q))
      where
        filled : (x a c : List ℕ) → u ≤ length x → u ≤ length a → c ≡ cond (leb (length (take u x)) (length a)) (take u x ++ drop (length (take u x)) a) a
            → c ≡ take u x ++ drop u a
        filled x a c i j f = f ∙ rw (length-take-le u x i, le-true u (length a) j)

-- ---- the first item

module _ (nx pv x0 x1 : List ℕ) (e : length x0 ≡ 1024) (f : length x1 ≡ 1024) where
  pub alone-first : Ring nx pv (1 ∷ []) → ReadingHeld nx pv (set x0 0 1) (set x1 0 1) 1 1 after_u
  alone-first r = record {
    ring = r;
    given = (omega arith, tt);
    room = omega arith;
    high = refl;
    black_long = simp length-set e;
    white_long = simp length-set f;
    blacks = sym (take-suc-set x0 0 1 (omega arith));
    whites = sym (take-suc-set x1 0 1 (omega arith));
  }

  pub triple-first : Ring nx pv (3 ∷ 2 ∷ 1 ∷ [])
      → ReadingHeld nx pv (set (set (set x0 0 2) 1 3) 2 1) (set (set (set x1 0 1) 1 2) 2 3) 3 3 after_t
  triple-first r = record {
    ring = r;
    given = (omega arith, (omega arith, (omega arith, tt)));
    room = omega arith;
    high = refl;
    black_long = simp length-set e;
    white_long = simp length-set f;
    blacks = sym (take-3 x0 0 2 3 1 (omega arith));
    whites = sym (take-3 x1 0 1 2 3 (omega arith));
  }

pub opening-alone : (w : List ℕ) → 0 < length w → get_or w 0 0 ≡ 0 → read_first w ≡ read_on (take (length w - 1) (drop 1 w)) after_u
opening-alone [] h e = absurd (omega arith)
opening-alone (x ∷ w) h e = rw (rest-is x w, e)

pub opening-triple : (w : List ℕ) → 0 < length w → get_or w 0 0 ≡ 1 → read_first w ≡ read_on (take (length w - 1) (drop 1 w)) after_t
opening-triple [] h e = absurd (omega arith)
opening-triple (x ∷ w) h e = rw (rest-is x w, e)

pub opening-refused : (w : List ℕ) → 0 < length w → ¬ (get_or w 0 0 ≡ 0) → ¬ (get_or w 0 0 ≡ 1) → read_first w ≡ refused 22
opening-refused [] h m n = absurd (omega arith)
opening-refused (zero ∷ w) h m n = absurd (m refl)
opening-refused (suc zero ∷ w) h m n = absurd (n refl)
opening-refused (suc (suc x) ∷ w) h m n = refl

-- ---- the items one by one

-- i items have led to the state st, and the next one leads on to q
pub rest-next : (rest : List ℕ) (i : ℕ) (t st : State) (q : Read) → i < length rest
    → read_on rest t ≡ read_on (drop i rest) st → read_on (get_or rest i 0 ∷ drop (i + 1) rest) st ≡ q → read_on rest t ≡ q
rest-next rest i t st q h e f = rw (e, drop-cons rest i 0 h, ← add-one i) f

pub rest_end : (rest : List ℕ) (i : ℕ) (t : State) → length rest ≤ i → read_on (drop i rest) t ≡ read_on [] t
rest_end rest i t h = rw (drop_of_length-le rest h)

-- ---- the whole word

pub read-empty : (w : List ℕ) → length w ≡ 0 → read w ≡ refused 21
unfolding read
read-empty w e = rw (length-0 w e)

pub read-long : (w : List ℕ) → 1025 < length w → read w ≡ refused 21
unfolding read
read-long w h = rw (le-false (length w) 1025 h)

pub read-opening : (w : List ℕ) → length w ≤ 1025 → read w ≡ read_first w
unfolding read
read-opening w h = rw (le-true (length w) 1025 h)

module _ (w : List ℕ) (a b : ℕ) where
  roomed : (q : Read) → read w ≡ q → reading_answer w a b ≡ with_room q a b
  unfolding reading_answer
  roomed q e = ap (λ (p : Read). with_room p a b) e

  pub answer-empty : length w ≡ 0 → reading_answer w a b ≡ refused 21
  answer-empty e = roomed (refused 21) (read-empty w e)

  pub answer-long : 1025 < length w → reading_answer w a b ≡ refused 21
  answer-long h = roomed (refused 21) (read-long w h)

  pub answer-opening : length w ≤ 1025 → reading_answer w a b ≡ with_room (read_first w) a b
  answer-opening h = roomed (read_first w) (read-opening w h)
