-- Laws of spellings: a beginning of a word, and an item less.
use mathlib.Core.Path.{◌≡◌, refl, sym, ap, ◌∙◌}
use mathlib.Core.Logic.{inl}
use mathlib.Core.Option.{some}
use mathlib.Core.List.{List, [], ◌∷◌, ◌++◌, append_assoc}
use Prim.Native.Nat.{ℕ, suc, ◌+◌, ◌-◌, ◌≤◌, ◌<◌}
use native.Mathlib.Numerals.{add-one}
use native.Mathlib.Omega.{arith}
use lib.ListN.{length, get_or, set, take, drop, length-set, length-append, take-append-drop}
use lib.Seq.{take-suc, take-take, length-take-le}
use Rattle.lists.specs.Lists.{at, remove_at}
use Rattle.lists.specs.Ranges.{OneTo}
use Rattle.lists.proofs.Lists.{length-remove_at, length-put, length-1, length-3}
use Rattle.words.specs.Word.{Pair, spell}
use Rattle.words.proofs.Growing.{p-in}
use Rattle.words.proofs.Growing as growing
use Rattle.words.proofs.Shape.{grows, spells-word, word_length}
use Rattle.words_spelling_events.specs.States.{State, top_label, event_state, state_after, state_of}
use Rattle.words_spelling_events.specs.Spelling.{SpellingHeld}
use Rattle.words_spelling_events.proofs.States.{Goes, ValidState, popped-first, jump-deep, begun-good, begun_more}
use Rattle.words_respelling_undo.specs.SpelledSoFar.{ListedWord, ScratchLengths, BeginningOf, SpelledSoFar, JoinUndone}
use Rattle.words_respelling_undo.proofs.Holding.{low}
use Rattle.words_respelling_undo.proofs.Undone.{undo-W, undo-F, undo-B, undo-J, partner}

-- ---- a beginning of a word

-- one item more
pub take_more : (w : List ℕ) (i : ℕ) → i < length w → take (i + 1) w ≡ take i w ++ (get_or w i 0 ∷ [])
take_more w i l = rw add-one (take-suc w i 0 l)

pub begun-next : (w : List ℕ) (i : ℕ) → 1 ≤ i → i < length w → state_of (take (i + 1) w) ≡ state_after (get_or w i 0) (state_of (take i w))
begun-next w i a l = ap state_of (take_more w i l) ∙ begun_more (take i w) (get_or w i 0) (rw (length-take-le i w (omega arith)) a)

pub listed-begins : (w : List ℕ) (i : ℕ) (L : ListedWord w) → 1 ≤ i → i ≤ length w → BeginningOf (take i w) (drop i w) L.2.pair
listed-begins w i L a l = record {
  some_item = rw (length-take-le i w l) a;
  spelt = ap spell (take-append-drop i w) ∙ L.2.spelt;
  small = let z = L.2.sized in let y = L.1 in omega arith;
}

-- a word is short, so each of its items has a place in the scratch lists
pub place-low : (w : List ℕ) (i : ℕ) → ListedWord w → i < length w → i < 64
place-low w i L l = let z = word_length L.0 w (spells-word L.0 w L.2) in let y = L.1 in omega arith

-- ---- an item less

-- the labels pending below the top after p
abbrev below : List ℕ → List ℕ
below p = remove_at 0 (state_of p).pending

abbrev left : List ℕ → ℕ → ℕ → State
left p x k = event_state x k (below p) (state_of p).black (state_of p).white

-- the spelling of p and the item x, seen from the state that x found: k is the label it popped
pub record Last (p : List ℕ) (x : ℕ) (stack popped s0 s1 : List ℕ) (used h k : ℕ) : Type 0 where
  pub rest : List ℕ
  pub diagram : Pair
  pub begins : BeginningOf p (x ∷ rest) diagram
  pub goes : Goes diagram (x ∷ rest) (state_of p)
  pub valid : growing.State (k ∷ below p) (state_of p).black (state_of p).white
  pub pending_is : (state_of p).pending ≡ k ∷ below p
  pub long : ScratchLengths stack popped s0 s1
  pub holds : SpellingHeld (left p x k).pending (left p x k).black (left p x k).white s0 s1 stack s0 s1 used
  pub height_is : h ≡ length (left p x k).pending
  pub noted : (i : ℕ) → 1 ≤ i → i < length p → get_or popped i 0 ≡ top_label (state_of (take i p))

pub last : (w stack popped s0 s1 : List ℕ) (i used h : ℕ) → 1 ≤ i → i < length w → SpelledSoFar (take (i + 1) w) stack popped s0 s1 used h
    → Last (take i w) (get_or w i 0) stack popped s0 s1 used h (get_or popped i 0)
last w stack popped s0 s1 i used h a l R = rw is-top record {
  rest = R.rest;
  diagram = R.diagram;
  begins = before;
  goes = good.0;
  valid = rw (← first) good.1;
  pending_is = first;
  long = R.long;
  holds = rw (begun-next w i a l) at R.holds;
  height_is = rw (begun-next w i a l) at R.height_is;
  noted = λ j b m.
      let z : j < i = rw (length-take-le i w (omega arith)) at m in
      R.noted j b (rw (length-take-le (i + 1) w (omega arith)) (omega arith)) ∙ rw (take-take j (i + 1) w (omega arith), take-take j i w (omega arith));
}
  where
    is-top : get_or popped i 0 ≡ top_label (state_of (take i w))
    is-top = R.noted i a (rw (length-take-le (i + 1) w (omega arith)) (omega arith)) ∙ rw (take-take i (i + 1) w (omega arith))

    spelt : spell (take i w ++ (get_or w i 0 ∷ R.rest)) ≡ some R.diagram
    spelt = rw (take_more w i l, append_assoc) at R.begins.spelt

    before : BeginningOf (take i w) (get_or w i 0 ∷ R.rest) R.diagram
    before = record { some_item = rw (length-take-le i w (omega arith)) a; spelt = spelt; small = R.begins.small }

    good : Goes R.diagram (get_or w i 0 ∷ R.rest) (state_of (take i w)) × ValidState (state_of (take i w))
    good = begun-good R.diagram (take i w) (get_or w i 0 ∷ R.rest) before.some_item spelt

    first : (state_of (take i w)).pending ≡ top_label (state_of (take i w)) ∷ below (take i w)
    first = popped-first R.diagram (get_or w i 0) R.rest (state_of (take i w)) good.0

-- an item that is spelled has a place in the scratch lists
last-place : (w stack popped s0 s1 : List ℕ) (i used h : ℕ) → i < length w → SpelledSoFar (take (i + 1) w) stack popped s0 s1 used h → i < 64
last-place w stack popped s0 s1 i used h l R =
    let b = R.begins in
    place-low (take (i + 1) w ++ R.rest) i (_, b.small, record { pair = R.diagram; spelt = b.spelt; sized = refl })
    (simp (length-append, length-take-le (i + 1) w (omega arith)) (omega arith))

module _ (p stack popped s0 s1 : List ℕ) (used h k : ℕ) where
  pub record Few : Type 0 where
    pub k-in : OneTo 50 k
    pub lower : length (below p) < length (state_of p).black
    pub small : length (state_of p).black ≤ 50

  few : (x : ℕ) → Last p x stack popped s0 s1 used h k → Few
  few x Z =
      let i = grows (x ∷ Z.rest) (state_of p).pending (state_of p).black (state_of p).white Z.diagram Z.goes in
      let j = Z.begins.small in
      let e = Z.valid.within k (inl refl) in
      record { k-in = omega arith; lower = low (k ∷ below p) (state_of p).black (state_of p).white Z.valid; small = omega arith }

  remade : (x : ℕ) → Last p x stack popped s0 s1 used h k → (q t : List ℕ) (u g : ℕ) → SpellingHeld (k ∷ below p) (state_of p).black (state_of p).white s0 t q s0 t u
      → length t ≡ 64 → g ≡ suc (length (below p)) → SpelledSoFar p q popped s0 t u g
  remade x Z q t u g H l e = record {
    rest = x ∷ Z.rest;
    diagram = Z.diagram;
    begins = Z.begins;
    long = record { stack_long = H.long; popped_long = Z.long.popped_long; s0_long = Z.long.s0_long; s1_long = l };
    holds = rw Z.pending_is H;
    height_is = e ∙ sym (ap length Z.pending_is);
    noted = Z.noted;
  }

  -- ---- W, F, B and Jd

  module _ (Z : Last p 0 stack popped s0 s1 used h k) where
    room-W : h < 50
    unfolding event_state
    room-W = let f = few 0 Z in let e = Z.height_is in omega arith

    pub spelling-W : SpelledSoFar p (set stack h k) popped s0 s1 used (h + 1)
    unfolding event_state
    spelling-W = let i = room-W in let e = Z.height_is in
        remade 0 Z _ _ _ _ (undo-W k (below p) _ _ Z.valid s0 s1 stack used h Z.holds Z.height_is (omega arith)) Z.long.s1_long (omega arith)

  module _ (Z : Last p 1 stack popped s0 s1 used h k) where
    room-F : (2 ≤ h) × (h < 64) × (3 ≤ used)
    unfolding event_state
    room-F =
        let f = few 1 Z in
        let e = Z.height_is in
        let u = Z.holds.used_is ∙ length-3 (state_of p).black _ _ _ in
        (omega arith, omega arith, omega arith)

    pub spelling-F : SpelledSoFar p (set stack (h - 2) k) popped s0 (set s1 (k - 1) k) (used - 3) (h - 1)
    unfolding event_state
    spelling-F = let i = room-F in let e = Z.height_is in
        remade 1 Z _ _ _ _ (undo-F k (below p) _ _ Z.valid s0 s1 stack used h Z.holds Z.height_is i.1) (length-set s1 (k - 1) k ∙ Z.long.s1_long) (omega arith)

  module _ (Z : Last p 2 stack popped s0 s1 used h k) where
    room-B : (h < 50) × (1 ≤ used)
    unfolding event_state
    room-B =
        let f = few 2 Z in
        let e = Z.height_is in
        let u = Z.holds.used_is ∙ length-1 (state_of p).black _ in
        (omega arith, omega arith)

    pub spelling-B : SpelledSoFar p (set stack h k) popped s0 (set s1 (k - 1) k) (used - 1) (h + 1)
    unfolding event_state
    spelling-B = let i = room-B in let e = Z.height_is in
        remade 2 Z _ _ _ _ (undo-B k (below p) _ _ Z.valid s0 s1 stack used h Z.holds Z.height_is (omega arith)) (length-set s1 (k - 1) k ∙ Z.long.s1_long) (omega arith)

  module _ (d : ℕ) (Z : Last p (suc (suc (suc d))) stack popped s0 s1 used h k) where
    deep : d < length (below p)
    deep = jump-deep Z.diagram d Z.rest (state_of p) Z.goes

    high : suc h ≡ length (below p)
    unfolding event_state
    high = ap suc Z.height_is ∙ length-remove_at d (below p) deep

    joined_to : at s1 k ≡ get_or (below p) d 0
    unfolding event_state
    joined_to = partner k (below p) _ _ Z.valid s0 s1 stack used h d deep Z.holds high

    room-J : (d ≤ h) × (h < 63) × (length stack ≡ 64) × (length s1 ≡ 64) × OneTo 64 k × OneTo 64 (at s1 k)
    room-J =
        let f = few _ Z in
        let i = deep in
        let e = high in
        let j = p-in k (below p) _ _ Z.valid d deep in
        (omega arith, omega arith, Z.long.stack_long, Z.long.s1_long, let z = f.k-in in omega arith, rw joined_to (omega arith))

    pub spelling-J : (q t : List ℕ) → JoinUndone stack q s1 t k d h → SpelledSoFar p q popped s0 t used (h + 2)
    unfolding event_state
    spelling-J q t U =
        let i = room-J in
        let e = high in
        remade _ Z _ _ _ _ (undo-J k (below p) _ _ Z.valid s0 s1 stack used h d deep Z.holds high q t i.1 U)
        (ap length U.parted ∙ simp length-put Z.long.s1_long) (omega arith)

-- what is asked for to take an item back, and what the code may rely on then
module _ (w stack popped s1 : List ℕ) (i used h : ℕ) (P : (1 ≤ i) × (i < length w) × ((s0 : List ℕ) × SpelledSoFar (take (i + 1) w) stack popped s0 s1 used h)) where
  seen : Last (take i w) (get_or w i 0) stack popped P.2.0 s1 used h (get_or popped i 0)
  seen = last w stack popped P.2.0 s1 i used h P.0 P.1 P.2.1

  pub known-place : i < 64
  known-place = last-place w stack popped P.2.0 s1 i used h P.1 P.2.1

  pub known-label : OneTo 50 (get_or popped i 0)
  known-label = (few _ _ _ _ _ _ _ _ _ seen).k-in

  pub known-W : get_or w i 0 ≡ 0 → h < 50
  known-W e = room-W _ _ _ _ _ _ _ _ (rw e at seen)

  pub known-F : get_or w i 0 ≡ 1 → (2 ≤ h) × (h < 64) × (3 ≤ used)
  known-F e = room-F _ _ _ _ _ _ _ _ (rw e at seen)

  pub known-B : get_or w i 0 ≡ 2 → (h < 50) × (1 ≤ used)
  known-B e = room-B _ _ _ _ _ _ _ _ (rw e at seen)

  pub known-J : (d : ℕ) → get_or w i 0 ≡ suc (suc (suc d)) → (d ≤ h) × (h < 63) × (length stack ≡ 64) × (length s1 ≡ 64) × OneTo 64 (get_or popped i 0) × OneTo 64 (at s1 (get_or popped i 0))
  known-J d e = room-J _ _ _ _ _ _ _ _ d (rw e at seen)
