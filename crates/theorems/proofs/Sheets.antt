-- Sheets of words, proved from the laws of cells, from demand 2 for the two calls that a cell stands for, and from the promise for what a call leaves.
use mathlib.Core.Path.{◌≡◌, refl, sym, ap, ◌∙◌}
use mathlib.Core.Logic.{◌⊎◌, inl, inr, ◌≢◌}
use mathlib.Core.Bool.{Bool, true, false, cond}
use mathlib.Core.Option.{some}
use mathlib.Core.List.{List, [], ◌∷◌, map}
use Prim.Native.Nat.{ℕ, zero, suc, ◌+◌, ◌-◌, ◌*◌, ◌≤◌, ◌<◌}
use native.Mathlib.Nat.{not-suc-le-zero, le_of_suc-le-suc}
use native.Mathlib.Omega.{arith}
use lib.Dec.{eqb, leb}
use lib.ListN.{length, get_or, drop, replicate, length-append, length-take, length-drop, length-map, length-replicate, take-append-drop, get_or-append}
use lib.Seq.{length-take-le, take_at, drop_at, get_or-append-add, get_or-drop}
use Rattle.std.specs.Prelude.{Result, Ok, Err}
use Rattle.lists.specs.Lists.{at, All, Has}
use Rattle.lists.specs.Ranges.{OneTo}
use Rattle.lists.specs.Overwriting.{overwrite}
use Rattle.lists.proofs.Tests.{eqb-eq, eqb-ne, cond-all, lt?, le-true, leb-true, le-false}
use Rattle.lists.proofs.Lists.{snoc-has, length-0}
use Rattle.lists.proofs.Overwriting.{over-length}
use Rattle.diagrams.specs.Check.{Accepts}
use Rattle.words.specs.Word.{Pair, Spells, spell}
use Rattle.words.proofs.Shape.{spells-word, word_length}
use Rattle.refusals.specs.declared.Refusal.{Refusal}
use Rattle.refusals.specs.declared.Refusal.TheVariants as refusal
use Rattle.refusals.specs.Numbers.{refusal_number}
use Rattle.refusals.specs.Numbers as numbers
use Rattle.refusals.proofs.Numbers.{number-one}
use Rattle.words_reading.specs.Read.{Read, refused, built, read, with_room, reading_answer, ReadPromise}
use Rattle.labelling.specs.Labelling.{word_of}
use Rattle.listing.specs.Listing.{count}
use Rattle.listing.specs.Position.{word_at, position}
use Rattle.listing_ranking.specs.Answers.{located_position}
use Rattle.listing_ranking.specs.Promises.{PositionPromise}
use Rattle.sheet.specs.declared.CellAnswer.{CellAnswer}
use Rattle.sheet.specs.Cells.{in_cells, cells, word_in, tail_of, blank, refused_with, found_at, located, cell, answers, refusals, positions}
use Rattle.sheet.specs.Promises.{SheetPromise}
use Rattle.sheet.proofs.Cells.{cells_are, either_way, cell-long, cell-marked, cell-read}
use Rattle.sheet.proofs.ReadCells.{ShortRefusals, short-above, read-short-size, read-short-refusals}
use Rattle.theorems.specs.Demand2.{LabelsBack, Outputs, front, Reads, ReadHolds}
use Rattle.theorems.specs.Sheets.{Wide, joined, CellsHold, cell_of, Refusals, CallsAnswer, StandsAt, CellHolds, SheetCall, Answers, pair_at, cell_at, SheetsHold}
use Rattle.theorems.proofs.Demand2.{demand_2, not-both}

-- ---- the cells of a sheet

joined-cells : (k : ℕ) (s : List ℕ) → length s ≡ k * 52 → joined (in_cells k s) ≡ s
joined-cells zero s e = sym (length-0 s (omega arith))
joined-cells (suc k) s e =
    let l : length (drop 52 s) ≡ k * 52 = rw (length-drop 52 s) (omega arith) in
    rw (joined-cells k (drop 52 s) l) (take-append-drop 52 s)

all-wide : (k : ℕ) (s : List ℕ) → length s ≡ k * 52 → All Wide (in_cells k s)
all-wide zero s e = tt
all-wide (suc k) s e =
    let l : length (drop 52 s) ≡ k * 52 = rw (length-drop 52 s) (omega arith) in
    (length-take-le 52 s (omega arith), all-wide k (drop 52 s) l)

joined_length : (cs : List (List ℕ)) → All Wide cs → length (joined cs) ≡ length cs * 52
joined_length [] a = omega arith
joined_length (c ∷ cs) a = let i = joined_length cs a.1 in let h = a.0 in rw (length-append c (joined cs)) (omega arith)

in-joined : (cs : List (List ℕ)) → All Wide cs → in_cells (length cs) (joined cs) ≡ cs
in-joined [] a = refl
in-joined (c ∷ cs) a = rw (take_at c (joined cs) 52 a.0, drop_at c (joined cs) 52 a.0, in-joined cs a.1)

cells_hold : CellsHold
cells_hold = record {
  whole = λ s d. rw (cells_are s d.0 d.1) (joined-cells d.0 s d.1);
  wide = λ s d. rw (cells_are s d.0 d.1) (all-wide d.0 s d.1);
  divided = λ cs a. (length cs, joined_length cs a);
  same = λ cs a. cells_are (joined cs) (length cs) (joined_length cs a) ∙ in-joined cs a;
}

-- ---- the tail of a cell

not-blank : (l : List ℕ) (x : ℕ) → Has x l → x ≢ 0 → blank l ≡ false
not-blank [] x h n = absurd h
not-blank (y ∷ l) x (inl e) n = rw (eqb-ne y 0 (λ z. n (e ∙ z)))
not-blank (y ∷ l) x (inr h) n = rw (not-blank l x h n) (either_way (eqb y 0) false)

all-blank : (l : List ℕ) → All (λ (x : ℕ). x ≡ 0) l → blank l ≡ true
all-blank [] a = refl
all-blank (y ∷ l) a = rw (eqb-eq y 0 a.0) (all-blank l a.1)

-- ---- a cell whose word is read

-- position of a diagram that check accepts
position-answers : (F : Pair) → Accepts F.black F.white 1 → (q : Result ℕ Refusal) → PositionPromise F.black F.white 1 q
    → ((located (built F)).refusal ≡ refusal_number q) × ((located (built F)).position ≡ located_position q 0)
position-answers F A (Ok p) P = let s = P.1 in rw (le-true (length F.black) 50 (omega arith)) (refl, sym P.2)
position-answers F A (Err e) (inl R) = absurd (not-both F.black F.white 1 (numbers.number e) A R)
position-answers F A (Err e) (inr P) = go (lt? 50 (length F.black))
  where
    go : (50 < length F.black) ⊎ (length F.black ≤ 50) → ((located (built F)).refusal ≡ numbers.number e) × ((located (built F)).position ≡ 0)
    go (inl h) = rw (le-false (length F.black) 50 h) (sym P.0, refl)
    go (inr h) = let s = A.size in absurd (P.2 (omega arith))

-- read word refused it, and not as short
not-short : (e : Refusal) → ◌≢◌ {A = Result ℕ Refusal} (Err e) (Err refusal.ListShort) → numbers.number e ≢ 9
not-short e n p = n (ap Err (number-one e refusal.ListShort p))

refused-read : (q : Read) (a b : ℕ) (e : Refusal) (x0 x1 y0 y1 : List ℕ) → ReadPromise (with_room q a b) (Err e) x0 x1 y0 y1
    → numbers.number e ≢ 9 → located q ≡ refused_with (numbers.number e)
refused-read (refused j) a b e x0 x1 y0 y1 G n = ap refused_with (sym G.0)
refused-read (built D) a b e x0 x1 y0 y1 G n = absurd (first (leb (length D.black) a) G)
  where
    second : (c : Bool) → ReadPromise (cond c (built D) (refused 9)) (Err e) x0 x1 y0 y1 → ⊥
    second true H = let q = H.0 in let z : ◌≡◌ {A = ℕ} 0 1 = cc in omega arith
    second false H = n H.0

    first : (c : Bool) → ReadPromise (cond c (cond (leb (length D.black) b) (built D) (refused 9)) (refused 9)) (Err e) x0 x1 y0 y1 → ⊥
    first true H = second (leb (length D.black) b) H
    first false H = n H.0

calls-answer : (w : List ℕ) (O : Outputs) (r : Result ℕ Refusal) → Reads w O r → r ≢ Err refusal.ListShort → CallsAnswer O r (located (read w))
unfolding reading_answer
calls-answer w O (Err e) G n = refused-read (read w) (length O.s0) (length O.s1) e O.s0 O.s1 O.s0_after O.s1_after G (not-short e n)
calls-answer w O (Ok m) G n = λ q P. rw e (position-answers (front m O) H.accepted q P)
  where
    H : ReadHolds w O m
    H = demand_2.reads w O m G

    e : read w ≡ built (front m O)
    e = let s = H.accepted.size in (demand_2.reads_exactly w (front m O)).1 (H.spelled, omega arith)

-- lists of 100 have room
room-enough : (w : List ℕ) → length w ≤ 51 → (O : Outputs) (r : Result ℕ Refusal) → 100 ≤ length O.s0 → 100 ≤ length O.s1 → Reads w O r → r ≢ Err refusal.ListShort
unfolding reading_answer
room-enough w l O r h0 h1 G n = go (read w) refl G
  where
    sized : (D : Pair) → ReadPromise (built D) r O.s0 O.s1 O.s0_after O.s1_after → ⊥
    sized D H = let e = H.0 in let z : ◌≡◌ {A = ℕ} 0 1 = cc in omega arith

    go : (q : Read) → read w ≡ q → ReadPromise (with_room q (length O.s0) (length O.s1)) r O.s0 O.s1 O.s0_after O.s1_after → ⊥
    go (refused k) e H = let z : 9 ≡ k = rw n at H.0 in let b = short-above k (read-short-refusals w k e l) in omega arith
    go (built D) e H =
        let s = read-short-size w D e l in
        sized D (rw (le-true (length D.black) (length O.s0) (omega arith), le-true (length D.black) (length O.s1) (omega arith)) at H)

word_fits : (c : List ℕ) → at c 1 ≤ 51 → length (word_in c) ≤ 51
word_fits c h = rw (length-take (at c 1) (drop 1 c)) (omega arith)

-- ---- the numbers of a cell's answer

-- of a cell with the word w
record Fine (w : List ℕ) (a : CellAnswer) : Type 0 where
  number : Refusals a.refusal
  at_0 : a.refusal ≢ 0 → a.position ≡ 0
  placed : a.refusal ≡ 0 → StandsAt a.position w

fine-61 : (w : List ℕ) → Fine w (refused_with 61)
fine-61 w = record { number = inr (inl refl); at_0 = λ n. refl; placed = λ e. absurd (omega arith) }

fine-31 : (w : List ℕ) → Fine w (refused_with 31)
fine-31 w = record { number = inr (inr (inr (inr (inr (inr (inr (inl refl))))))); at_0 = λ n. refl; placed = λ e. absurd (omega arith) }

fine-read : (w : List ℕ) (k : ℕ) → ShortRefusals k → Fine w (refused_with k)
fine-read w k h =
    let b = short-above k h in
    record { number = inr (inr (snoc-has k (21 ∷ 26 ∷ 22 ∷ 23 ∷ 25 ∷ []) 31 (inl h))); at_0 = λ n. refl; placed = λ e. absurd (omega arith) }

-- the word of the diagram that was read is the word that was read
fine-found : (w : List ℕ) (D : Pair) → read w ≡ built D → length D.black ≤ 50 → Fine w (found_at (position (length D.black) (word_of D.black D.white 1)))
fine-found w D e h = record { number = inl refl; at_0 = λ k. absurd (k refl); placed = λ z. rw B.word there }
  where
    spelt : spell w ≡ some D
    spelt = ((demand_2.reads_exactly w D).0 e).0

    B : LabelsBack w D
    B = demand_2.labels_back w D spelt

    there : StandsAt (position (length D.black) w) w
    there =
        let a = (B.accepted (omega arith)).size in
        let p = (demand_2.listing (length D.black) (omega arith)).word_placed w record { pair = D; spelt = spelt; sized = refl } in
        (length D.black, (omega arith, h), p.0, p.1)

fine-located : (w : List ℕ) → length w ≤ 51 → Fine w (located (read w))
fine-located w l = go (read w) refl
  where
    go : (q : Read) → read w ≡ q → Fine w (located q)
    go (refused k) e = fine-read w k (read-short-refusals w k e l)
    go (built D) e = cond-all (Fine w) (leb (length D.black) 50) _ _ (λ h. fine-found w D e (leb-true (length D.black) 50 h)) (λ h. fine-31 w)

fine-cell : (c : List ℕ) → Fine (word_in c) (cell c)
unfolding cell
fine-cell c =
    cond-all (Fine (word_in c)) (leb (at c 1) 51) _ _
    (λ h. cond-all (Fine (word_in c)) (blank (tail_of c)) _ _ (λ b. fine-located (word_in c) (word_fits c (leb-true (at c 1) 51 h))) (λ b. fine-61 (word_in c)))
    (λ h. fine-61 (word_in c))

cell_holds : (c : List ℕ) → CellHolds c
cell_holds c = record {
  too_long = cell-long c;
  in_tail = λ x h n. cell-marked c (not-blank (tail_of c) x h n);
  as_calls = λ h a O r G n. rw (cell-read c h (all-blank (tail_of c) a)) (calls-answer (word_in c) O r G n);
  long_enough = λ h O r h0 h1 G. room-enough (word_in c) (word_fits c h) O r h0 h1 G;
  numbers = (fine-cell c).number;
  refused_at_0 = (fine-cell c).at_0;
  placed = (fine-cell c).placed;
}

-- ---- the cell of a listed word

zeros-blank : (k : ℕ) → blank (replicate k 0) ≡ true
zeros-blank zero = refl
zeros-blank (suc k) = zeros-blank k

cell-of : (w : List ℕ) → length w ≤ 51 → Wide (cell_of w) × (cell (cell_of w) ≡ located (read w))
cell-of w l = (wide, cell-read (cell_of w) l (ap blank tail ∙ zeros-blank (51 - length w)) ∙ ap (λ (v : List ℕ). located (read v)) word)
  where
    wide : Wide (cell_of w)
    wide = rw (length-append, length-replicate) (omega arith)

    word : word_in (cell_of w) ≡ w
    word = take_at w (replicate (51 - length w) 0) (length w) refl

    tail : tail_of (cell_of w) ≡ replicate (51 - length w) 0
    tail = drop_at w (replicate (51 - length w) 0) (length w) refl

located-spelled : (n : ℕ) (w : List ℕ) → n ≤ 50 → (S : Spells n w) → located (read w) ≡ found_at (position n w)
located-spelled n w h S =
    let z = S.sized in
    rw (
      (demand_2.reads_exactly w S.pair).1 (S.spelt, omega arith),
      le-true (length S.pair.black) 50 (omega arith),
      (demand_2.labels_back w S.pair S.spelt).word,
      S.sized,
    ) refl

found : (n p : ℕ) → n ≤ 50 → OneTo (count n) p → Wide (cell_of (word_at n p)) × (cell (cell_of (word_at n p)) ≡ found_at p)
found n p h o =
    let q = (demand_2.listing n (omega arith)).position_of p o in
    let l = word_length n (word_at n p) (spells-word n (word_at n p) q.0) in
    let c = cell-of (word_at n p) (omega arith) in
    (c.0, c.1 ∙ located-spelled n (word_at n p) h q.0 ∙ ap found_at q.1)

-- ---- what a call leaves

get_or-mapped : {A B : Type 0} (f : A → B) (l : List A) (i : ℕ) (y : B) (x : A) → i < length l → get_or (map f l) i y ≡ f (get_or l i x)
get_or-mapped f [] i y x h = absurd (not-suc-le-zero h)
get_or-mapped f (a ∷ l) zero y x h = refl
get_or-mapped f (a ∷ l) (suc i) y x h = get_or-mapped f l i y x (le_of_suc-le-suc h)

over-behind : (x a : List ℕ) (i : ℕ) → length x ≤ i → get_or (overwrite x a) i 0 ≡ get_or a i 0
over-behind x a i h =
    let e : i ≡ length x + (i - length x) = omega arith in
    ap (λ (j : ℕ). get_or (overwrite x a) j 0) e
    ∙ get_or-append-add x (drop (length x) a) (i - length x) 0
    ∙ get_or-drop (length x) a (i - length x) 0
    ∙ ap (λ (j : ℕ). get_or a j 0) (sym e)

-- a field of the answers to the cells of s, written over a, which is handed back as b
module _ (s a b : List ℕ) (f : CellAnswer → ℕ) (e : b ≡ overwrite (map f (answers s)) a) where
  field-length : length (map f (answers s)) ≡ length (cells s)
  field-length = length-map (answers s) f ∙ length-map (cells s) cell

  field-stands : (i : ℕ) → i < length (cells s) → get_or b i 0 ≡ f (cell (get_or (cells s) i []))
  field-stands i h =
      ap (λ (l : List ℕ). get_or l i 0) e
      ∙ get_or-append (map f (answers s)) _ 0 i (rw field-length h)
      ∙ get_or-mapped f (answers s) i 0 (cell []) (rw (length-map (cells s) cell) h)
      ∙ ap f (get_or-mapped cell (cells s) i (cell []) [] h)

  field-rest : (i : ℕ) → length (cells s) ≤ i → get_or b i 0 ≡ get_or a i 0
  field-rest i h = ap (λ (l : List ℕ). get_or l i 0) e ∙ over-behind (map f (answers s)) a i (rw field-length h)

  field-keeps : ¬ (length a < length (cells s)) → length b ≡ length a
  field-keeps n = ap length e ∙ over-length (map f (answers s)) a (rw field-length (omega arith))

stands : (C : SheetCall) → Answers C → (i : ℕ) → i < length (cells C.numbers) → pair_at C i ≡ cell (cell_at C i)
stands C A i h =
    rw (
      field-stands C.numbers C.refusals C.refusals_after (λ (x : CellAnswer). x.refusal) A.2 i h,
      field-stands C.numbers C.positions C.positions_after (λ (x : CellAnswer). x.position) A.3 i h,
    )

rest : (C : SheetCall) → Answers C → (i : ℕ) → length (cells C.numbers) ≤ i
    → (get_or C.refusals_after i 0 ≡ get_or C.refusals i 0) × (get_or C.positions_after i 0 ≡ get_or C.positions i 0)
rest C A i h = (
  field-rest C.numbers C.refusals C.refusals_after (λ (x : CellAnswer). x.refusal) A.2 i h,
  field-rest C.numbers C.positions C.positions_after (λ (x : CellAnswer). x.position) A.3 i h,
)

lengths : (C : SheetCall) → Answers C → (length C.refusals_after ≡ length C.refusals) × (length C.positions_after ≡ length C.positions)
lengths C A = (
  field-keeps C.numbers C.refusals C.refusals_after (λ (x : CellAnswer). x.refusal) A.2 (λ h. A.1 (inl h)),
  field-keeps C.numbers C.positions C.positions_after (λ (x : CellAnswer). x.position) A.3 (λ h. A.1 (inr h)),
)

empty : (a b c d : List ℕ) (r : Result (Unit {0}) Refusal) → SheetPromise [] a b c d r → (r ≡ Ok tt) × (c ≡ a) × (d ≡ b)
unfolding cells
empty a b c d (Ok u) P = (refl, P.2, P.3)
empty a b c d (Err r) (inl R, e, f) = absurd (R.1 (0, refl))
empty a b c d (Err r) (inr (n, D, inl h), e, f) = absurd (not-suc-le-zero h)
empty a b c d (Err r) (inr (n, D, inr h), e, f) = absurd (not-suc-le-zero h)

pub sheets-hold : SheetsHold
sheets-hold = record {
  cells_hold = cells_hold;
  each_cell = cell_holds;
  found = λ n p s o. found n p s.1 o;
  stands = stands;
  rest = rest;
  lengths = lengths;
  independent = λ C E A B i j h k e. stands C A i h ∙ ap cell e ∙ sym (stands E B j k);
  empty = empty;
}
