-- The lines of a block that is written, in a buffer with room for them: they are the rows of its positions, one after another.
use mathlib.Core.Path.{◌≡◌, refl, sym, ap, ◌∙◌, subst}
use mathlib.Core.Logic.{inl, inr}
use mathlib.Core.Bool.{Bool, true, false, cond}
use mathlib.Core.List.{List, ◌++◌, flatten}
use Prim.Native.Nat.{ℕ, zero, suc, ◌+◌, ◌*◌, ◌≤◌, ◌<◌}
use native.Mathlib.Nat.{suc-mul, mul-le-mul, mul-le-mul_right}
use native.Mathlib.Omega.{arith}
use lib.Dec.{eqb}
use lib.ListN.{length, get_or, replicate, length-append, length-replicate, get_or-append}
use Rattle.lists.specs.Ranges.{OneTo}
use Rattle.lists.specs.Overwriting.{overwrite}
use Rattle.lists.proofs.Overwriting.{over-length, over-more}
use Rattle.diagrams.specs.Check.{Accepts}
use Rattle.diagrams.proofs.Checks.{not-both}
use Rattle.words.specs.Shape.{Word}
use Rattle.labelling.proofs.OfLists.{spelled-accepted}
use Rattle.invariants.specs.Promises.{Invariants, InvariantsPromise}
use Rattle.invariants.proofs.SmallLevels.{small-level}
use Rattle.std.specs.Prelude.{Result, Ok, Err}
use Rattle.refusals.specs.declared.Refusal.{Refusal}
use Rattle.refusals.specs.Numbers.{number}
use Rattle.invariants.specs.declared.Numbers.{Numbers}
use Rattle.listing.specs.Listing.{count}
use Rattle.listing.specs.Position.{word_at}
use Rattle.listing.specs.Diagrams.{diagram_of, diagram_at}
use Rattle.listing.proofs.Positions.{at-word}
use Rattle.listing_table.proofs.Counts.{count_small}
use Rattle.run_answers.specs.declared.Run.{Run}
use Rattle.run_answers.specs.Promises.{RunAt, run_after}
use Rattle.run_validity.proofs.Runs.{stands_once}
use Rattle.run_rows_writing.specs.Promises.{ShortRows, RunAfterRows, RowsGiven}
use Rattle.run_blocks_answers.proofs.Given.{gave-holds}
use Rattle.run_row.specs.Rows.{flat_words}
use Rattle.listing.proofs.Spelled.{spelled-of, black-length, white-length}
use Rattle.run_marks.specs.Marks.{MarkOf, BlockHeld, MarksWritten}
use Rattle.run_marks.proofs.Marking.{row-length, Here, here}
use Rattle.text_printing.specs.Printing.{Output, output, put_all}
use Rattle.text_printing.proofs.Printing.{put-all-fits}
use Rattle.census_lines.specs.Lines.{line_pieces}
use Rattle.census_rows.specs.Rows as block
use Rattle.census_rows.specs.Rows.{part, items_before, rows_printed, RowsPut, none, more, PutRowsPromise}
use Rattle.census_rows.proofs.Rows.{part_of, printed-all}
use Rattle.census_definition.specs.Census.{row, rows, kept_among, row_bytes}
use Rattle.census_definition.proofs.Lengths.{row_fits}
use Rattle.census_blocks.specs.Blocks.{RowsText}
use Rattle.census_blocks.proofs.Lines.{line_row, mark-kept}

-- ---- rows one after another

pub rows_fit : (n p k : ℕ) → OneTo 50 n → p + k ≤ count n → length (rows n p k) ≤ k * row_bytes n
unfolding rows
rows_fit n p zero s h = omega arith
rows_fit n p (suc k) s h =
    let i = rows_fit n p k s (omega arith) in
    let j = row_fits n (suc (p + k)) s (omega arith) in
    let q = suc-mul k (row_bytes n) in
    let l = length-append (rows n p k) (row n (suc (p + k))) in
    omega arith

-- ---- one row of a block

-- a diagram of so few edges is answered its invariants: neither check nor its level refuses it
known : (s0 s1 : List ℕ) (a : Result Numbers Refusal) → Accepts s0 s1 1 → length s0 < 64 → InvariantsPromise s0 s1 1 a → (r : Numbers) × (a ≡ Ok r) × Invariants s0 s1 r
known s0 s1 (Ok r) A s P = (r, refl, P.2)
known s0 s1 (Err e) A s (inl R) = absurd (not-both s0 s1 1 (number e) A R)
known s0 s1 (Err e) A s (inr O) = absurd (small-level A s O.2)

module _ {n p k : ℕ} {b0 b1 bw bl : List ℕ} (H : BlockHeld n p k b0 b1 bw bl) where
  items-before : (i : ℕ) → i ≤ k → items_before bl i ≡ length (flat_words n p i)
  unfolding items_before flat_words
  items-before zero h = refl
  items-before (suc i) h =
      let e = items-before i (omega arith) in
      let l = row-length H i (omega arith) in
      let q = length-append (flat_words n p i) (word_at n (suc (p + i))) in
      omega arith

  module _ (i : ℕ) (h : i < k) where
    E : Here H i h (i * n) (items_before bl i) (get_or bl i 0) refl (items-before i (omega arith)) refl
    E = here H i h (i * n) (items_before bl i) (get_or bl i 0) refl (items-before i (omega arith)) refl

    black-part : part b0 (i * n) n ≡ (diagram_at n (suc (p + i))).black
    black-part = sym (part_of b0 (i * n) n E.rooms.room0) ∙ E.s0_is

    white-part : part b1 (i * n) n ≡ (diagram_at n (suc (p + i))).white
    white-part = sym (part_of b1 (i * n) n E.rooms.room1) ∙ E.s1_is

    word-part : part bw (items_before bl i) (get_or bl i 0) ≡ word_at n (suc (p + i))
    word-part = sym (part_of bw (items_before bl i) (get_or bl i 0) E.rooms.room_word) ∙ E.word_is

    word_in : Word n (word_at n (suc (p + i)))
    word_in = let v = H.within in at-word n (suc (p + i)) (omega arith)

    accepted : Accepts (diagram_at n (suc (p + i))).black (diagram_at n (suc (p + i))).white 1
    unfolding diagram_at
    accepted =
        let w = word_at n (suc (p + i)) in
        let s = H.sized in
        let l = black-length n w word_in in
        spelled-accepted w (diagram_of w) (spelled-of n w word_in) (omega arith)

    sized-black : length (diagram_at n (suc (p + i))).black ≡ n
    unfolding diagram_at
    sized-black = black-length n (word_at n (suc (p + i))) word_in

    sized-white : length (diagram_at n (suc (p + i))).white ≡ n
    unfolding diagram_at
    sized-white = white-length n (word_at n (suc (p + i))) word_in

    -- the pieces of its line are its row
    row-pieces : (a : Result Numbers Refusal) (m : ℕ) → InvariantsPromise (part b0 (i * n) n) (part b1 (i * n) n) 1 a → MarkOf (diagram_at n (suc (p + i))) m
        → flatten (line_pieces (p + suc i) (part bw (items_before bl i) (get_or bl i 0)) (part b0 (i * n) n) (part b1 (i * n) n) a m) ≡ row n (suc (p + i))
    row-pieces a m P k =
        let D = diagram_at n (suc (p + i)) in
        let P' : InvariantsPromise D.black D.white 1 a = rw (black-part, white-part) at P in
        let s = H.sized in
        let l = sized-black in
        let r = known D.black D.white a accepted (omega arith) P' in
        let e : p + suc i ≡ suc (p + i) = omega arith in
        rw (black-part, white-part, word-part, r.1, e) (line_row n (suc (p + i)) r.0 m word_in sized-black sized-white s.0 r.2 k)

-- ---- the rows of a block

-- one row more, put behind those before it
row-behind : (x y a : List ℕ) (ss : List (List ℕ)) (o o' : Output) → o ≡ output (overwrite x a) (length x) → flatten ss ≡ y → length x + length y ≤ length a → o' ≡ put_all ss o
    → o' ≡ output (overwrite (x ++ y) a) (length (x ++ y))
row-behind x y a ss o o' e f h q =
    q ∙ ap (put_all ss) e
    ∙ put-all-fits ss (output (overwrite x a) (length x)) (rw (f, over-length x a (omega arith)) h)
    ∙ rw (f, over-more x a (overwrite x a) (length x) refl refl y (omega arith), length-append x y)

module _ {n p k : ℕ} {b0 b1 bw bl : List ℕ} (H : BlockHeld n p k b0 b1 bw bl) {am bm : List ℕ} (M : MarksWritten n p k am bm) where
  mark-at : (i : ℕ) → i < k → MarkOf (diagram_at n (suc (p + i))) (get_or bm i 0)
  mark-at i h = let l = M.are.long in rw (M.written, get_or-append M.marks _ 0 i (omega arith)) (M.are.each i h)

  pub block-text : (i : ℕ) (a : List ℕ) (o : Output) → i ≤ k → k * row_bytes n ≤ length a
      → RowsPut p n b0 b1 bw bl bm i (output a 0) o → o ≡ output (overwrite (rows n p i) a) (length (rows n p i))
  unfolding rows
  block-text zero a o h r none = refl
  block-text (suc i) a o h r (more x R P e) =
      let w = H.within in
      let s = H.sized in
      let l = rows_fit n p (suc i) s (omega arith) in
      let q = length-append (rows n p i) (row n (suc (p + i))) in
      let m = mul-le-mul_right (row_bytes n) h in
      row-behind (rows n p i) (row n (suc (p + i))) a _ _ o (block-text i a _ (omega arith) r R) (row-pieces H i h x (get_or bm i 0) P (mark-at i h)) (omega arith) e

  pub block-kept : (i : ℕ) → i ≤ k → block.kept_among bm i ≡ kept_among n p i
  unfolding block.kept_among kept_among
  block-kept zero h = refl
  block-kept (suc i) h = rw (block-kept i (omega arith), kept-one (mark-kept (diagram_at n (suc (p + i))) (get_or bm i 0) (let l = sized-black H i h in let s = H.sized in omega arith) (mark-at i h)))
    where
      kept-one : {b : Bool} → cond (eqb (get_or bm i 0) 1) true false ≡ b → cond (eqb (get_or bm i 0) 1) 1 0 ≡ cond {A = ℕ} b 1 0
      kept-one q = rw (← q) (go (eqb (get_or bm i 0) 1))
        where
          go : (x : Bool) → cond x 1 0 ≡ cond {A = ℕ} (cond x true false) 1 0
          go true = refl
          go false = refl

-- ---- a block of a run, in lists with room for 48 rows of 50 edges

roomy : (n k : ℕ) (a0 a1 aw al : List ℕ) → n ≤ 50 → k ≤ 48 → length a0 ≡ 2400 → length a1 ≡ 2400 → length aw ≡ 2448 → length al ≡ 48 → ¬ ShortRows n k a0 a1 aw al
roomy n k a0 a1 aw al h l e0 e1 ew el = go
  where
    go : ¬ ShortRows n k a0 a1 aw al
    go (inl s) = let i = mul-le-mul l h in omega arith
    go (inr (inl s)) = let i = mul-le-mul l h in omega arith
    go (inr (inr (inl s))) = let j : suc n ≤ 51 = omega arith in let i = mul-le-mul l j in omega arith
    go (inr (inr (inr s))) = omega arith

pub lists-room : (n k : ℕ) → n ≤ 50 → k ≤ 48 → ¬ ShortRows n k (replicate 2400 0) (replicate 2400 0) (replicate 2448 0) (replicate 48 0)
lists-room n k h l = roomy n k (replicate 2400 0) (replicate 2400 0) (replicate 2448 0) (replicate 48 0) h l (length-replicate {A = ℕ} 2400 0) (length-replicate {A = ℕ} 2400 0) (length-replicate {A = ℕ} 2448 0) (length-replicate {A = ℕ} 48 0)

-- as many rows as are asked for, where the list has so many
all-given : (n p asked k : ℕ) (next : Run) → p + asked ≤ count n → RunAfterRows n p asked k next → (k ≡ asked) × (next ≡ run_after n (p + k))
all-given n p asked k next h (inl (e, l, q)) = (e, q)
all-given n p asked k next h (inr (l, e, q)) = absurd (omega arith)

module _ {run : Run} {p asked k : ℕ} {next : Run} {a0 a1 aw al b0 b1 bw bl : List ℕ} (R : RunAt run.size p run) (G : RowsGiven run asked k next a0 a1 aw al b0 b1 bw bl) where
  -- the size and the place that the block tells of are the run's
  pub held : BlockHeld run.size p k b0 b1 bw bl
  held = let o = stands_once G.stands R in rw o.1 at (gave-holds G)

  pub leaves : RunAfterRows run.size p asked k next
  leaves = let o = stands_once G.stands R in rw (o.0, o.1) at G.leaves

  -- and its text is that of the rows
  pub block-whole : {am bm a b : List ℕ} {place kept : ℕ} → p + asked ≤ count run.size → asked ≤ 48 → asked * row_bytes run.size ≤ length a
      → ((q : ℕ) → BlockHeld run.size q k b0 b1 bw bl → MarksWritten run.size q k am bm) → PutRowsPromise p run.size k b0 b1 bw bl bm a b place kept
      → RowsText run.size p asked a place kept next b
  block-whole {am} {bm} {a} {b} {place} {kept} left few room marks P =
      let n = run.size in
      let e = all-given n p asked k next left leaves in
      let w = held.within in
      let s = held.sized in
      let t = count_small n s in
      let q = printed-all p n k (omega (arith, e.0)) s.1 (omega arith) in
      let M = marks p held in
      let x = block-text held M k a (output b place) (omega arith) (rw e.0 room) (rw (← q) at P.lines) in
      subst (λ (m : ℕ). RowsText n p m a place kept next b) e.0 record {
        bytes_are = ap (λ (o : Output). o.next) x;
        kept_are = (rw (← q) at P.counted) ∙ block-kept held M k (omega arith);
        next_is = e.1;
        written = ap (λ (o : Output). o.bytes) x;
      }
