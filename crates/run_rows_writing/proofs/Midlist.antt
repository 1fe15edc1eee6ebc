-- A block while its rows are written: what holds before each row, and what the promise of `list` says after the last.
use mathlib.Core.Path.{◌≡◌, refl, sym, ap, ◌∙◌}
use mathlib.Core.Logic.{◌≢◌, ◌⊎◌, inl, inr}
use mathlib.Core.List.{List, []}
use Prim.Native.Nat.{ℕ, zero, suc, ◌+◌, ◌*◌, ◌≤◌, ◌<◌}
use native.Mathlib.Nat.{zero-mul, add-zero, add-suc, mul-le-mul_right}
use native.Mathlib.Numerals.{add-one}
use native.Mathlib.Omega.{arith}
use lib.ListN.{length, take, set, length-append, length-replicate}
use lib.Seq.{length-take-le, take-append_seam}
use Rattle.lists.specs.Ranges.{OneTo}
use Rattle.words.specs.Shape.{Word}
use Rattle.lists.proofs.Overwriting.{over-length, over-one, over-more}
use Rattle.words.proofs.Shape.{word_length}
use Rattle.listing.specs.Listing.{count}
use Rattle.listing.specs.Position.{word_at}
use Rattle.listing.specs.Diagrams.{diagram_of, diagram_at}
use Rattle.listing_successor.specs.Successor.{successor, padded_word}
use Rattle.listing_successor.proofs.Places.{word_placed, following-at}
use Rattle.run_advance.specs.Drawing.{Drawn, WordHeld}
use Rattle.run_answers.specs.declared.Run.{Run}
use Rattle.run_answers.specs.Promises.{run_after, finished, RunAt}
use Rattle.run_validity.proofs.Standing.{none_after, some_after}
use Rattle.run_row.specs.Rows.{blacks, whites, flat_words, lengths}
use Rattle.run_row.specs.Row.{RowRoom, RowBegins, RowWritten}
use Rattle.run_rows_writing.specs.Promises.{run_of, ShortRows, Block, RowsGiven}
use Rattle.run_row.proofs.Blocks.{spelled-begins, rows_more, rows-within, blacks-length, whites-length, words-length, lengths-length}

-- the word that a run is at, [] where it is fresh, stands in the first of its 51 items
pub record RunWord (n q : ℕ) (stage : ℕ) (items : List ℕ) (len : ℕ) : Type 0 where
  pub stage_is : stage ≡ (run_after n q).stage
  pub long : length items ≡ 51
  pub within : len ≤ 51
  pub word_is : take len items ≡ word_at n q

stands_word : (n q : ℕ) (run : Run) → RunAt n q run → RunWord n q run.stage run.items run.length
unfolding word_at
stands_word n zero run T = rw T.is record { stage_is = refl; long = refl; within = omega arith; word_is = refl }
stands_word n (suc q) run T =
    let w = word_at n (suc q) in
    let l = word_length n w (word_placed n q T.within) in
    let s = T.sized in
    rw T.is record { stage_is = refl; long = rw (length-append, length-replicate) (omega arith); within = omega arith; word_is = take-append_seam w _ }

-- with zeros after the word it is the run
word_stands : (n q stage len : ℕ) (items : List ℕ) → RunWord n q stage items len → run_of n stage len (padded_word (take len items)) ≡ run_after n q
unfolding word_at
word_stands n q stage len items W = go q W.stage_is (take len items) W.word_is (sym (let z = W.long in let y = W.within in length-take-le len items (omega arith)))
  where
    go : (q : ℕ) → stage ≡ (run_after n q).stage → (u : List ℕ) → u ≡ word_at n q → len ≡ length u → run_of n stage len (padded_word u) ≡ run_after n q
    go zero s u e l = rw (s, l, e)
    go (suc q) s u e l = rw (s, l, e)

word_some : (n q stage len : ℕ) (items : List ℕ) → q ≤ count n → RunWord n q stage items len → (take len items ≡ []) ⊎ Word n (take len items)
unfolding word_at
word_some n zero stage len items l W = inl W.word_is
word_some n (suc q) stage len items l W = inr (rw W.word_is (word_placed n q l))

-- lists that are not short
long-rows : (n rows : ℕ) (a0 a1 aw al : List ℕ) → ¬ ShortRows n rows a0 a1 aw al → (rows * n ≤ length a0) × (rows * n ≤ length a1) × (rows * suc n ≤ length aw) × (rows ≤ length al)
long-rows n rows a0 a1 aw al k = (by _ _ (λ l. k (inl l)), by _ _ (λ l. k (inr (inl l))), by _ _ (λ l. k (inr (inr (inl l)))), by _ _ (λ l. k (inr (inr (inr l)))))
  where
    by : (m l : ℕ) → ¬ (l < m) → m ≤ l
    by m l k = omega arith

-- i rows are written, and the run has come to the fields stage, len and items
pub record Midlist (run : Run) (rows : ℕ) (a0 a1 aw al : List ℕ) (stage : ℕ) (items : List ℕ) (len edge place i : ℕ) (b0 b1 bw bl : List ℕ) : Type 0 where
  pub began : ℕ
  pub stands : RunAt run.size began run
  pub roomy : ¬ ShortRows run.size rows a0 a1 aw al
  pub inside : began + i ≤ count run.size
  pub come : RunWord run.size (began + i) stage items len
  pub edge_is : edge ≡ i * run.size
  pub place_is : place ≡ length (flat_words run.size began i)
  pub few : i ≤ rows
  pub written : Block run.size began i a0 a1 aw al b0 b1 bw bl

-- before the first row
pub midlist-starts : (run : Run) (rows : ℕ) (a0 a1 aw al : List ℕ) (p : ℕ) → RunAt run.size p run → ¬ ShortRows run.size rows a0 a1 aw al
    → Midlist run rows a0 a1 aw al run.stage run.items run.length 0 0 0 a0 a1 aw al
unfolding blacks whites flat_words lengths
midlist-starts run rows a0 a1 aw al p T k = record {
  began = p;
  stands = T;
  roomy = k;
  inside = rw add-zero T.within;
  come = rw add-zero (stands_word run.size p run T);
  edge_is = sym (zero-mul run.size);
  place_is = refl;
  few = omega arith;
  written = record { s0_written = refl; s1_written = refl; words_written = refl; lengths_written = refl };
}

module _ {run : Run} {rows : ℕ} {a0 a1 aw al : List ℕ} {stage : ℕ} {items : List ℕ} {len edge place i : ℕ} {b0 b1 bw bl : List ℕ} (M : Midlist run rows a0 a1 aw al stage items len edge place i b0 b1 bw bl) where
  abbrev n : ℕ
  n = run.size

  abbrev p : ℕ
  p = M.began

  abbrev w : List ℕ
  w = word_at n (suc (p + i))

  pub mid-small : OneTo 50 n
  mid-small = M.stands.sized

  pub mid-within : len ≤ length items
  mid-within = let z = M.come.long in let y = M.come.within in omega arith

  pub mid-word : (take len items ≡ []) ⊎ Word n (take len items)
  mid-word = word_some n (p + i) stage len items M.inside M.come

  -- the lists are as long as they were
  pub record AsLong : Type 0 where
    pub s0 : length b0 ≡ length a0
    pub s1 : length b1 ≡ length a1
    pub words : length bw ≡ length aw
    pub lengths : length bl ≡ length al

  pub mid-long : AsLong
  mid-long =
      let L = long-rows n rows a0 a1 aw al M.roomy in
      let v = M.inside in
      let c0 = blacks-length n p i v in
      let c1 = whites-length n p i v in
      let cw = words-length n p i v in
      let cl = lengths-length n p i in
      let m = mul-le-mul_right n M.few in
      let mw = mul-le-mul_right (suc n) M.few in
      let f = M.few in
      record {
        s0 = ap length M.written.s0_written ∙ over-length (blacks n p i) a0 (omega arith);
        s1 = ap length M.written.s1_written ∙ over-length (whites n p i) a1 (omega arith);
        words = ap length M.written.words_written ∙ over-length (flat_words n p i) aw (omega arith);
        lengths = ap length M.written.lengths_written ∙ over-length (lengths n p i) al (omega arith);
      }

  next_is : successor n (take len items) ≡ w
  next_is = rw M.come.word_is (following-at n (p + i) M.stands.sized.0 M.inside)

  -- after the last row that was asked for
  pub mid_done : rows ≤ i → RowsGiven run rows i (run_of n stage len (padded_word (take len items))) a0 a1 aw al b0 b1 bw bl
  mid_done l = record {
    size = n;
    place = p;
    stands = M.stands;
    roomy = M.roomy;
    leaves = inl (let f = M.few in omega arith, M.inside, word_stands n (p + i) stage len items M.come);
    written = M.written;
  }

  -- the next word, in the first len' of the items
  module _ {len' : ℕ} {items' stack popped d0 d1 : List ℕ} (D : Drawn n (successor n (take len items)) len' items' stack popped d0 d1) (more : i < rows) where
    next-length : len' ≡ length w
    next-length = D.length_is ∙ ap length next_is

    -- after the last of the list
    pub mid-ends : len' ≡ 0 → RowsGiven run rows i (finished n) a0 a1 aw al b0 b1 bw bl
    mid-ends z = record {
      size = n;
      place = p;
      stands = M.stands;
      roomy = M.roomy;
      leaves = inr (more, none_after n (p + i) M.inside (sym next-length ∙ z), refl);
      written = M.written;
    }

    module _ (z : len' ≢ 0) where
      inside : p + i < count n
      inside = some_after n (p + i) M.inside (λ y. z (next-length ∙ y))

      word : Word n w
      word = word_placed n (p + i) inside

      mid-next : take len' items' ≡ w
      mid-next = D.items_are ∙ next_is

      next-come : RunWord n (suc (p + i)) 1 items' len'
      next-come = record {
        stage_is = refl;
        long = D.long;
        within = let e = next-length in let k = word_length n w word in let s = M.stands.sized in omega arith;
        word_is = mid-next;
      }

      pub mid-next-within : len' ≤ length items'
      mid-next-within = let e = next-come.long in let k = next-come.within in omega arith

      -- it is drawn
      pub mid-held : WordHeld n (take len' items') stack popped d0 d1
      mid-held = let R = D.spelled (λ e. z (D.length_is ∙ ap length e)) in record { long = R.long; held = inr (rw mid-next word, rw D.items_are R) }

      pub mid-begins : RowBegins n (take len' items') d0 d1
      mid-begins = rw D.items_are (spelled-begins n (successor n (take len items)) (rw next_is word) M.stands.sized.1 n 0 stack popped d0 d1 (D.spelled (λ e. z (D.length_is ∙ ap length e))))

      -- there is room for the row
      pub mid-room : RowRoom n (take len' items') edge place i b0 b1 bw bl
      mid-room =
          let L = long-rows n rows a0 a1 aw al M.roomy in
          let v = M.inside in
          let cw = words-length n p i v in
          let r0 = rows-within n i rows (length a0) more L.0 in
          let r1 = rows-within n i rows (length a1) more L.1 in
          let rw' = rows-within (suc n) i rows (length aw) more L.2 in
          let rl = L.3 in
          let l = mid-long in
          let a = M.edge_is in
          let q = M.place_is in
          let k = word_length n w word in
          rw mid-next record {
            small = M.stands.sized.1;
            word = word;
            room0 = omega arith;
            room1 = omega arith;
            room_word = omega arith;
            room_length = omega arith;
          }

      -- the row leaves the block one row longer
      pub mid-again : (c0 c1 cw cl : List ℕ) → RowWritten (take len' items') edge place i b0 b1 bw bl c0 c1 cw cl → Midlist run rows a0 a1 aw al 1 items' len' (edge + n) (place + len') (i + 1) c0 c1 cw cl
      unfolding blacks whites flat_words lengths diagram_at
      mid-again c0 c1 cw cl R0 =
          let R : RowWritten w edge place i b0 b1 bw bl c0 c1 cw cl = rw mid-next at R0 in
          let L = long-rows n rows a0 a1 aw al M.roomy in
          let v = M.inside in
          let k0 = blacks-length n p i v in
          let k1 = whites-length n p i v in
          let kw = words-length n p i v in
          let kl = lengths-length n p i in
          let r0 = rows-within n i rows (length a0) more L.0 in
          let r1 = rows-within n i rows (length a1) more L.1 in
          let rw' = rows-within (suc n) i rows (length aw) more L.2 in
          let rl = L.3 in
          let a = M.edge_is in
          rw add-one record {
            began = p;
            stands = M.stands;
            roomy = M.roomy;
            inside = rw add-suc inside;
            come = rw add-suc next-come;
            edge_is = let e = rows_more n i in omega arith;
            place_is = ap (λ (k : ℕ). place + k) next-length ∙ ap (λ (k : ℕ). k + length w) M.place_is ∙ sym (length-append (flat_words n p i) w);
            few = more;
            written = record {
              s0_written = R.s0_is ∙ over-more (blacks n p i) a0 b0 edge (omega arith) M.written.s0_written (diagram_of w).black (omega arith);
              s1_written = R.s1_is ∙ over-more (whites n p i) a1 b1 edge (omega arith) M.written.s1_written (diagram_of w).white (omega arith);
              words_written = R.words_is ∙ over-more (flat_words n p i) aw bw place M.place_is M.written.words_written w (omega arith);
              lengths_written = R.lengths_is ∙ ap (λ (b : List ℕ). set b i (length w)) M.written.lengths_written ∙ over-one (lengths n p i) al i (length w) (sym kl) (omega arith);
            };
          }
