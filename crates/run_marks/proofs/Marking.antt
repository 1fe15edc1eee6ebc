-- A block that is written, while its rows are marked: each row's lists are the diagram and the word at its position.
use mathlib.Core.Path.{◌≡◌, refl, sym, ap, ◌∙◌}
use mathlib.Core.Logic.{◌⊎◌, inl, inr}
use mathlib.Core.List.{List, [], ◌∷◌, ◌++◌, append_assoc, append-nil}
use Prim.Native.Nat.{ℕ, zero, suc, ◌+◌, ◌*◌, ◌-◌, ◌≤◌, ◌<◌}
use native.Mathlib.Nat.{zero-mul}
use native.Mathlib.Numerals.{add-one}
use native.Mathlib.Omega.{arith}
use lib.ListN.{length, take, drop, get_or, set, length-append, length-set, get_or-append}
use lib.Seq.{take-append_seam, drop-append_seam, get_or-append_seam}
use Rattle.lists.proofs.Lists.{length-1}
use Rattle.lists.proofs.Tests.{lt?}
use Rattle.diagrams.specs.Check.{Accepts}
use Rattle.words.specs.Word.{Pair}
use Rattle.words.specs.Shape.{Word}
use Rattle.lists.proofs.Overwriting.{over-one}
use Rattle.pending_ring.specs.Ring.{Ring}
use Rattle.labelling.specs.Labelling.{word_of}
use Rattle.labelling.specs.Rootings.{Kept}
use Rattle.labelling.proofs.OfLists.{spelled-word_of, spelled-accepted}
use Rattle.labelling_rootings.specs.Among.{NoneBefore}
use Rattle.listing.specs.Listing.{count}
use Rattle.listing.specs.Position.{word_at}
use Rattle.listing.specs.Diagrams.{diagram_at}
use Rattle.listing_successor.proofs.Places.{word_placed}
use Rattle.run_row.specs.Rows.{blacks, whites, flat_words, lengths}
use Rattle.run_marks.specs.Marks.{MarkOf, Marks, BlockHeld, MarksWritten}
use Rattle.run_row.proofs.Blocks.{spelled-of, black-length, white-length, rows_more, blacks-length, whites-length, lengths-length}

-- ---- one part of parts that stand one after another

module _ (f g : ℕ → List ℕ) (grows : (k : ℕ) → f (suc k) ≡ f k ++ g k) where
  split : (i k : ℕ) → i < k → (r : List ℕ) × (f k ≡ f i ++ (g i ++ r))
  split i zero h = absurd (omega arith)
  split i (suc k) h = go (λ l. split i k l) (lt? i k)
    where
      last : i ≡ k → f (suc k) ≡ f i ++ (g i ++ [])
      last e = rw (e, append-nil) (grows k)

      go : (i < k → (r : List ℕ) × (f k ≡ f i ++ (g i ++ r))) → (i < k) ⊎ (k ≤ i) → (r : List ℕ) × (f (suc k) ≡ f i ++ (g i ++ r))
      go before (inl l) = let s = before l in (s.0 ++ g k, grows k ∙ ap (λ (x : List ℕ). x ++ g k) s.1 ∙ simp append_assoc)
      go before (inr l) = ([], last (omega arith))

module _ (x y r b rest : List ℕ) (q : b ≡ (x ++ (y ++ r)) ++ rest) where
  parted : b ≡ x ++ (y ++ (r ++ rest))
  parted = q ∙ simp append_assoc

  part-is : (edge m : ℕ) → edge ≡ length x → m ≡ length y → take (edge + m - edge) (drop edge b) ≡ y
  part-is edge m e d =
      let z : edge + m - edge ≡ length y = omega arith in
      rw (z, e, parted, drop-append_seam x (y ++ (r ++ rest))) (take-append_seam y (r ++ rest))

  part_room : length x + length y ≤ length b
  part_room = rw parted (simp length-append (omega arith))

-- ---- the row at i

-- it is within the lists
pub record Rooms (n edge place l : ℕ) (b0 b1 bw : List ℕ) : Type 0 where
  pub room0 : edge + n ≤ length b0
  pub room1 : edge + n ≤ length b1
  pub room_word : place + l ≤ length bw

module _ {n p k : ℕ} {b0 b1 bw bl : List ℕ} (H : BlockHeld n p k b0 b1 bw bl) (i : ℕ) (h : i < k) where
  abbrev w : List ℕ
  w = word_at n (suc (p + i))

  abbrev D : Pair
  D = diagram_at n (suc (p + i))

  word : Word n w
  word = let v = H.within in word_placed n (p + i) (omega arith)

  within : p + i ≤ count n
  within = let v = H.within in omega arith

  split0 : (r : List ℕ) × (blacks n p k ≡ blacks n p i ++ (D.black ++ r))
  unfolding blacks
  split0 = split (blacks n p) (λ j. (diagram_at n (suc (p + j))).black) (λ j. refl) i k h

  split1 : (r : List ℕ) × (whites n p k ≡ whites n p i ++ (D.white ++ r))
  unfolding whites
  split1 = split (whites n p) (λ j. (diagram_at n (suc (p + j))).white) (λ j. refl) i k h

  split-words : (r : List ℕ) × (flat_words n p k ≡ flat_words n p i ++ (w ++ r))
  unfolding flat_words
  split-words = split (flat_words n p) (λ j. word_at n (suc (p + j))) (λ j. refl) i k h

  split-lengths : (r : List ℕ) × (lengths n p k ≡ lengths n p i ++ ((length w ∷ []) ++ r))
  unfolding lengths
  split-lengths = split (lengths n p) (λ j. length (word_at n (suc (p + j))) ∷ []) (λ j. refl) i k h

  black-n : length D.black ≡ n
  unfolding diagram_at
  black-n = black-length n w word

  white-n : length D.white ≡ n
  unfolding diagram_at
  white-n = white-length n w word

  pub row-length : get_or bl i 0 ≡ length w
  row-length =
      let s = split-lengths in
      let q = parted (lengths n p i) (length w ∷ []) s.0 bl H.rest_lengths (H.lengths_is ∙ ap (λ (x : List ℕ). x ++ H.rest_lengths) s.1) in
      rw q (ap (λ (j : ℕ). get_or (lengths n p i ++ (length w ∷ (s.0 ++ H.rest_lengths))) j 0) (sym (lengths-length n p i)) ∙ get_or-append_seam (lengths n p i) (length w) (s.0 ++ H.rest_lengths) 0)

  pub row_in : i < length bl
  row_in =
      let s = split-lengths in
      let q = part_room (lengths n p i) (length w ∷ []) s.0 bl H.rest_lengths (H.lengths_is ∙ ap (λ (x : List ℕ). x ++ H.rest_lengths) s.1) in
      let l = lengths-length n p i in
      omega arith

  module _ (edge place l : ℕ) (edge_is : edge ≡ i * n) (place_is : place ≡ length (flat_words n p i)) (l-is : l ≡ get_or bl i 0) where
    pub record Here : Type 0 where
      pub s0_is : take (edge + n - edge) (drop edge b0) ≡ D.black
      pub s1_is : take (edge + n - edge) (drop edge b1) ≡ D.white
      pub word_is : take (place + l - place) (drop place bw) ≡ w
      pub rooms : Rooms n edge place l b0 b1 bw

    pub here : Here
    here =
        let s0 = split0 in
        let s1 = split1 in
        let sw = split-words in
        let q0 = H.s0_is ∙ ap (λ (x : List ℕ). x ++ H.rest0) s0.1 in
        let q1 = H.s1_is ∙ ap (λ (x : List ℕ). x ++ H.rest1) s1.1 in
        let qw = H.words_is ∙ ap (λ (x : List ℕ). x ++ H.rest_words) sw.1 in
        let k0 = blacks-length n p i within in
        let k1 = whites-length n p i within in
        let d0 = black-n in
        let d1 = white-n in
        let dl = row-length in
        let r0 = part_room (blacks n p i) D.black s0.0 b0 H.rest0 q0 in
        let r1 = part_room (whites n p i) D.white s1.0 b1 H.rest1 q1 in
        let rw' = part_room (flat_words n p i) w sw.0 bw H.rest_words qw in
        record {
          s0_is = part-is (blacks n p i) D.black s0.0 b0 H.rest0 q0 edge n (omega arith) (sym d0);
          s1_is = part-is (whites n p i) D.white s1.0 b1 H.rest1 q1 edge n (omega arith) (sym d1);
          word_is = part-is (flat_words n p i) w sw.0 bw H.rest_words qw place l place_is (l-is ∙ dl);
          rooms = record { room0 = omega arith; room1 = omega arith; room_word = omega arith };
        }

    -- check would accept the row
    pub here-accepted : Accepts (take (edge + n - edge) (drop edge b0)) (take (edge + n - edge) (drop edge b1)) 1
    unfolding diagram_at
    here-accepted = let E = here in let s = H.sized in rw (E.s0_is, E.s1_is) (spelled-accepted w D (spelled-of n w word) (let d = black-n in omega arith))

    -- and its word is the root's
    pub here-own : word_of (take (edge + n - edge) (drop edge b0)) (take (edge + n - edge) (drop edge b1)) 1 ≡ take (place + l - place) (drop place bw)
    unfolding diagram_at
    here-own = let E = here in rw (E.s0_is, E.s1_is, E.word_is) (spelled-word_of w D (spelled-of n w word))

    pub here-size : length (take (edge + n - edge) (drop edge b0)) ≡ n
    here-size = ap length here.s0_is ∙ black-n

    -- its mark is the diagram's
    pub here-mark : (x : ℕ)
        → let s0 = take (edge + n - edge) (drop edge b0) in
        let s1 = take (edge + n - edge) (drop edge b1) in
        let own = take (place + l - place) (drop place bw) in
        ((x ≡ 1) × NoneBefore s0 s1 own) ⊎ ((x ≡ 0) × (¬ NoneBefore s0 s1 own)) → MarkOf D x
    unfolding Kept NoneBefore diagram_at
    here-mark x m = let E = here in rw (spelled-word_of w D (spelled-of n w word)) (rw (E.s0_is, E.s1_is, E.word_is) at m)

-- ---- the marks so far

pub marks-more : (n p i : ℕ) (m : List ℕ) (x : ℕ) → Marks n p i m → MarkOf (diagram_at n (suc (p + i))) x → Marks n p (suc i) (m ++ (x ∷ []))
marks-more n p i m x M a = record { long = length-1 m x ∙ ap suc M.long; each = each }
  where
    each : (j : ℕ) → j < suc i → MarkOf (diagram_at n (suc (p + j))) (get_or (m ++ (x ∷ [])) j 0)
    each j h = go (lt? j i)
      where
        go : (j < i) ⊎ (i ≤ j) → MarkOf (diagram_at n (suc (p + j))) (get_or (m ++ (x ∷ [])) j 0)
        go (inl l) = let z = M.long in rw (get_or-append m (x ∷ []) 0 j (omega arith)) (M.each j l)
        go (inr l) = let e : j ≡ i = omega arith in rw (e, ← M.long, get_or-append_seam m x [] 0) (rw M.long a)

pub marked-none : (n p : ℕ) (am : List ℕ) → MarksWritten n p 0 am am
marked-none n p am = record { marks = []; are = record { long = refl; each = λ i h. absurd (omega arith) }; written = refl }

pub marked_more : (n p i : ℕ) (am bm : List ℕ) (x : ℕ) → i < length am → MarksWritten n p i am bm → MarkOf (diagram_at n (suc (p + i))) x → MarksWritten n p (i + 1) am (set bm i x)
marked_more n p i am bm x h M a =
    let z = M.are.long in
    rw add-one record {
      marks = M.marks ++ (x ∷ []);
      are = marks-more n p i M.marks x M.are a;
      written = ap (λ (b : List ℕ). set b i x) M.written ∙ over-one M.marks am i x (sym z) h;
    }

-- i rows are marked
pub record Upto (n p i edge place : ℕ) (am bm : List ℕ) : Type 0 where
  pub place_is : place ≡ length (flat_words n p i)
  pub marked : MarksWritten n p i am bm

pub record Marking (n rows : ℕ) (b0 b1 bw bl am bm sp nx pv : List ℕ) (edge place i : ℕ) : Type 0 where
  pub none_pending : Ring nx pv []
  pub stamps_long : length sp ≡ 51
  pub few : i ≤ rows
  pub edge_is : edge ≡ i * n
  pub marks_long : length bm ≡ length am
  pub upto : (p : ℕ) → BlockHeld n p rows b0 b1 bw bl → Upto n p i edge place am bm

pub marking-starts : (n rows : ℕ) (b0 b1 bw bl am sp nx pv : List ℕ) → Ring nx pv [] → length sp ≡ 51 → Marking n rows b0 b1 bw bl am am sp nx pv 0 0 0
unfolding flat_words
marking-starts n rows b0 b1 bw bl am sp nx pv r l = record {
  none_pending = r;
  stamps_long = l;
  few = omega arith;
  edge_is = sym (zero-mul n);
  marks_long = refl;
  upto = λ p H. record { place_is = refl; marked = marked-none n p am };
}

module _ {n rows : ℕ} {b0 b1 bw bl am bm sp nx pv : List ℕ} {edge place i : ℕ} (M : Marking n rows b0 b1 bw bl am bm sp nx pv edge place i) where
  pub marking-done : rows ≤ i → (p : ℕ) → BlockHeld n p rows b0 b1 bw bl → MarksWritten n p rows am bm
  marking-done l p H = let f = M.few in let e : i ≡ rows = omega arith in rw e at (M.upto p H).marked

  module _ (h : i < rows) where
    pub marking-length : (p : ℕ) → BlockHeld n p rows b0 b1 bw bl → i < length bl
    marking-length p H = row_in H i h

    module _ (l : ℕ) (e : l ≡ get_or bl i 0) where
      module _ (p : ℕ) (H : BlockHeld n p rows b0 b1 bw bl) where
        pub marking-rooms : Rooms n edge place l b0 b1 bw
        marking-rooms = (here H i h edge place l M.edge_is (M.upto p H).place_is e).rooms

        pub marking-accepted : Accepts (take (edge + n - edge) (drop edge b0)) (take (edge + n - edge) (drop edge b1)) 1
        marking-accepted = here-accepted H i h edge place l M.edge_is (M.upto p H).place_is e

        pub marking-own : word_of (take (edge + n - edge) (drop edge b0)) (take (edge + n - edge) (drop edge b1)) 1 ≡ take (place + l - place) (drop place bw)
        marking-own = here-own H i h edge place l M.edge_is (M.upto p H).place_is e

        pub marking-small : length (take (edge + n - edge) (drop edge b0)) < length sp
        marking-small = let s = H.sized in let z = here-size H i h edge place l M.edge_is (M.upto p H).place_is e in let k = M.stamps_long in omega arith

      -- one row more
      pub marking-again : (x : ℕ) (sp' nx' pv' : List ℕ) → rows ≤ length am
          → let s0 = take (edge + n - edge) (drop edge b0) in
          let s1 = take (edge + n - edge) (drop edge b1) in
          let own = take (place + l - place) (drop place bw) in
          ((x ≡ 1) × NoneBefore s0 s1 own) ⊎ ((x ≡ 0) × (¬ NoneBefore s0 s1 own)) → Ring nx' pv' [] → length sp' ≡ 51
          → Marking n rows b0 b1 bw bl am (set bm i x) sp' nx' pv' (edge + n) (place + l) (i + 1)
      unfolding flat_words
      marking-again x sp' nx' pv' r m empty long = record {
        none_pending = empty;
        stamps_long = long;
        few = omega arith;
        edge_is = rw add-one (let a = M.edge_is in let s = rows_more n i in omega arith);
        marks_long = length-set bm i x ∙ M.marks_long;
        upto = λ p H.
            let U = M.upto p H in record {
              place_is = rw add-one (ap (λ (j : ℕ). j + l) U.place_is ∙ ap (λ (j : ℕ). length (flat_words n p i) + j) (e ∙ row-length H i h) ∙ sym (length-append (flat_words n p i) (word_at n (suc (p + i)))));
              marked = marked_more n p i am bm x (omega arith) U.marked (here-mark H i h edge place l M.edge_is U.place_is e x m);
            };
      }
