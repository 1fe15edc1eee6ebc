-- The pieces of the lines are the summary, and 576 bytes are enough for it.
use mathlib.Core.Path.{◌≡◌, refl, sym, ap, ◌∙◌}
use mathlib.Core.List.{List, [], ◌∷◌, ◌++◌, map, flatten, append_assoc, append-nil}
use Prim.Native.Nat.{ℕ, zero, suc, ◌+◌, ◌*◌, ◌≤◌, ◌<◌}
use native.Mathlib.Nat.{add-zero, suc-mul}
use native.Mathlib.Omega.{arith}
use lib.ListN.{length, length-append}
use Rattle.lists.specs.Ranges.{OneTo, stretch}
use Rattle.words_decimals.specs.Decimals.{decimal, BytesWritten}
use Rattle.words_decimals.proofs.Decimal.{decimal-length}
use Rattle.text_printing_pieces.specs.Pieces.{Output, output, put, put_all}
use Rattle.text_printing_pieces.proofs.Pieces.{flatten-append, puts_then, puts-last, put-all-then}
use Rattle.listing.specs.Listing.{count}
use Rattle.census_definition.specs.Census.{kept_count, summary_line, summary}
use Rattle.census_frame.proofs.Frame.{pieces-written}
use Rattle.census_summary.specs.Lines.{line_pieces, lines_pieces}

-- ---- texts one after another

-- one number more
stretch-more : (f : ℕ → List ℕ) (p k : ℕ) → flatten (map f (stretch p (suc k))) ≡ flatten (map f (stretch p k)) ++ f (p + k)
unfolding flatten
stretch-more f p zero = rw (add-zero, append-nil)
stretch-more f p (suc k) =
    let e : suc p + k ≡ p + suc k = omega arith in
    ap (λ (s : List ℕ). f p ++ s) (stretch-more f (suc p) k)
    ∙ rw e (sym (append_assoc (f p) (flatten (map f (stretch (suc p) k))) (f (p + suc k))))

stretch-length : (f : ℕ → List ℕ) (b : ℕ) → ((n : ℕ) → length (f n) ≤ b) → (p k : ℕ) → length (flatten (map f (stretch p k))) ≤ k * b
unfolding flatten
stretch-length f b h p zero = omega arith
stretch-length f b h p (suc k) =
    let i = stretch-length f b h (suc p) k in
    let j = h p in
    let q = suc-mul k b in
    let l = length-append (f p) (flatten (map f (stretch (suc p) k))) in
    omega arith

-- ---- the lines

module _ (s : List ℕ) where
  line-flat : (n : ℕ) → flatten (line_pieces s n) ≡ summary_line n ++ s
  unfolding flatten line_pieces
  line-flat n = rw append-nil (simp append_assoc)

  lines-flat : (k : ℕ) → flatten (lines_pieces s k) ≡ flatten (map (λ n. summary_line n ++ s) (stretch 1 k))
  unfolding flatten lines_pieces
  lines-flat zero = refl
  lines-flat (suc k) =
      let f : ℕ → List ℕ = λ n. summary_line n ++ s in
      let e : 1 + k ≡ suc k = omega arith in
      flatten-append (lines_pieces s k) (line_pieces s (suc k)) ∙ rw (lines-flat k, line-flat (suc k)) (sym (stretch-more f 1 k ∙ ap (λ (m : ℕ). flatten (map f (stretch 1 k)) ++ f m) e))

  line-length : (n : ℕ) → length s ≤ 2 → length (summary_line n ++ s) ≤ 64
  line-length n h =
      let i = decimal-length n in
      let j = decimal-length (count n) in
      let k = decimal-length (kept_count n) in
      simp length-append (omega arith)

  summary-length : length s ≤ 2 → length (summary s) ≤ 576
  unfolding summary
  summary-length h = stretch-length (λ n. summary_line n ++ s) 64 (λ n. line-length n h) 1 9

  -- it is no shorter than s, with which it ends, so that it can be printed without the last one
  pub behind-within : length s ≤ length (summary s)
  unfolding flatten summary
  behind-within =
      let rest = flatten (map (λ n. summary_line n ++ s) (stretch 2 8)) in
      let a = length-append (summary_line 1 ++ s) rest in
      let b = length-append (summary_line 1) s in
      omega arith

-- ---- the calls that put them

-- the calls for a line, one after another
pub line-put : (s : List ℕ) (n c k : ℕ) (o p q r u v w : Output) → c ≡ count n → k ≡ kept_count n
    → p ≡ put (decimal n) o → q ≡ put (32 ∷ []) p → r ≡ put (decimal c) q → u ≡ put (32 ∷ []) r → v ≡ put (decimal k) u → w ≡ put s v → w ≡ put_all (line_pieces s n) o
unfolding line_pieces
line-put s n c k o p q r u v w e f a b d g h i =
    rw (← f, ← e) (puts_then _ _ _ _ _ a (puts_then _ _ _ _ _ b (puts_then _ _ _ _ _ d (puts_then _ _ _ _ _ g (puts_then _ _ _ _ _ h (puts-last _ _ _ i))))))

-- the lines before that of `size` are put over the beginning of d
pub record LinesPut (s d out : List ℕ) (end size : ℕ) : Type 0 where
  pub done : ℕ
  pub next : size ≡ suc done
  pub few : done ≤ 9
  pub long : length out ≡ length d
  pub pieces : output out end ≡ put_all (lines_pieces s done) (output d 0)

pub lines_none : (s d : List ℕ) → LinesPut s d d 0 1
unfolding lines_pieces put_all
lines_none s d = record { done = 0; next = refl; few = omega arith; long = refl; pieces = refl }

module _ {s d out : List ℕ} {end size : ℕ} (L : LinesPut s d out end size) where
  pub line-listed : size ≤ 9 → OneTo 50 size
  line-listed h = let e = L.next in omega arith

  -- one line more
  pub lines_more : {out' : List ℕ} {end' : ℕ} → size ≤ 9 → length out' ≡ length out → output out' end' ≡ put_all (line_pieces s size) (output out end) → LinesPut s d out' end' (size + 1)
  unfolding lines_pieces
  lines_more {out'} {end'} h l e = record {
    done = suc L.done;
    next = let n = L.next in omega arith;
    few = let n = L.next in omega arith;
    long = l ∙ L.long;
    pieces = put-all-then (lines_pieces s L.done) (line_pieces s (suc L.done)) (output d 0) (output out end) (output out' end') L.pieces (rw L.next at e);
  }

  pub summary-written : 9 < size → 576 ≤ length d → length s ≤ 2 → BytesWritten d 0 (summary s) end out
  unfolding summary
  summary-written h r l =
      let f = L.few in
      let n = L.next in
      let e : L.done ≡ 9 = omega arith in
      let i = summary-length s l in
      pieces-written (lines_pieces s 9) (summary s) d end out (lines-flat s 9) (omega arith) (rw e at L.pieces)
