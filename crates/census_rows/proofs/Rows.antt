-- Laws of the lines of a block, and the invariant of the loop that puts them.
use mathlib.Core.Path.{◌≡◌, refl, sym, ◌∙◌}
use mathlib.Core.Logic.{◌≢◌}
use mathlib.Core.Bool.{Bool, true, false, cond}
use mathlib.Core.List.{List, []}
use Prim.Native.Nat.{ℕ, ◌+◌, ◌-◌, ◌*◌, ◌≤◌, ◌<◌}
use native.Mathlib.Nat.{zero-mul, suc-mul, mul-le-mul_right}
use native.Mathlib.Numerals.{add-one}
use native.Mathlib.Omega.{arith}
use lib.Dec.{eqb, leb, ltb}
use lib.ListN.{length, get_or, take, drop}
use Rattle.lists.proofs.Tests.{eqb-ne, le-true, le-false, lt-true, lt-false, leb-true, ltb-true}
use Rattle.invariants.specs.Promises.{InvariantsPromise}
use Rattle.std.specs.Prelude.{Result}
use Rattle.invariants.specs.declared.Numbers.{Numbers}
use Rattle.refusals.specs.declared.Refusal.{Refusal}
use Rattle.text_printing.specs.Printing.{output, put_all}
use Rattle.census_lines.specs.Lines.{line_pieces}
use Rattle.census_rows.specs.Rows.{part, items_before, kept_among, rows_printed, RowsPut, none, more, PutRowsPromise}

-- ---- a part of a list

pub part-some : (l : List ℕ) (i k : ℕ) → i + k ≤ length l → take k (drop i l) ≡ part l i k
unfolding part
part-some l i k h = rw (le-true (i + k) (length l) h)

pub part_none : (l : List ℕ) (i k : ℕ) → length l < i + k → [] ≡ part l i k
unfolding part
part_none l i k h = rw (le-false (i + k) (length l) h)

-- the same, as the code has it by its ends
pub part_of : (l : List ℕ) (i k : ℕ) → i + k ≤ length l → take (i + k - i) (drop i l) ≡ part l i k
part_of l i k h = let e : i + k - i ≡ k = omega arith in rw e (part-some l i k h)

-- ---- how many are kept

-- 1 for the mark of a kept diagram, 0 for another
abbrev pub one : ℕ → ℕ
one m = cond (eqb m 1) 1 0

pub one_kept : (m : ℕ) → m ≡ 1 → ◌≡◌ {A = ℕ} 1 (one m)
one_kept m e = rw e

pub none_kept : (m : ℕ) → m ≢ 1 → ◌≡◌ {A = ℕ} 0 (one m)
none_kept m n = rw (eqb-ne m 1 n)

-- ---- how many rows are printed

pub printed-many : (p n k : ℕ) → 48 < k → 0 ≡ rows_printed p n k
unfolding rows_printed
printed-many p n k h = rw (le-false k 48 h)

pub printed-large : (p n k : ℕ) → k ≤ 48 → 50 < n → 0 ≡ rows_printed p n k
unfolding rows_printed
printed-large p n k h w = rw (le-true k 48 h, le-false n 50 w)

pub printed-far : (p n k : ℕ) → k ≤ 48 → n ≤ 50 → 18446744073709551616 ≤ p + k → 0 ≡ rows_printed p n k
unfolding rows_printed
printed-far p n k h w f = rw (le-true k 48 h, le-true n 50 w, lt-false (p + k) 18446744073709551616 f)

pub printed-all : (p n k : ℕ) → k ≤ 48 → n ≤ 50 → p + k < 18446744073709551616 → k ≡ rows_printed p n k
unfolding rows_printed
printed-all p n k h w f = rw (le-true k 48 h, le-true n 50 w, lt-true (p + k) 18446744073709551616 f)

pub record Printed (p n k : ℕ) : Type 0 where
  pub few : k ≤ 48
  pub narrow : n ≤ 50
  pub near : p + k < 18446744073709551616

-- where a row is printed, the rows fit
pub printed-fits : (p n k i : ℕ) → i < rows_printed p n k → Printed p n (rows_printed p n k)
unfolding rows_printed
printed-fits p n k i = go (leb k 48) (leb n 50) (ltb (p + k) 18446744073709551616) (leb-true k 48) (leb-true n 50) (ltb-true (p + k) 18446744073709551616)
  where
    go : (a b c : Bool) → (a ≡ true → k ≤ 48) → (b ≡ true → n ≤ 50) → (c ≡ true → p + k < 18446744073709551616)
        → i < cond a (cond b (cond c k 0) 0) 0 → Printed p n (cond a (cond b (cond c k 0) 0) 0)
    go true true true f g h l = record { few = f refl; narrow = g refl; near = h refl }
    go true true false f g h l = absurd (omega arith)
    go true false c f g h l = absurd (omega arith)
    go false b c f g h l = absurd (omega arith)

-- ---- the loop: i rows are put

pub record RowsMidway (p n k : ℕ) (s0 s1 words lengths marks before : List ℕ) (count : ℕ) (out : List ℕ) (end kept first item i : ℕ) : Type 0 where
  pub within : i ≤ count
  pub count_is : count ≡ rows_printed p n k
  pub long : length out ≡ length before
  pub lines : RowsPut p n s0 s1 words lengths marks i (output before 0) (output out end)
  pub counted : kept ≡ kept_among marks i
  pub few : kept ≤ i
  pub first_is : first ≡ i * n
  pub item_is : item ≡ items_before lengths i
  pub item_small : item ≤ 65535 * i

pub midway-none : (p n k : ℕ) (s0 s1 words lengths marks before : List ℕ) (count : ℕ) → count ≡ rows_printed p n k → RowsMidway p n k s0 s1 words lengths marks before count before 0 0 0 0 0
unfolding kept_among items_before
midway-none p n k s0 s1 words lengths marks before count e = record {
  within = omega arith;
  count_is = e;
  long = refl;
  lines = none;
  counted = refl;
  few = omega arith;
  first_is = sym (zero-mul n);
  item_is = refl;
  item_small = omega arith;
}

module _ {p n k : ℕ} {s0 s1 words lengths marks before : List ℕ} {count : ℕ} {out : List ℕ} {end kept first item i : ℕ}
    (M : RowsMidway p n k s0 s1 words lengths marks before count out end kept first item i) (l : i < count) where
  -- where a row is left, the rows fit
  pub midway-fits : Printed p n count
  midway-fits = rw M.count_is (printed-fits p n k i (rw M.count_is at l))

  pub first_small : first ≤ 2400
  first_small = let h : i ≤ 48 = omega (arith, midway-fits.few) in omega (arith, mul-le-mul_right n h, midway-fits.narrow, M.first_is)

  module _ (m x : ℕ) (w b v out' : List ℕ) (end' : ℕ) where
    -- one row more: its word w, its lists b and v
    pub midway-more : m ≡ get_or lengths i 0 → m ≤ 65535 → x ≡ one (get_or marks i 0) → x ≤ 1 → length out' ≡ length out
        → w ≡ part words item m → b ≡ part s0 first n → v ≡ part s1 first n
        → ((a : Result Numbers Refusal) × InvariantsPromise b v 1 a × (output out' end' ≡ put_all (line_pieces (p + (i + 1)) w b v a (get_or marks i 0)) (output out end)))
        → RowsMidway p n k s0 s1 words lengths marks before count out' end' (kept + x) (first + n) (item + m) (i + 1)
    unfolding kept_among items_before
    midway-more em sm ex sx el ew eb ev (a, q, e) = record {
      within = omega arith;
      count_is = M.count_is;
      long = el ∙ M.long;
      lines = rw (add-one i)
          (more {o'' = output out' end'} a M.lines (rw (← M.first_is, ← eb, ← ev) q)
          (rw (← M.first_is, ← M.item_is, ← em, ← ew, ← eb, ← ev, ← add-one i) e));
      counted = rw (add-one i, M.counted, ex);
      few = let f = M.few in omega arith;
      first_is = rw (M.first_is, add-one i) (sym (suc-mul i n));
      item_is = rw (add-one i, ← M.item_is, ← em);
      item_small = let f = M.item_small in omega arith;
    }

-- all rows are put
pub rows_all : {p n k : ℕ} {s0 s1 words lengths marks before : List ℕ} {count : ℕ} {out : List ℕ} {end kept first item i : ℕ}
    → RowsMidway p n k s0 s1 words lengths marks before count out end kept first item i → count ≤ i
    → PutRowsPromise p n k s0 s1 words lengths marks before out end kept
rows_all {p} {n} {k} {i = i} M h = let e : i ≡ rows_printed p n k = omega (arith, M.count_is, M.within) in record { lines = rw (← e) M.lines; counted = rw (← e) M.counted }
