-- Each part goes on where the text has come to, and so the parts together are the census.
use mathlib.Core.Path.{◌≡◌, refl, sym, ap, ◌∙◌}
use mathlib.Core.Logic.{inl, inr}
use mathlib.Core.List.{List, ◌++◌, flatten, append_assoc, append-nil}
use Prim.Native.Nat.{ℕ, ◌+◌, ◌-◌, ◌^◌, ◌≤◌, ◌<◌, min}
use native.Mathlib.Nat.{zero-add}
use native.Mathlib.Omega.{arith}
use lib.ListN.{length, take}
use Rattle.std.specs.Prelude.{Ok, Err}
use Rattle.lists.specs.Ranges.{OneTo}
use Rattle.lists.proofs.Overwriting.{from-0, over-part, over-within}
use Rattle.words_decimals.specs.Decimals.{BytesWritten}
use Rattle.listing.specs.Listing.{count}
use Rattle.listing_table.proofs.Counts.{count_small}
use Rattle.run_answers.specs.declared.Run.{Run}
use Rattle.run_answers.specs.Promises.{RunAt}
use Rattle.run_validity.proofs.Runs.{stands_once, stands-not-over}
use Rattle.refusals.specs.declared.Refusal.{Refusal}
use Rattle.run_text.specs.declared.TextRows.{TextRows}
use Rattle.run_text.specs.Promises.{RowsPromise}
use Rattle.run_text.proofs.Growing.{rows_then}
use Rattle.census_definition.specs.Census.{header, rows, kept_among, totals, census, row_bytes}
use Rattle.census_definition.proofs.Kept.{kept_then, kept-most}
use Rattle.census_blocks.specs.Blocks.{RowsText}
use Rattle.census_parts.specs.declared.Progress.{Progress}
use Rattle.census_parts.specs.Parts.{begun, InProgress, printed, PartGiven, Parts, over, more, PartsAreCensus}

pub begins : (n : ℕ) → OneTo 50 n → InProgress (begun n)
unfolding kept_among
begins n s = record { sized = s; staged = omega arith; none_yet = λ e. refl; within = omega arith; counted = refl; run_left = refl }

-- ---- what a line leaves at the beginning of the list

line_taken : (s d e : List ℕ) (r : ℕ) → BytesWritten d 0 s r e → (take r e ≡ s) × (r ≤ length e)
line_taken s d e r w =
    let q : r ≡ length s = w.next ∙ zero-add (length s) in
    let b = w.bytes ∙ from-0 s d in
    (over-part s d r e q b, over-within s d r e q b)

module _ {c : Progress} (I : InProgress c) where
  pub header-given : {d e : List ℕ} {r : ℕ} → c.stage ≡ 0 → BytesWritten d 0 (header c.size) r e
      → PartGiven c record { size = c.size; stage = 1; listed = c.listed; kept = c.kept; run = c.run } r e
  unfolding rows
  header-given {d} {e} {r} z w =
      let t = line_taken (header c.size) d e r w in
      record {
        goes_on = record { sized = I.sized; staged = omega arith; none_yet = λ q. absurd (omega arith); within = I.within; counted = I.counted; run_left = I.run_left };
        same_size = refl;
        fits = t.1;
        text = rw (t.0, z, I.none_yet z) (append-nil (header c.size));
        falls = omega arith;
      }

  pub last-given : {d e : List ℕ} {r : ℕ} → c.stage ≡ 1 → c.listed ≡ count c.size → BytesWritten d 0 (totals c.listed c.kept) r e
      → PartGiven c record { size = c.size; stage = 2; listed = c.listed; kept = c.kept; run = c.run } r e
  unfolding census
  last-given {d} {e} {r} z q w =
      let t = line_taken (totals c.listed c.kept) d e r w in
      record {
        goes_on = record { sized = I.sized; staged = omega arith; none_yet = λ q. absurd (omega arith); within = I.within; counted = I.counted; run_left = I.run_left };
        same_size = refl;
        fits = t.1;
        text = rw (t.0, z, I.counted, q) (sym (append_assoc (header c.size) (rows c.size 0 (count c.size)) (totals (count c.size) (kept_among c.size 0 (count c.size)))));
        falls = omega arith;
      }

  stands : RunAt c.size c.listed c.run
  stands = record { sized = I.sized; within = I.within; is = I.run_left }

  -- the rows that follow
  rows-given-at : {k m j : ℕ} {next : Run} {a b : List ℕ} → c.stage ≡ 1 → c.listed < count c.size → k ≡ min 128 (count c.size - c.listed)
      → RowsText c.size c.listed k a m j next b
      → PartGiven c record { size = c.size; stage = 1; listed = c.listed + k; kept = c.kept + j; run = next } m b
  rows-given-at {k} {m} {j} {next} {a} {b} z l e T =
      let n = c.size in
      let p = c.listed in
      let s : rows n 0 (p + k) ≡ rows n 0 p ++ rows n p k = rw zero-add at (rows_then n 0 p k) in
      let t : kept_among n 0 (p + k) ≡ kept_among n 0 p + kept_among n p k = rw zero-add at (kept_then n 0 p k) in
      record {
        goes_on = record {
          sized = I.sized;
          staged = omega arith;
          none_yet = λ q. absurd (omega arith);
          within = omega arith;
          counted = rw (I.counted, T.kept_are) (sym t);
          run_left = T.next_is;
        };
        same_size = refl;
        fits = over-within (rows n p k) a m b T.bytes_are T.written;
        text = rw (over-part (rows n p k) a m b T.bytes_are T.written, z, s) (sym (append_assoc (header n) (rows n 0 p) (rows n p k)));
        falls = omega arith;
      }

  pub rows_given : {t : TextRows} {next : Run} {a b : List ℕ} → c.stage ≡ 1 → c.listed < count c.size → RowsPromise c.run 128 a next b (Ok t)
      → PartGiven c record { size = c.size; stage = 1; listed = c.listed + t.rows; kept = c.kept + t.kept; run = next } t.bytes b
  rows_given z l (inl x) = absurd (stands-not-over stands x.0.1)
  rows_given {t} {next} {a} {b} z l (inr (n, p, R, room, e, T)) =
      let o = stands_once R stands in
      rows-given-at z l (rw (o.0, o.1) at e) (rw (o.0, o.1) at T)

  -- and they are never refused
  pub rows-refused : (e : Refusal) {next : Run} {a b : List ℕ} → 65536 ≤ length a → RowsPromise c.run 128 a next b (Err e) → ⊥
  unfolding row_bytes
  rows-refused f h (inl x, q, r) = x.1 c.size c.listed stands
  rows-refused f h (inr (e, (n, p, R, s)), q, r) = let o = R.sized in omega arith

-- the numbers after a part are small
pub listed_small : {c next : Progress} {bytes : ℕ} {b : List ℕ} → PartGiven c next bytes b → next.listed < 2 ^ 50
listed_small {next = next} G = let s = count_small next.size G.goes_on.sized in let w = G.goes_on.within in omega arith

pub kept-within : {c next : Progress} {bytes : ℕ} {b : List ℕ} → PartGiven c next bytes b → next.kept ≤ next.listed
kept-within {next = next} G = let m = kept-most next.size 0 next.listed in let e = G.goes_on.counted in omega arith

-- ---- all parts

parts_whole : {c : Progress} {ss : List (List ℕ)} → Parts c ss → printed c ++ flatten ss ≡ census c.size
unfolding flatten
parts_whole {c} (over e) = rw e (append-nil (census c.size))
parts_whole {c} (more {ss = ss} next bytes b G P) =
    sym (append_assoc (printed c) (take bytes b) (flatten ss))
    ∙ ap (λ (s : List ℕ). s ++ flatten ss) (sym G.text)
    ∙ parts_whole P
    ∙ ap census G.same_size

pub parts-are-census : PartsAreCensus
parts-are-census n ss s P = parts_whole P
