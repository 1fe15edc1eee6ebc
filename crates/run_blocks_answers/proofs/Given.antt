-- A block that was written is one whose rows can be marked.
use mathlib.Core.Logic.{inl, inr}
use mathlib.Core.List.{List}
use Prim.Native.Nat.{ℕ, ◌+◌, ◌≤◌}
use native.Mathlib.Omega.{arith}
use lib.ListN.{length, drop}
use Rattle.listing.specs.Listing.{count}
use Rattle.run_answers.specs.declared.Run.{Run}
use Rattle.run_validity.proofs.Standing.{stands-size}
use Rattle.run_row.specs.Rows.{blacks, whites, flat_words, lengths}
use Rattle.run_marks.specs.Marks.{BlockHeld}
use Rattle.run_rows_writing.specs.Promises.{RunAfterRows, RowsGiven}

leaves-within : (n p rows k : ℕ) (next : Run) → RunAfterRows n p rows k next → (p + k ≤ count n) × (k ≤ rows)
leaves-within n p rows k next (inl l) = let a = l.0 in (l.1, omega arith)
leaves-within n p rows k next (inr l) = let a = l.0 in let b = l.1 in (omega arith, omega arith)

module _ {run : Run} {rows k : ℕ} {next : Run} {a0 a1 aw al b0 b1 bw bl : List ℕ} (G : RowsGiven run rows k next a0 a1 aw al b0 b1 bw bl) where
  pub gave-holds : BlockHeld run.size G.place k b0 b1 bw bl
  gave-holds = rw (stands-size G.size G.place run G.stands) record {
    sized = G.stands.sized;
    within = (leaves-within G.size G.place rows k next G.leaves).0;
    rest0 = drop (length (blacks G.size G.place k)) a0;
    s0_is = G.written.s0_written;
    rest1 = drop (length (whites G.size G.place k)) a1;
    s1_is = G.written.s1_written;
    rest_words = drop (length (flat_words G.size G.place k)) aw;
    words_is = G.written.words_written;
    rest_lengths = drop (length (lengths G.size G.place k)) al;
    lengths_is = G.written.lengths_written;
  }

  pub gave-few : k ≤ rows
  gave-few = (leaves-within G.size G.place rows k next G.leaves).1
