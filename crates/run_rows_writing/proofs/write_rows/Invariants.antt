-- `write_rows` meets its contract: before each row the block is as `Midlist` says, and the scratch lists hold the diagram of the last row's word.
use borrow.Author.Rules.{rules}
use Prim.Native.Nat.{◌≤◌, ◌-◌}
use mathlib.Core.Path.{sym}
use native.Mathlib.Omega.{arith}
use lib.ListN.{length, take}
use lib.Seq.{length-take-le}
use Rattle.run_advance.specs.Drawing.{WordHeld}
use Rattle.run_row.specs.Row.{RowRoom}
use Rattle.run_rows_writing.proofs.Midlist.{Midlist, midlist-starts, mid-small, mid-within, mid-word, mid-long, mid_done, mid-ends, mid-next-within, mid-held, mid-begins, mid-room, mid-again}
use Rattle.run_rows_writing.proofs.write_rows.Given as goal

abbrev pub invariant-loop-i : goal.invariant-loop-i
invariant-loop-i l =
    Midlist l.run l.rows l.initial.s0 l.initial.s1 l.initial.words l.initial.lengths l.stage l.items l.l l.edge l.place l.i l.s0 l.s1 l.words l.lengths × WordHeld l.run.size (take l.l l.items) l.stack l.popped l.d0 l.d1
