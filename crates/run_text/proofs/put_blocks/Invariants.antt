-- The rows a block at a time: each turn writes a block more.
use Prim.Native.Nat.{◌-◌}
use Rattle.run_text.proofs.Growing.{Growing}
use Rattle.run_text.proofs.put_blocks.Given as goal

abbrev pub invariant-loop-done : goal.invariant-loop-done
invariant-loop-done l = Growing l.initial.run.size l.p l.rows l.initial.out l.run l.out l.bytes l.kept l.done

abbrev pub decreases-loop-done : goal.decreases-loop-done
decreases-loop-done l = l.rows - l.done
