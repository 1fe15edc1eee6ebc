-- `insert_at` moves the entries from a place on up by one, the uppermost first. The loop's invariant, `Rising`: those from place i on are moved.
use Prim.Native.Nat.{◌≤◌}
use Rattle.words_respelling_undo.proofs.Lists.{Rising}
use Rattle.words_respelling_undo.proofs.insert_at.Given as goal

abbrev pub invariant-loop-i : goal.invariant-loop-i
invariant-loop-i l = (l.place ≤ l.i) × (l.i ≤ l.height) × Rising l.initial.stack l.stack l.i l.height
