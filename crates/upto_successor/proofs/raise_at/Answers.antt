-- `raise_at` meets its contract: the beginning of the word filled into zeros, and the event after it.
use Prim.Native.Nat.{◌≤◌}
use native.Mathlib.Omega.{arith}
use lib.ListN.{length, take}
use lib.Seq.{length-take-le}
use Rattle.listing_successor_endings.proofs.Padding.{padded-over}
use Rattle.upto_successor.proofs.Padding.{raised-word}
use Rattle.upto_successor.proofs.raise_at.Goals as goal

pub returns : goal.returns
returns c =
    let p = c.requires in
    let a = c.args in
    let e = length-take-le a.place a.word.now p.0 in
    let l : length (take a.place a.word.now) ≤ 51 = omega arith in
    raised-word (take a.place a.word.now) _ a.place a.event a.pending e p.1 (padded-over (take a.place a.word.now) _ l c.fill.ensures)
