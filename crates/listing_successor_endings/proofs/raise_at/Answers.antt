-- `raise_at` meets its contract: the beginning of the word filled into zeros, and then `grow`.
use mathlib.Core.Path.{sym}
use mathlib.Core.List.{◌∷◌, ◌++◌}
use native.Mathlib.Omega.{arith}
use Prim.Native.Nat.{◌≤◌}
use lib.ListN.{length, take}
use lib.Seq.{length-take-le}
use Rattle.listing_successor_endings.proofs.Padding.{padded-over, shared-word-is}
use Rattle.listing_successor_endings.specs.Endings.{least_ending}
use Rattle.listing_successor_endings.proofs.raise_at.Goals as goal

pub append_event-length-requires : goal.append_event-length-requires
append_event-length-requires c =
    let p = c.requires in
    let a = c.args in
    let e = length-take-le a.place a.word.now p.0 in
    let l : length (take a.place a.word.now) ≤ 51 = omega arith in
    (take a.place a.word.now, padded-over (take a.place a.word.now) _ l c.fill.ensures, sym e, p.1, p.2, p.3)

pub returns : goal.returns
returns c =
    let p = c.requires in
    let a = c.args in
    let e = length-take-le a.place a.word.now p.0 in
    let l : length (take a.place a.word.now) ≤ 51 = omega arith in
    shared-word-is a.place (take a.place a.word.now ++ (a.event ∷ least_ending a.height a.free)) _ _ (c.append_event-length.ensures (take a.place a.word.now) (padded-over (take a.place a.word.now) _ l c.fill.ensures) (sym e))
