-- `write` writes the items one by one: one more stands in the list after each turn (`items-more`).
use mathlib.Core.Path.{sym}
use native.Mathlib.Omega.{arith}
use Rattle.lists.proofs.Overwriting.{from-none}
use Rattle.listing_plain_walk.proofs.Items.{items-more}
use Rattle.listing_plain_walk.proofs.write.Goals as goal

pub loop-i-init : goal.loop-i-init
loop-i-init c = sym (from-none c.args.place c.args.out.now)

pub loop-i-preserved : goal.loop-i-preserved
loop-i-preserved c =
    items-more c.args.out.now c.args.word.now c.loop-i.out c.args.place c.loop-i.i c.args.len c.requires.0 c.requires.1 (omega arith) c.loop-i.invariant
