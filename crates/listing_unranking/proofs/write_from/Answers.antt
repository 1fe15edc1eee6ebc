-- `write_from` writes the first item, draws it, and goes on from there.
use mathlib.Core.Path.{refl}
use Rattle.listing_unranking.proofs.Drawing.{rooted-room, rooted-spells, rooted-drawing}
use Rattle.listing_unranking.proofs.write_from.Goals as goal

pub begin-first-requires : goal.begin-first-requires
begin-first-requires c =
    let (n, p, R) = c.requires in
    (refl, (_, _, rooted-spells _ _ _ _ _ _ _ _ R, rooted-room _ _ _ _ _ _ _ _ R))

pub draw-requires : goal.draw-requires
draw-requires c =
    let (n, p, R) = c.requires in
    (_, _, _, _, _, rooted-drawing _ _ _ _ _ _ _ _ R _ _ _ _ _ (c.begin-first.ensures _ _ (rooted-spells _ _ _ _ _ _ _ _ R) (rooted-room _ _ _ _ _ _ _ _ R)))

pub returns : goal.returns
returns c = λ n p R. c.draw.ensures _ _ _ _ _ (rooted-drawing _ _ _ _ _ _ _ _ R _ _ _ _ _ (c.begin-first.ensures _ _ (rooted-spells _ _ _ _ _ _ _ _ R) (rooted-room _ _ _ _ _ _ _ _ R)))
