-- Label below: down from the top as it stands; up from the bottom in the ring of the reversed stack.
use native.Mathlib.Omega.{arith}
use mathlib.Core.Path.{◌∙◌}
use mathlib.Core.List.{reverse}
use lib.ListN.{length-reverse}
use Rattle.pending_ring.proofs.Reverse.{ring-reverse, get_d_reverse}
use Rattle.pending_ring.proofs.label_below.Goals as goal

pub label_at-requires-2 : goal.label_at-requires-2
label_at-requires-2 c = let (s, r, e, h) = c.requires in (_, reverse s, ring-reverse _ _ s r, omega (arith, length-reverse s))

pub returns : goal.returns
returns c = λ s r e h. c.label_at-2.ensures _ (reverse s) (ring-reverse _ _ s r) (omega (arith, length-reverse s)) ∙ get_d_reverse s _ _ (omega arith)
