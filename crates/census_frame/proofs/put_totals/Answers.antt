-- The two numbers, each with its text.
use Rattle.text_printing_pieces.proofs.Pieces.{puts_then, puts-last}
use native.Mathlib.Omega.{arith}
use Rattle.census_definition.specs.Census.{totals}
use Rattle.census_frame.proofs.Frame.{pieces-written, totals-flat, totals-length}
use borrow.Author.Rules.{rules}
use Rattle.census_frame.proofs.put_totals.Goals as goal

pub returns : goal.returns
unfolding totals
returns c =
    let n = c.before in
    pieces-written _ _ _ _ _ (totals-flat _ _ _ _) (omega (arith, totals-length n.args.listed n.args.kept, n.requires))
    (puts_then _ _ _ _ _ c.put_number-second.ensures (puts_then _ _ _ _ _ c.put_text-third.ensures (puts_then _ _ _ _ _ c.put_number-last.ensures (puts-last _ _ _ c.put_text.ensures))))
