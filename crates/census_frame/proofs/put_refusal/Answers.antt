-- The fixed text, the number, the newline.
use Rattle.text_printing_pieces.proofs.Pieces.{puts_then, puts-last}
use Rattle.census_definition.specs.Census.{refusal}
use Rattle.census_frame.proofs.Frame.{pieces-written, line-flat, refusal-length}
use native.Mathlib.Omega.{arith}
use borrow.Author.Rules.{rules}
use Rattle.census_frame.proofs.put_refusal.Goals as goal

pub returns : goal.returns
unfolding refusal
returns c =
    let n = c.before in
    pieces-written _ _ _ _ _ (line-flat _ _) (omega (arith, refusal-length n.args.number, n.requires))
    (puts_then _ _ _ _ _ c.put_text-digits.ensures (puts_then _ _ _ _ _ c.put_number-end.ensures (puts-last _ _ _ c.put_byte.ensures)))
