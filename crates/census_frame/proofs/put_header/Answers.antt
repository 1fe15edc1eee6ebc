-- The fixed text, the size, the newline.
use Rattle.text_printing_pieces.proofs.Pieces.{puts_then, puts-last}
use Rattle.census_definition.specs.Census.{header}
use Rattle.census_frame.proofs.Frame.{pieces-written, line-flat, header-length}
use native.Mathlib.Omega.{arith}
use borrow.Author.Rules.{rules}
use Rattle.census_frame.proofs.put_header.Goals as goal

pub returns : goal.returns
unfolding header
returns c =
    let n = c.before in
    pieces-written _ _ _ _ _ (line-flat _ _) (omega (arith, header-length n.args.size, n.requires))
    (puts_then _ _ _ _ _ c.put_text-number.ensures (puts_then _ _ _ _ _ c.put_number-end.ensures (puts-last _ _ _ c.put_byte.ensures)))
