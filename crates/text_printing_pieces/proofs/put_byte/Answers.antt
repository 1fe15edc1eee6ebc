-- A byte for which there is no room, and one that is stored.
use mathlib.Core.Path.{sym}
use native.Mathlib.Omega.{arith}
use Rattle.text_printing_pieces.proofs.Pieces.{put-short, put-byte-fits}
use Rattle.text_printing_pieces.proofs.put_byte.Goals as goal

pub returns-then-out-place : goal.returns-then-out-place
returns-then-out-place c = sym (put-short _ _ (omega arith))

pub returns : goal.returns
returns c = put-byte-fits _ _ _ (omega arith)
