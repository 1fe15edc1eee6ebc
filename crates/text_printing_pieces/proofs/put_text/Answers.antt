-- A text for which there is no room, and one that is copied over its place.
use mathlib.Core.Path.{sym}
use native.Mathlib.Omega.{arith}
use Rattle.text_printing_pieces.proofs.Pieces.{put-short, put-copied}
use Rattle.text_printing_pieces.proofs.put_text.Goals as goal

pub returns-then-out-place : goal.returns-then-out-place
returns-then-out-place c = sym (put-short _ _ (omega arith))

pub returns-then-out-place-2 : goal.returns-then-out-place-2
returns-then-out-place-2 c = sym (put-short _ _ (omega arith))

pub returns : goal.returns
returns c = put-copied _ _ _ _ (omega arith) c.copy_from_slice.ensures.after
