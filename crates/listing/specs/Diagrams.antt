-- The diagram of a word and the diagram at a position (document 01, "Diagram at a position").
--
--   diagram_of w      the diagram that w spells; two empty lists where it spells none
--   diagram_at n p    the diagram at position p of size n: the one that the p-th word spells
use Rattle.std.proofs.Math.Option.{Option, none, some}
use Rattle.std.specs.Prelude.{List, [], ℕ}
use Rattle.words.specs.Word.{Pair, spell}
use Rattle.listing.specs.Position.{word_at}

abbrev pub or_empty : Option Pair → Pair
or_empty none = record { black = []; white = [] }
or_empty (some D) = D

unfoldable pub diagram_of : List ℕ → Pair
diagram_of w = or_empty (spell w)

unfoldable pub diagram_at : ℕ → ℕ → Pair
diagram_at n p = diagram_of (word_at n p)
