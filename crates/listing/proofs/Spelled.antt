-- The diagram of a word: the word spells it, and it has as many edges as the word says.
use mathlib.Core.Path.{◌≡◌, ◌∙◌}
use mathlib.Core.Option.{some}
use mathlib.Core.List.{List}
use Prim.Native.Nat.{ℕ}
use lib.ListN.{length}
use Rattle.words.specs.Word.{spell}
use Rattle.words.specs.Shape.{Word}
use Rattle.words.proofs.Shape.{word-spells}
use Rattle.words.proofs.Spelled.{spelled-lengths}
use Rattle.listing.specs.Diagrams.{diagram_of}

module _ (n : ℕ) (w : List ℕ) (a : Word n w) where
  pub spelled-of : spell w ≡ some (diagram_of w)
  unfolding diagram_of
  spelled-of = let s = word-spells n w a in rw s.spelt

  pub black-length : length (diagram_of w).black ≡ n
  unfolding diagram_of
  black-length = let s = word-spells n w a in rw s.spelt s.sized

  pub white-length : length (diagram_of w).white ≡ n
  unfolding diagram_of
  white-length = let s = word-spells n w a in rw s.spelt (spelled-lengths w s.pair s.spelt ∙ s.sized)
