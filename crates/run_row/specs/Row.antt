-- One row of a block: the diagram of a word, written behind the rows before it.
-- Lists named a are as they were before, lists named b as they are after.
--
--   RowRoom n w edge place i ..     w is a word of n edges, and the lists have places for it: black and white from `edge` on, the word
--                                   from `place` on, its length at i
--   RowBegins n w d0 d1             the first n places of d0 and d1 are the lists of the diagram of w
--   RowWritten w edge place i ..    they hold it there, and are else as they were
use Rattle.std.specs.Prelude.{◌≡◌, List, ℕ, ◌+◌, ◌≤◌, ◌<◌, length, take, set}
use Rattle.lists.specs.Overwriting.{overwrite_from}
use Rattle.words.specs.Shape.{Word}
use Rattle.listing.specs.Diagrams.{diagram_of}

pub record RowRoom (n : ℕ) (w : List ℕ) (edge place i : ℕ) (a0 a1 aw al : List ℕ) : Type 0 where
  pub small : n ≤ 50
  pub word : Word n w
  pub room0 : edge + n ≤ length a0
  pub room1 : edge + n ≤ length a1
  pub room_word : place + length w ≤ length aw
  pub room_length : i < length al

pub record RowBegins (n : ℕ) (w d0 d1 : List ℕ) : Type 0 where
  pub in_black : n ≤ length d0
  pub in_white : n ≤ length d1
  pub black_is : take n d0 ≡ (diagram_of w).black
  pub white_is : take n d1 ≡ (diagram_of w).white

pub record RowWritten (w : List ℕ) (edge place i : ℕ) (a0 a1 aw al b0 b1 bw bl : List ℕ) : Type 0 where
  pub s0_is : b0 ≡ overwrite_from edge (diagram_of w).black a0
  pub s1_is : b1 ≡ overwrite_from edge (diagram_of w).white a1
  pub words_is : bw ≡ overwrite_from place w aw
  pub lengths_is : bl ≡ set al i (length w)
