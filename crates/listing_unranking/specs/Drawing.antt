-- The word at a place and its diagram, written side by side.
--
--   Rooted n p root ..       there is a position p of size n, and room for its word and diagram; the word's first item is root, and the others are the
--                            way to go on at the place
--   Drawing D W a a0 a1 ..   the items of the word W before the place `next` are written over the beginning of the list a, and the lists and the
--                            stack hold the diagram as it stands after them; the other items are the way to go on at the place, and finish the diagram D
use Rattle.std.specs.Prelude.{List, ℕ, length, drop, set}
use Rattle.lists.specs.Ranges.{OneTo}
use Rattle.words.specs.Word.{Pair}
use Rattle.words.specs.Outputs.{Short}
use Rattle.words_spelling_events.specs.States.{State, first_state}
use Rattle.words_spelling_events.specs.Spelling.{SpellingState}
use Rattle.listing.specs.Listing.{count}
use Rattle.listing.specs.Position.{word_at}
use Rattle.listing_places_ways.specs.Steps.{Unranking}

pub record Rooted (n p root free place : ℕ) (a0 a1 a : List ℕ) : Type 0 where
  pub listed : OneTo 50 n
  pub counted : OneTo (count n) p
  pub room : ¬ Short n a0 a1 a
  pub unranking : Unranking (word_at n p) a (set a 0 root) 1 (length (first_state root).pending) free place

pub record Drawing (D : Pair) (W a a0 a1 word stack b0 b1 : List ℕ) (next used height free place : ℕ) : Type 0 where
  pub unranking : Unranking W a word next height free place
  pub state : State
  pub spelling : SpellingState D (drop next W) state a0 a1 stack b0 b1 used height
