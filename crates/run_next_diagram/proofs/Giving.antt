-- A word that is held in 51 places: its beginning is the word, and what is written from it is the diagram that it spells, the word and the run.
use mathlib.Core.Path.{◌≡◌, ap, ◌∙◌}
use mathlib.Core.Bool.{cond}
use mathlib.Core.Option.{some}
use mathlib.Core.List.{List, ◌++◌}
use Prim.Native.Nat.{ℕ, suc, ◌-◌, ◌≤◌}
use native.Mathlib.Omega.{arith}
use lib.Dec.{leb}
use lib.ListN.{length, take, drop, replicate, length-append}
use lib.Seq.{take-append_seam}
use Rattle.lists.proofs.Tests.{le-true}
use Rattle.words.specs.Word.{spell, Spells}
use Rattle.words.specs.Shape.{Word}
use Rattle.words.specs.Outputs.{overwrite}
use Rattle.words.proofs.Shape.{word-spells, word_length}
use Rattle.listing.specs.Diagrams.{diagram_of}
use Rattle.listing_successor.specs.declared.Held.{Held}
use Rattle.listing_successor.specs.Successor.{padded_word, word_as_held}
use Rattle.run_answers.specs.declared.Run.{Run}
use Rattle.run_answers.specs.Promises.{at_word}

module _ (n : ℕ) (w : List ℕ) (next : Held) (e : next ≡ word_as_held w) (a : Word n w) where
  pub held-length : next.length ≡ length w
  held-length = ap (λ (h : Held). h.length) e

  held_items : next.items ≡ padded_word w
  held_items = ap (λ (h : Held). h.items) e

  pub held_small : next.length ≤ suc n
  held_small = rw held-length (word_length n w a)

  pub held-within : next.length ≤ length next.items
  held-within = rw (held-length, held_items, length-append) (omega arith)

  pub held_word : take next.length next.items ≡ w
  held_word = rw (held-length, held_items) (take-append_seam w (replicate (51 - length w) 0))

  pub held-spells : Spells n (take next.length next.items)
  held-spells = rw held_word (word-spells n w a)

  pub held-diagram : spell (take next.length next.items) ≡ some (diagram_of w)
  unfolding diagram_of
  held-diagram = let s = word-spells n w a in rw (held_word, s.spelt)

  pub held_at : ◌≡◌ {A = Run} record { size = n; stage = 1; length = next.length; items = next.items } (at_word n w)
  held_at = rw (held-length, held_items)

  pub held-over : (aw bw : List ℕ) → suc n ≤ length aw → let u = take next.length next.items in bw ≡ cond (leb (length u) (length aw)) (u ++ drop (length u) aw) aw → bw ≡ overwrite w aw
  held-over aw bw l q = q ∙ rw (held_word, le-true (length w) (length aw) (let i = word_length n w a in omega arith))
