-- `draw` writes the word and its diagram. The loop's invariant: what is written and drawn, and what is left, are as `Drawing` says.
use mathlib.Core.Path.{◌≡◌}
use mathlib.Core.List.{List}
use Prim.Native.Nat.{ℕ, ◌+◌}
use lib.ListN.{length}
use Rattle.words.specs.Word.{Pair}
use Rattle.listing_unranking.specs.Drawing.{Drawing}
use Rattle.listing_unranking.proofs.draw.Given as goal

abbrev pub invariant-loop-h : goal.invariant-loop-h
invariant-loop-h l = (length l.word ≡ length l.initial.word) × (length l.s0 ≡ length l.initial.s0) × (length l.s1 ≡ length l.initial.s1)
    × ((D : Pair) (W a a0 a1 : List ℕ) → Drawing D W a a0 a1 l.initial.word l.initial.stack l.initial.s0 l.initial.s1 1 l.used l.height l.free l.place → Drawing D W a a0 a1 l.word l.stack l.s0 l.s1 l.i l.u l.h l.f l.p)

abbrev pub decreases-loop-h : goal.decreases-loop-h
decreases-loop-h l = l.h + l.f
