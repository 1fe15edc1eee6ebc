-- `draw` writes the word and its diagram. The loop's invariant: what is written and drawn, and what is left, are as `Drawing` says.
use mathlib.Core.Path.{◌∙◌}
use native.Mathlib.Omega.{arith}
use lib.ListN.{length-set}
use Rattle.listing_places_ways.proofs.Choices.{unranking-room}
use Rattle.listing_unranking.proofs.Drawing.{drawing-item, drawing-falls, drawing-more, drawing-end}
use Rattle.listing_unranking.proofs.draw.Goals as goal

pub choose-choice-requires : goal.choose-choice-requires
choose-choice-requires c = let (D, W, a, a0, a1, G) = c.requires in let N = (c.loop-h.invariant.3 D W a a0 a1 G).unranking in (c.loop-h-test.true, N.region, N.within)

pub bounds-word-i : goal.bounds-word-i
bounds-word-i c = let (D, W, a, a0, a1, G) = c.requires in unranking-room _ _ _ _ _ _ _ (c.loop-h.invariant.3 D W a a0 a1 G).unranking c.loop-h-test.true

pub event-counts-requires : goal.event-counts-requires
event-counts-requires c =
    let (D, W, a, a0, a1, G) = c.requires in
    let N = c.loop-h.invariant.3 D W a a0 a1 G in
    (D, N.state, _, a0, a1, drawing-item _ _ _ _ _ _ _ _ _ _ _ _ _ _ N _ _ _ _ c.loop-h-test.true c.choose-choice.ensures)

pub loop-h-smaller : goal.loop-h-smaller
loop-h-smaller c =
    let (D, W, a, a0, a1, G) = c.requires in
    let N = c.loop-h.invariant.3 D W a a0 a1 G in
    let C = c.choose-choice.ensures in
    let l = c.loop-h-test.true in
    drawing-falls _ _ _ _ _ _ _ _ _ _ _ _ _ _ N _ _ _ _ l C _ _ _ _ _ (c.event-counts.ensures D N.state _ a0 a1 (drawing-item _ _ _ _ _ _ _ _ _ _ _ _ _ _ N _ _ _ _ l C))

pub loop-h-preserved : goal.loop-h-preserved
loop-h-preserved c = (
  length-set c.loop-h.word c.loop-h.i c.choose-choice.result.item ∙ c.loop-h.invariant.0,
  c.event-counts.auto.s0 ∙ c.loop-h.invariant.1,
  c.event-counts.auto.s1 ∙ c.loop-h.invariant.2,
  λ D W a a0 a1 G.
      let N = c.loop-h.invariant.3 D W a a0 a1 G in
      let C = c.choose-choice.ensures in
      let l = c.loop-h-test.true in
      drawing-more _ _ _ _ _ _ _ _ _ _ _ _ _ _ N _ _ _ _ l C _ _ _ _ _ (c.event-counts.ensures D N.state _ a0 a1 (drawing-item _ _ _ _ _ _ _ _ _ _ _ _ _ _ N _ _ _ _ l C)),
)

pub returns : goal.returns
returns c = λ D W a a0 a1 G. drawing-end _ _ _ _ _ _ _ _ _ _ _ _ _ _ (c.loop-h.invariant.3 D W a a0 a1 G) (omega arith)

pub offset_bounds-word-i : goal.offset_bounds-word-i
offset_bounds-word-i c =
    let (D, W, a, a0, a1, G) = c.requires in
    let r = unranking-room _ _ _ _ _ _ _ (c.loop-h.invariant.3 D W a a0 a1 G).unranking c.loop-h-test.true in
    omega (arith, r, c.loop-h.invariant.0)

pub overflow_add-i : goal.overflow_add-i
overflow_add-i c =
    let (D, W, a, a0, a1, G) = c.requires in
    let r = unranking-room _ _ _ _ _ _ _ (c.loop-h.invariant.3 D W a a0 a1 G).unranking c.loop-h-test.true in
    omega (arith, r, c.loop-h.invariant.0)
