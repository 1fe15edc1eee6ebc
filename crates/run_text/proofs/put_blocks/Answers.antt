-- The rows a block at a time: each turn writes a block more.
use native.Mathlib.Omega.{arith}
use borrow.Author.Rules.{rules}
use Rattle.listing_table.proofs.Counts.{count_small}
use Rattle.run_text.proofs.Growing.{growing-none, bytes-within, kept_small, block-asks, growing-more, growing-all}
use Rattle.run_text.proofs.put_blocks.Goals as goal

pub loop-done-init : goal.loop-done-init
loop-done-init c = growing-none _ _ _ _ _ c.requires.0

pub overflow_sub-rows : goal.overflow_sub-rows
overflow_sub-rows c = c.loop-done.invariant.few

pub overflow_add-p : goal.overflow_add-p
overflow_add-p c =
    let P = c.requires in
    let f = c.loop-done.invariant.few in
    omega (arith, count_small _ P.0.sized, P.1)

pub put_block-block-requires : goal.put_block-block-requires
put_block-block-requires c =
    let P = c.requires in
    let G = c.loop-done.invariant in
    block-asks P.0.sized P.1 P.2 G _ (omega (arith, c.min-count.ensures)) (omega (arith, c.min-count.ensures, G.few))

pub overflow_add-bytes : goal.overflow_add-bytes
overflow_add-bytes c =
    let P = c.requires in
    let G = c.loop-done.invariant in
    let H = growing-more P.0.sized P.1 P.2 G _ _ _ _ _ (omega (arith, c.min-count.ensures, G.few)) c.put_block-block.ensures in
    let b = bytes-within P.0.sized P.1 P.2 H in
    let l = H.long in
    search rules

pub overflow_add-kept : goal.overflow_add-kept
overflow_add-kept c =
    let P = c.requires in
    let G = c.loop-done.invariant in
    let H = growing-more P.0.sized P.1 P.2 G _ _ _ _ _ (omega (arith, c.min-count.ensures, G.few)) c.put_block-block.ensures in
    omega (arith, kept_small P.0.sized P.1 P.2 H, H.few)

pub overflow_add-done : goal.overflow_add-done
overflow_add-done c = omega (arith, c.min-count.ensures, c.loop-done.invariant.few)

pub loop-done-smaller : goal.loop-done-smaller
loop-done-smaller c = omega (arith, c.min-count.ensures, c.loop-done.invariant.few)

pub loop-done-preserved : goal.loop-done-preserved
loop-done-preserved c =
    let P = c.requires in
    let G = c.loop-done.invariant in
    growing-more P.0.sized P.1 P.2 G _ _ _ _ _ (omega (arith, c.min-count.ensures, G.few)) c.put_block-block.ensures

pub returns : goal.returns
returns c = let P = c.requires in growing-all P.0.sized P.1 P.2 c.loop-done.invariant (omega arith)
