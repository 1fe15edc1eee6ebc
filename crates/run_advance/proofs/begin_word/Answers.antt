-- `begin_word` meets its contract: the first item is written and drawn, and `end_word` draws the rest.
use Rattle.std.proofs.Common.{◌≡◌, ℕ, ◌≤◌, true, arith}
use Rattle.words.proofs.Shape.{word-spells}
use Rattle.words_respelling.specs.SpelledSoFar.{ListedWord}
use Rattle.words_respelling.proofs.Laws.{first-spelt, first-room, spelling-begun}
use Rattle.listing_successor.specs.Successor.{state_after_first, can_end}
use Rattle.run_advance.proofs.Laws.{least, root-word, root-drawn, root_ends}
use Rattle.run_advance.proofs.begin_word.Goals as goal

-- the word that is drawn
listed : (n x : ℕ) (q : can_end (state_after_first n x).height (state_after_first n x).free ≡ true) → n ≤ 50 → ListedWord (least n x q)
listed n x q s = (n, s, word-spells n (least n x q) (root-word n x q))

pub begin-m-requires : goal.begin-m-requires
begin-m-requires c =
    let L = listed _ _ c.requires.2 c.requires.1 in
    (c.requires.3.stack_long, (_, _, first-spelt _ L, first-room _ L _ _ _ _ c.requires.3))

pub end_word-requires : goal.end_word-requires
end_word-requires c =
    let L = listed _ _ c.requires.2 c.requires.1 in
    let M = c.begin-m.ensures _ _ (first-spelt _ L) (first-room _ L _ _ _ _ c.requires.3) in
    let R = spelling-begun _ L _ _ _ _ _ _ _ _ _ (omega arith) c.requires.3 M in
    (_, root-drawn _ _ c.requires.2 c.args.items.now c.requires.1 c.requires.0 R, root_ends _ _ c.requires.2 R)

pub returns : goal.returns
returns c =
    let L = listed _ _ c.requires.2 c.requires.1 in
    let M = c.begin-m.ensures _ _ (first-spelt _ L) (first-room _ L _ _ _ _ c.requires.3) in
    let R = spelling-begun _ L _ _ _ _ _ _ _ _ _ (omega arith) c.requires.3 M in
    c.end_word.ensures _ (root-drawn _ _ c.requires.2 c.args.items.now c.requires.1 c.requires.0 R) (root_ends _ _ c.requires.2 R)
