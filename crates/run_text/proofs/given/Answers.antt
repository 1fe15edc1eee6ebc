-- A fresh run has given none; otherwise the first items of a valid run are its word, whose position tells.
use Rattle.std.proofs.Common.{rules, ◌≡◌, length, arith}
use Rattle.words.proofs.Shape.{word-spells}
use Rattle.run_validity.proofs.Validity.{valid-length, valid-word}
use Rattle.run_text.proofs.Growing.{given-none, given_word, given-some}
use Rattle.run_text.proofs.given.Goals as goal

pub returns-then-run-eq0 : goal.returns-then-run-eq0
returns-then-run-eq0 c = given-none c.args.run c.requires.0 c.requires.1 c.if-run-eq0.true

pub slice_bounds-items-end : goal.slice_bounds-items-end
slice_bounds-items-end c =
    let n : length c.args.run.items ≡ 51 = search rules in
    let l = valid-length c.args.run n c.requires.0 in omega arith

pub position_of-requires : goal.position_of-requires
position_of-requires c =
    let n : length c.args.run.items ≡ 51 = search rules in
    let w = valid-word c.args.run n c.requires.0 in
    (rw w (word-spells _ _ (given_word c.args.run c.requires.0 c.requires.1 c.if-run-eq0.false)), c.requires.0.sized.1)

pub returns : goal.returns
returns c =
    let n : length c.args.run.items ≡ 51 = search rules in
    given-some c.args.run c.requires.0 c.requires.1 c.if-run-eq0.false _ (valid-word c.args.run n c.requires.0) _ c.position_of.ensures
