-- `next_word` meets its contract: the first items of a valid run are its word.
use borrow.Author.Rules.{rules}
use Rattle.std.proofs.Common.{◌≡◌, length, arith}
use Rattle.run_validity.proofs.Validity.{staged-word, valid-length, valid-staged, valid-word}
use Rattle.run_next_diagram.proofs.next_word.Goals as goal

pub slice_bounds-items-end : goal.slice_bounds-items-end
slice_bounds-items-end c =
    let n : length c.args.run.items ≡ 51 = search rules in
    let l = valid-length c.args.run n c.requires in omega arith

pub successor_word-requires : goal.successor_word-requires
successor_word-requires c =
    let n : length c.args.run.items ≡ 51 = search rules in
    (c.requires.sized, staged-word c.args.run.stage _ _ (valid-staged c.args.run n c.requires))

pub returns : goal.returns
returns c =
    let n : length c.args.run.items ≡ 51 = search rules in
    λ S. rw (valid-word _ n S) at c.successor_word.ensures
