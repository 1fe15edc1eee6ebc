-- `row` meets its contract: each list is written from its place on.
use Rattle.std.proofs.Common.{arith}
use Rattle.words.proofs.Shape.{word_length}
use Rattle.run_row.proofs.row.Goals as goal

pub overflow_cast-lengths : goal.overflow_cast-lengths
overflow_cast-lengths c =
    let l = word_length c.args.n c.args.word.now c.requires.0.word in
    let s = c.requires.0.small in
    record { fits = omega arith }
