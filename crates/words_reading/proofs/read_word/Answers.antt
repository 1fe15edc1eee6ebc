-- Read word: 21, then what the items lead to.
use mathlib.Core.Path.{refl}
use Rattle.std.proofs.lemmas.Result.{err_from_is_err_and}
use Rattle.words_reading.proofs.ReadingLaws.{answer-empty, answer-long, answer-opening}
use Rattle.words_reading.proofs.read_word.Goals as goal

pub returns-then-word-eq0 : goal.returns-then-word-eq0
returns-then-word-eq0 c = rw (answer-empty c.args.word.now _ _ c.if-word-eq0.true) (refl, refl, refl)

pub returns-then-word : goal.returns-then-word
returns-then-word c = rw (answer-long c.args.word.now _ _ c.if-word.true) (refl, refl, refl)

pub returns-in_err-counts : goal.returns-in_err-counts
returns-in_err-counts c =
    let p = err_from_is_err_and c.from_residual.result c.from_residual.ensures.1 in
    rw (answer-opening c.args.word.now _ _ c.if-word.false, c.in_err-counts.ensures, p.1, p.2) (refl, refl, refl)

pub returns : goal.returns
returns c = let (t, o, e) = c.in_ok-counts.ensures in rw (answer-opening c.args.word.now _ _ c.if-word.false, e) (c.finish.ensures _ _ t o)
