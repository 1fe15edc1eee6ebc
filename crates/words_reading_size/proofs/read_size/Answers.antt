-- The size: 21, then what the items lead to, and at the end 25 or the labels given.
use mathlib.Core.Path.{refl}
use Rattle.std.proofs.lemmas.Result.{err_from_is_err_and}
use Rattle.words_reading.proofs.ReadingLaws.{read-empty, read-long, read-opening}
use Rattle.words_reading_size.proofs.CountingLaws.{end_refused, end-sized}
use Rattle.words_reading_size.proofs.read_size.Goals as goal

pub returns-then-word-eq0 : goal.returns-then-word-eq0
returns-then-word-eq0 c = rw (read-empty c.args.word.now c.if-word-eq0.true) refl

pub returns-then-word : goal.returns-then-word
returns-then-word c = rw (read-long c.args.word.now c.if-word.true) refl

pub returns-in_err-counts : goal.returns-in_err-counts
returns-in_err-counts c =
    let p = err_from_is_err_and c.from_residual.result c.from_residual.ensures.1 in
    rw (read-opening c.args.word.now c.if-word.false, c.in_err-counts.ensures, p.1, p.2) refl

pub returns-then-counts-ne0 : goal.returns-then-counts-ne0
returns-then-counts-ne0 c = let (t, o, e) = c.in_ok-counts.ensures in rw (read-opening c.args.word.now c.if-word.false, e, end_refused _ _ t o c.if-counts-ne0.true) refl

pub returns : goal.returns
returns c = let (t, o, e) = c.in_ok-counts.ensures in rw (read-opening c.args.word.now c.if-word.false, e) (end-sized _ _ t o c.if-counts-ne0.false)
