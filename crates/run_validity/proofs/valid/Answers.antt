-- `valid` meets its contract: each test is a field of `ValidRun`, and a valid run passes them all.
use borrow.Author.Rules.{rules}
use mathlib.Core.Path.{◌≡◌, sym}
use mathlib.Core.Bool.{true≢false}
use native.Mathlib.Omega.{arith}
use lib.ListN.{length}
use borrow.Author.Tests.{not-true, not-false}
use Rattle.run_validity.proofs.Validity.{valid-yes, valid-length, valid-unused, valid-staged}
use Rattle.run_validity.proofs.valid.Goals as goal

pub returns-then-not-listed : goal.returns-then-not-listed
returns-then-not-listed c = (λ e. absurd (true≢false (sym e)), λ e S. c.listed.ensures.1 c.if-not-listed.true S.sized)

pub returns-then-run : goal.returns-then-run
returns-then-run c =
    let n : length c.args.run.items ≡ 51 = search rules in
    (λ e. absurd (true≢false (sym e)), λ e S. let i = valid-length _ n S in omega arith)

pub staged-requires : goal.staged-requires
staged-requires c = (c.listed.ensures.0 c.if-not-listed.false).1

pub returns-then-zeros : goal.returns-then-zeros
returns-then-zeros c =
    let n : length c.args.run.items ≡ 51 = search rules in
    let l = c.listed.ensures.0 c.if-not-listed.false in (
      λ e. valid-yes _ n l (omega arith) (c.zeros.ensures.0 c.if-zeros.true) (c.staged.ensures.0 e),
      λ e S. c.staged.ensures.1 e (valid-staged _ n S),
    )

pub returns : goal.returns
returns c =
    let n : length c.args.run.items ≡ 51 = search rules in
    (λ e. absurd (true≢false (sym e)), λ e S. c.zeros.ensures.1 c.if-zeros.false (valid-unused _ n S))
