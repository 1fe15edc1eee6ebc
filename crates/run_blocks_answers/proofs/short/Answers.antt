-- `short` meets its contract: a quotient below the rows is a list below rows of the divisor each.
use borrow.Author.Rules.{rules}
use native.Mathlib.Nat.{div-lt_iff_lt-mul}
use borrow.Author.Tests.{ltb-true, lt-ltb}
use mathlib.Core.Path.{sym, ◌∙◌}
use mathlib.Core.Bool.{true≢false}
use Rattle.run_blocks_answers.proofs.short.Goals as goal

pub returns : goal.returns
returns c =
    let d = div-lt_iff_lt-mul {k = c.args.each} {x = c.args.places} {y = c.args.rows} c.requires in
    (λ e. d.0 (ltb-true _ _ e), λ e l. true≢false (sym (lt-ltb _ _ (d.1 l)) ∙ e))
