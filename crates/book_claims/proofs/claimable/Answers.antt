-- `claimable` meets its contract: the book is tested first, so that the rest is tested of a valid one.
use mathlib.Core.Path.{refl, sym, ◌∙◌}
use Rattle.refusals.specs.Named.{named}
use Rattle.book.specs.Calls.{tick_in, claim_number}
use Rattle.book_claims.specs.Claims.{place_number, share_number}
use Rattle.book_claims.proofs.claimable.Goals as goal

pub returns-then-not-valid : goal.returns-then-not-valid
unfolding claim_number named
returns-then-not-valid c = rw (sym c.valid.ensures ∙ c.if-not-valid.true) refl

pub returns-then-not-tick_in : goal.returns-then-not-tick_in
unfolding claim_number tick_in named
returns-then-not-tick_in c = rw (sym c.valid.ensures ∙ c.if-not-valid.false, sym c.tick_in.ensures ∙ c.if-not-tick_in.true) refl

pub returns : goal.returns
unfolding claim_number tick_in place_number share_number
returns c = c.place_free.ensures ∙ rw (sym c.valid.ensures ∙ c.if-not-valid.false, sym c.tick_in.ensures ∙ c.if-not-tick_in.false) refl
