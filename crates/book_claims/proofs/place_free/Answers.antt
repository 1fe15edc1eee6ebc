-- `place_free` meets its contract: a share that is none of 1..k is refused before its entries are looked at.
use mathlib.Core.Path.{refl, sym, ◌∙◌}
use Rattle.refusals.specs.Named.{named}
use Rattle.book_claims.specs.Claims.{place_number}
use Rattle.book.proofs.ValidBook.{among-true}
use Rattle.book_claims.proofs.place_free.Goals as goal

pub share_free-requires : goal.share_free-requires
share_free-requires c = (c.requires.0, among-true _ _ (sym c.among.ensures ∙ c.if-not-among.false), c.requires.1)

pub returns-then-not-among : goal.returns-then-not-among
unfolding place_number named
returns-then-not-among c = rw (sym c.among.ensures ∙ c.if-not-among.true) refl

pub returns-then-not-among-2 : goal.returns-then-not-among-2
unfolding place_number named
returns-then-not-among-2 c = rw (sym c.among.ensures ∙ c.if-not-among.false, sym c.among-2.ensures ∙ c.if-not-among-2.true) refl

pub returns : goal.returns
unfolding place_number
returns c = c.share_free.ensures ∙ rw (sym c.among.ensures ∙ c.if-not-among.false, sym c.among-2.ensures ∙ c.if-not-among-2.false) refl
