-- `entries_valid` meets its contract: the parts of the definition, put together; tickets that are apart each stand once.
use mathlib.Core.Path.{sym, ap₂, ◌∙◌}
use Rattle.book_connectives.specs.Connectives.{both}
use Rattle.book_entries.specs.Entries.{book_with}
use Rattle.book_validity.proofs.Parts.{both-truly, shares-failed, shares-passed}
use Rattle.book_validity.proofs.entries_valid.Goals as goal

pub returns-then-not-shares_valid : goal.returns-then-not-shares_valid
returns-then-not-shares_valid c = sym (shares-failed (book_with c.args.h c.args.next.now c.args.ticket.now c.args.expiry.now) c.requires.2.1 (sym c.shares_valid.ensures ∙ c.if-not-shares_valid.true))

pub returns-then-apart : goal.returns-then-apart
returns-then-apart c =
    rw (shares-passed (book_with c.args.h c.args.next.now c.args.ticket.now c.args.expiry.now) c.requires.2.1 (sym c.shares_valid.ensures ∙ c.if-not-shares_valid.false), c.tickets_apart-apart.ensures c.if-apart.true) (c.rest_unused-unused.ensures ∙ sym (both-truly _))

pub returns : goal.returns
returns c =
    c.both.ensures ∙ ap₂ both c.rest_unused-unused.ensures c.tickets_once.ensures ∙ sym (shares-passed (book_with c.args.h c.args.next.now c.args.ticket.now c.args.expiry.now) c.requires.2.1 (sym c.shares_valid.ensures ∙ c.if-not-shares_valid.false))
