-- The values of what the share book's operations answer: the answer's own, or `old` where the answer has no such value. The number of an answer is
-- refusal_number of crate refusals.
--
--   claiming_ticket                                the ticket given
--   taking_share, taking_position, taking_length   the share, the position and the word's length
--   reporting_committed, reporting_complete        how many positions are committed; 1 complete, 0 not
use Rattle.std.specs.Prelude.{cond, ℕ, Result, Ok, Err}
use Rattle.refusals.specs.declared.Refusal.{Refusal}
use Rattle.book.specs.declared.types.Taken.{Taken}
use Rattle.book.specs.declared.types.Progress.{Progress}

abbrev pub claiming_ticket : Result ℕ Refusal → ℕ → ℕ
claiming_ticket (Ok t) old = t
claiming_ticket (Err e) old = old

abbrev pub taking_share : Result Taken Refusal → ℕ → ℕ
taking_share (Ok g) old = g.share
taking_share (Err e) old = old

abbrev pub taking_position : Result Taken Refusal → ℕ → ℕ
taking_position (Ok g) old = g.position
taking_position (Err e) old = old

-- the word's length
abbrev pub taking_length : Result Taken Refusal → ℕ → ℕ
taking_length (Ok g) old = g.length
taking_length (Err e) old = old

abbrev pub reporting_committed : Result Progress Refusal → ℕ → ℕ
reporting_committed (Ok p) old = p.committed
reporting_committed (Err e) old = old

-- 1 complete, 0 not complete
abbrev pub reporting_complete : Result Progress Refusal → ℕ → ℕ
reporting_complete (Ok p) old = cond p.complete 1 0
reporting_complete (Err e) old = old
