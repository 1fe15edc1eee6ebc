-- The refusal that has a number, and the answer of a call whose conditions are numbers.
--
--   named k        the refusal whose number is k, where one has it (proofs/Numbers, `named-number`)
--   answered k a   the answer of a call of whose conditions the first that applies has the number k: the refusal, or a where none does and k is 0
use Rattle.std.specs.Prelude.{cond, ◌==◌, eqb, ℕ, Result, Ok, Err}
use Rattle.refusals.specs.declared.Refusal.{Refusal}
use Rattle.refusals.specs.declared.Refusal.TheVariants as refusal

unfoldable pub named : ℕ → Refusal
named k =
    cond (k == 1) refusal.SizeOutOfRange (
    cond (k == 2) refusal.ListsDiffer (
    cond (k == 3) refusal.RootOutOfRange (
    cond (k == 4) refusal.BlackOutOfRange (
    cond (k == 5) refusal.WhiteOutOfRange (
    cond (k == 6) refusal.ThriceMoves (
    cond (k == 7) refusal.TwiceMoves (
    cond (k == 8) refusal.NotConnected (
    cond (k == 9) refusal.ListShort (
    cond (k == 21) refusal.WordLength (
    cond (k == 22) refusal.FirstItem (
    cond (k == 23) refusal.JoinTooDeep (
    cond (k == 24) refusal.LabelTooLarge (
    cond (k == 25) refusal.EdgesPending (
    cond (k == 26) refusal.NoEdgePending (
    cond (k == 31) refusal.ListedSizeOutOfRange (
    cond (k == 32) refusal.PositionOutOfRange (
    cond (k == 34) refusal.RunNotValid (
    cond (k == 35) refusal.WalkSizeOutOfRange (
    cond (k == 50) refusal.BookNotValid (
    cond (k == 51) refusal.SharesOutOfRange (
    cond (k == 52) refusal.TickOutOfRange (
    cond (k == 53) refusal.ShareOutOfRange (
    cond (k == 54) refusal.LengthOutOfRange (
    cond (k == 55) refusal.ShareFinished (
    cond (k == 56) refusal.ShareHeld (
    cond (k == 57) refusal.TicketsSpent (
    cond (k == 58) refusal.NoSuchTicket (
    cond (k == 59) refusal.TicketLapsed (
    cond (k == 60) refusal.PositionNotDue (
    cond (k == 61) refusal.SheetShape (
    refusal.LevelTooLarge)))))))))))))))))))))))))))))))

abbrev pub answered : {A : Type 0} → ℕ → A → Result A Refusal
answered k a = cond (eqb k 0) (Ok a) (Err (named k))
