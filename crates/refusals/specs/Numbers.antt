-- The numbers of the refusals: what callers outside the library are told, and what every promise of a refusal speaks of.
--
--   number e            the number of the refusal e; no two have the same (proofs/Numbers, `number-one`)
--   refusal_number r    the number that an answer has: that of its refusal, or 0 where the call was accepted
--   RefusedBy k r       the answer r is the refusal whose number is k
use Rattle.std.specs.Prelude.{◌≡◌, ℕ, Result, Ok, Err}
use Rattle.refusals.specs.declared.Refusal.{Refusal}
use Rattle.refusals.specs.declared.Refusal.TheVariants as refusal

abbrev pub number : Refusal → ℕ
number refusal.SizeOutOfRange = 1
number refusal.ListsDiffer = 2
number refusal.RootOutOfRange = 3
number refusal.BlackOutOfRange = 4
number refusal.WhiteOutOfRange = 5
number refusal.ThriceMoves = 6
number refusal.TwiceMoves = 7
number refusal.NotConnected = 8
number refusal.ListShort = 9
number refusal.WordLength = 21
number refusal.FirstItem = 22
number refusal.JoinTooDeep = 23
number refusal.LabelTooLarge = 24
number refusal.EdgesPending = 25
number refusal.NoEdgePending = 26
number refusal.ListedSizeOutOfRange = 31
number refusal.PositionOutOfRange = 32
number refusal.RunNotValid = 34
number refusal.WalkSizeOutOfRange = 35
number refusal.BookNotValid = 50
number refusal.SharesOutOfRange = 51
number refusal.TickOutOfRange = 52
number refusal.ShareOutOfRange = 53
number refusal.LengthOutOfRange = 54
number refusal.ShareFinished = 55
number refusal.ShareHeld = 56
number refusal.TicketsSpent = 57
number refusal.NoSuchTicket = 58
number refusal.TicketLapsed = 59
number refusal.PositionNotDue = 60
number refusal.SheetShape = 61
number refusal.LevelTooLarge = 62

abbrev pub refusal_number : {A : Type 0} → Result A Refusal → ℕ
refusal_number (Ok a) = 0
refusal_number (Err e) = number e

abbrev pub RefusedBy : {A : Type 0} → ℕ → Result A Refusal → Type 0
RefusedBy k (Ok a) = ⊥
RefusedBy k (Err e) = number e ≡ k
