-- No two refusals have the same number, and none has 0.
use mathlib.Core.Path.{◌≡◌, refl, ◌∙◌, sym, ap}
use mathlib.Core.Bool.{Bool, true, false, cond, true≢false}
use lib.Dec.{eqb, eqb→eq}
use Rattle.std.specs.Prelude.{ℕ, Result, Ok, Err, ◌≢◌}
use native.Mathlib.Omega.{arith}
use Rattle.refusals.specs.declared.Refusal.{Refusal}
use Rattle.refusals.specs.declared.Refusal.TheVariants as refusal
use Rattle.refusals.specs.Numbers.{number}
use Rattle.refusals.specs.Named.{named, answered}

pub named-number : (e : Refusal) → named (number e) ≡ e
unfolding named
named-number refusal.SizeOutOfRange = refl
named-number refusal.ListsDiffer = refl
named-number refusal.RootOutOfRange = refl
named-number refusal.BlackOutOfRange = refl
named-number refusal.WhiteOutOfRange = refl
named-number refusal.ThriceMoves = refl
named-number refusal.TwiceMoves = refl
named-number refusal.NotConnected = refl
named-number refusal.ListShort = refl
named-number refusal.WordLength = refl
named-number refusal.FirstItem = refl
named-number refusal.JoinTooDeep = refl
named-number refusal.LabelTooLarge = refl
named-number refusal.EdgesPending = refl
named-number refusal.NoEdgePending = refl
named-number refusal.ListedSizeOutOfRange = refl
named-number refusal.PositionOutOfRange = refl
named-number refusal.RunNotValid = refl
named-number refusal.WalkSizeOutOfRange = refl
named-number refusal.BookNotValid = refl
named-number refusal.SharesOutOfRange = refl
named-number refusal.TickOutOfRange = refl
named-number refusal.ShareOutOfRange = refl
named-number refusal.LengthOutOfRange = refl
named-number refusal.ShareFinished = refl
named-number refusal.ShareHeld = refl
named-number refusal.TicketsSpent = refl
named-number refusal.NoSuchTicket = refl
named-number refusal.TicketLapsed = refl
named-number refusal.PositionNotDue = refl
named-number refusal.SheetShape = refl
named-number refusal.LevelTooLarge = refl

pub number-one : (e d : Refusal) → number e ≡ number d → e ≡ d
number-one e d p = sym (named-number e) ∙ ap named p ∙ named-number d

pub number-some : (e : Refusal) → number e ≢ 0
number-some refusal.SizeOutOfRange p = omega arith
number-some refusal.ListsDiffer p = omega arith
number-some refusal.RootOutOfRange p = omega arith
number-some refusal.BlackOutOfRange p = omega arith
number-some refusal.WhiteOutOfRange p = omega arith
number-some refusal.ThriceMoves p = omega arith
number-some refusal.TwiceMoves p = omega arith
number-some refusal.NotConnected p = omega arith
number-some refusal.ListShort p = omega arith
number-some refusal.WordLength p = omega arith
number-some refusal.FirstItem p = omega arith
number-some refusal.JoinTooDeep p = omega arith
number-some refusal.LabelTooLarge p = omega arith
number-some refusal.EdgesPending p = omega arith
number-some refusal.NoEdgePending p = omega arith
number-some refusal.ListedSizeOutOfRange p = omega arith
number-some refusal.PositionOutOfRange p = omega arith
number-some refusal.RunNotValid p = omega arith
number-some refusal.WalkSizeOutOfRange p = omega arith
number-some refusal.BookNotValid p = omega arith
number-some refusal.SharesOutOfRange p = omega arith
number-some refusal.TickOutOfRange p = omega arith
number-some refusal.ShareOutOfRange p = omega arith
number-some refusal.LengthOutOfRange p = omega arith
number-some refusal.ShareFinished p = omega arith
number-some refusal.ShareHeld p = omega arith
number-some refusal.TicketsSpent p = omega arith
number-some refusal.NoSuchTicket p = omega arith
number-some refusal.TicketLapsed p = omega arith
number-some refusal.PositionNotDue p = omega arith
number-some refusal.SheetShape p = omega arith
number-some refusal.LevelTooLarge p = omega arith

-- ---- an answer told by a number

module _ (k : ℕ) where
  pub answered-ok : {u : Unit {0}} → ◌≡◌ {A = Result (Unit {0}) Refusal} (Ok u) (answered k tt) → k ≡ 0
  answered-ok {u} p = go (eqb k 0) refl p
    where
      go : (t : Bool) → eqb k 0 ≡ t → ◌≡◌ {A = Result (Unit {0}) Refusal} (Ok u) (cond t (Ok tt) (Err (named k))) → k ≡ 0
      go true z q = eqb→eq k 0 (rw z tt)
      go false z q = let y : ◌≡◌ {A = ℕ} 0 1 = cc in absurd (omega arith)

  pub answered-err : (e : Refusal) → ◌≡◌ {A = Result (Unit {0}) Refusal} (Err e) (answered k tt) → (k ≢ 0) × (named k ≡ e)
  answered-err e p = go (eqb k 0) refl p
    where
      go : (t : Bool) → eqb k 0 ≡ t → ◌≡◌ {A = Result (Unit {0}) Refusal} (Err e) (cond t (Ok tt) (Err (named k))) → (k ≢ 0) × (named k ≡ e)
      go true z q = let y : ◌≡◌ {A = ℕ} 0 1 = cc in absurd (omega arith)
      go false z q = let d : e ≡ named k = cc in (λ y. true≢false (rw y at z), sym d)
