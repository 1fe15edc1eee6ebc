-- The letters of a word from a first item of 0 or 1 on: refused where the events do not fit into what the first letter leaves.
use mathlib.Core.Path.{◌≡◌, sym, ◌∙◌}
use mathlib.Core.Bool.{true, false}
use Prim.Native.Nat.{ℕ, ◌-◌, ◌≤◌, ◌<◌}
use native.Mathlib.Omega.{arith}
use lib.Dec.{leb}
use lib.ListN.{length}
use borrow.Author.Tests.{leb-true, leb-false}
use Rattle.words.specs.Letters.{events_letters}
use Rattle.words.proofs.Lettering.{lettering-short, lettering-whole}
use Rattle.words.proofs.put_letters.Goals as goal

-- what the test on the events says, where it fails and where it holds
short : (l n : ℕ) → leb l (n - 1) ≡ false → n ≤ l
short l n e = let h = leb-false l (n - 1) e in omega arith

fits : (l n : ℕ) → 0 < n → leb l (n - 1) ≡ true → l < n
fits l n i e = let h = leb-true l (n - 1) e in omega arith

pub returns-then-out-eq0 : goal.returns-then-out-eq0
returns-then-out-eq0 c = lettering-short _ _ _ c.requires (omega arith)

pub returns-then-not-events_fit : goal.returns-then-not-events_fit
returns-then-not-events_fit c = lettering-short _ _ _ c.requires (let i = short (length (events_letters c.args.items.now)) (length c.args.out.now) (sym c.events_fit.ensures ∙ c.if-not-events_fit.true) in omega arith)

pub returns : goal.returns
returns c = lettering-whole _ _ _ _ _ _ c.requires c.first_letter.ensures (fits (length (events_letters c.args.items.now)) (length c.args.out.now) (omega arith) (sym c.events_fit.ensures ∙ c.if-not-events_fit.false)) c.put_events.ensures
