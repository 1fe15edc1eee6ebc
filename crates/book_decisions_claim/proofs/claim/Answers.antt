-- `claim` meets its contract: an accepted claim of a valid book, whose numbers leave room for a ticket and an expiry more.
use mathlib.Core.Path.{◌≡◌, refl, sym, ◌∙◌}
use mathlib.Core.Logic.{◌≢◌}
use Prim.Native.Nat.{ℕ, suc, ◌+◌}
use native.Mathlib.Numerals.{add-one}
use native.Mathlib.Omega.{arith}
use Rattle.std.specs.Prelude.{Result, Ok, Err}
use Rattle.refusals.specs.declared.Refusal.{Refusal}
use Rattle.refusals.specs.Named.{answered}
use Rattle.refusals.proofs.Numbers.{answered-ok, answered-err}
use Rattle.lists.specs.Ranges.{OneTo}
use Rattle.lists.proofs.Tests.{eqb-ne}
use Rattle.book.specs.declared.types.Book.{Book}
use Rattle.book.specs.Shares.{next}
use Rattle.book.specs.Calls.{entered, claim_number, claim_answer, claim_book}
use Rattle.book.proofs.Accepted.{ClaimGood, claim-good}
use Rattle.book_entries.specs.Entries.{book_with}
use Rattle.book_decisions_claim.proofs.claim.Goals as goal

module _ (b : Book) (tick j len : ℕ) where
  claim-refused : (e : Refusal) → ◌≡◌ {A = Result (Unit {0}) Refusal} (Err e) (answered (claim_number b tick j len) tt) → (Err e ≡ claim_answer b tick j len) × (b ≡ claim_book b tick j len)
  unfolding claim_answer claim_book
  claim-refused e q = let r = answered-err _ e q in rw (eqb-ne _ _ r.0, r.1) (refl, refl)

  claim-accepted : claim_number b tick j len ≡ 0 → (Ok (suc b.issued) ≡ claim_answer b tick j len) × (entered b tick (suc b.issued) j (next b j) (suc b.issued) (tick + len) ≡ claim_book b tick j len)
  unfolding claim_answer claim_book
  claim-accepted e = rw e (refl, refl)

one-of-32 : (b : Book) (tick j len : ℕ) → ClaimGood b tick j len → OneTo 32 j
one-of-32 b tick j len g = let S = g.is_valid in let k = S.shares_in in let e = g.share_in in omega arith

pub returns-in-Err : goal.returns-in-Err
returns-in-Err c =
    let q = claim-refused (book_with c.args.h c.args.nexts.now c.args.tickets.now c.args.expiries.now) c.args.tick c.args.share c.args.length _ c.in-Err.ensures in
    (q.0, q.1, tt)

pub overflow_add-ticket : goal.overflow_add-ticket
overflow_add-ticket c =
    let g = claim-good (book_with c.args.h c.args.nexts.now c.args.tickets.now c.args.expiries.now) c.args.tick c.args.share c.args.length (answered-ok _ c.in-Ok.ensures) in
    let t = g.tickets_left in omega arith

pub entry-requires : goal.entry-requires
entry-requires c = (one-of-32 _ _ _ _ (claim-good (book_with c.args.h c.args.nexts.now c.args.tickets.now c.args.expiries.now) c.args.tick c.args.share c.args.length (answered-ok _ c.in-Ok.ensures)), c.requires.0)

pub overflow_add-result : goal.overflow_add-result
overflow_add-result c =
    let g = claim-good (book_with c.args.h c.args.nexts.now c.args.tickets.now c.args.expiries.now) c.args.tick c.args.share c.args.length (answered-ok _ c.in-Ok.ensures) in
    let t = g.tick_small in let l = g.len_in in omega arith

pub returns-in-Ok : goal.returns-in-Ok
returns-in-Ok c =
    let q = claim-accepted (book_with c.args.h c.args.nexts.now c.args.tickets.now c.args.expiries.now) c.args.tick c.args.share c.args.length (answered-ok _ c.in-Ok.ensures) in
    rw (c.entry.ensures, add-one) (q.0, q.1, one-of-32 _ _ _ _ (claim-good (book_with c.args.h c.args.nexts.now c.args.tickets.now c.args.expiries.now) c.args.tick c.args.share c.args.length (answered-ok _ c.in-Ok.ensures)))
