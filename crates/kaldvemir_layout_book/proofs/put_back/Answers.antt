-- `put_back` meets its contract: the numbers and the three parts, pasted one after another, are all of the 100.
use Prim.Native.Nat.{ℕ}
use mathlib.Core.List.{List}
use lib.Seq.{paste}
use lib.ListN.{length, set}
use Rattle.kaldvemir_layout_book.proofs.Rows.{pasted, headed, book-row}
use native.Mathlib.Omega.{arith}
use mathlib.Core.Path.{◌≡◌, refl, sym, ◌∙◌, ap}
use borrow.Author.Rules.{rules}
use Rattle.kaldvemir_layout_book.proofs.put_back.Goals as goal

pub returns : goal.returns
returns c =
    let b = c.args.b in
    c.put_part-3.ensures
    ∙ ap (λ (q : List ℕ). paste q 68 b.expiry 32) (c.put_part-2.ensures ∙ ap (λ (q : List ℕ). paste q 36 b.ticket 32) c.put_part.ensures)
    ∙ book-row c.args.numbers.now b.next b.ticket b.expiry b.size b.shares b.latest b.issued c.requires (search rules) (search rules) (search rules)
