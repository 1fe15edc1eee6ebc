-- What an opening leaves of the lent book: all of it where it is refused, nothing where it is accepted.
use mathlib.Core.Path.{◌≡◌, refl}
use mathlib.Core.Bool.{Bool, true, false, cond}
use Prim.Native.Nat.{ℕ}
use native.Mathlib.Omega.{arith}
use lib.Dec.{eqb}
use Rattle.std.specs.Prelude.{Result, Ok, Err}
use Rattle.refusals.specs.declared.Refusal.{Refusal}
use Rattle.refusals.specs.Named.{named}
use Rattle.book.specs.declared.types.Book.{Book}
use Rattle.book.specs.Calls.{open_number, opened, open_answer, open_book}

pub opening-refused : (b : Book) (n k : ℕ) (e : Refusal) → open_answer n k ≡ Err e → open_book b n k ≡ b
unfolding open_answer open_book
opening-refused b n k e q = go (eqb (open_number n k) 0) q
  where
    go : (t : Bool) → ◌≡◌ {A = Result (Unit {0}) Refusal} (cond t (Ok tt) (Err (named (open_number n k)))) (Err e) → cond t (opened n k) b ≡ b
    go true q = let z : ◌≡◌ {A = ℕ} 0 1 = cc in absurd (omega arith)
    go false q = refl

pub opening-accepted : (b d : Book) (n k : ℕ) → open_answer n k ≡ Ok tt → open_book b n k ≡ open_book d n k
unfolding open_answer open_book
opening-accepted b d n k e = go (eqb (open_number n k) 0) e
  where
    go : (t : Bool) → ◌≡◌ {A = Result (Unit {0}) Refusal} (cond t (Ok tt) (Err (named (open_number n k)))) (Ok tt) → cond t (opened n k) b ≡ cond t (opened n k) d
    go true q = refl
    go false q = let z : ◌≡◌ {A = ℕ} 0 1 = cc in absurd (omega arith)
