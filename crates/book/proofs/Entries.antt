-- A law for the code over a book's entries: a test that fails at one number fails for all.
use mathlib.Core.Path.{◌≡◌, refl}
use mathlib.Core.Bool.{Bool, true, false}
use Prim.Native.Nat.{ℕ}
use native.Mathlib.Omega.{arith}
use Rattle.lists.specs.Ranges.{OneTo, every}
use Rattle.lists.proofs.Ranges.{every_true}
use Rattle.book.specs.Valid.{both}

pub every-false : (n : ℕ) (t : ℕ → Bool) (x : ℕ) → OneTo n x → t x ≡ false → every n t ≡ false
every-false n t x i e = go (every n t) refl
  where
    go : (b : Bool) → every n t ≡ b → every n t ≡ false
    go true q = absurd (let r = every_true n t q x i in let z : ◌≡◌ {A = ℕ} 0 1 = cc in omega arith)
    go false q = q

pub both-both : (a b d : Bool) → both a (both b d) ≡ both (both a b) d
both-both true b d = refl
both-both false b d = refl
