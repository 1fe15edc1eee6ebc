-- One test after another; the word that was written, and what may be asked of it.
use mathlib.Core.Path.{◌≡◌, refl, sym, ap}
use mathlib.Core.Logic.{◌↔◌}
use mathlib.Core.List.{List}
use Prim.Native.Nat.{ℕ, ◌≤◌}
use native.Mathlib.Omega.{arith}
use lib.ListN.{length, take, length-append}
use lib.Seq.{take_at}
use Rattle.labelling.specs.Labelling.{word_of}
use Rattle.labelling_tracing.specs.Traced.{WordWritten}
use Rattle.labelling_tracing.specs.declared.Written.{Written}
use Rattle.labelling_comparison.specs.Questions.{Askable}
use Rattle.labelling_comparison.specs.declared.Question.{Question}
use Rattle.labelling_comparison.specs.declared.Question.TheVariants.{Root, Any, Number, Least}

pub then : {A B C : Type 0} → A ↔ B → B ↔ C → A ↔ C
then p q = (λ a. q.0 (p.0 a), λ c. p.1 (q.1 c))

-- the word is the written part of its list
module _ {s0 s1 nx pv a b : List ℕ} {root : ℕ} {m : Written} (w : WordWritten s0 s1 root nx pv a b m) where
  pub written-part : take m.len b ≡ word_of s0 s1 root
  written-part = rw w.word_is (take_at _ _ _ (sym w.length_is))

  pub written-within : m.len ≤ length b
  written-within = let e = w.length_is in omega (arith, simp length-append at (ap length w.word_is))

-- anything may be asked of a diagram's own word
pub askable-own : (question : Question) (s0 s1 : List ℕ) (r : ℕ) → Askable question s0 s1 r (word_of s0 s1 r)
askable-own Root s0 s1 r = tt
askable-own Any s0 s1 r = tt
askable-own Number s0 s1 r = tt
askable-own Least s0 s1 r = refl
