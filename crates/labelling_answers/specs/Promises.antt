-- What relabel, characteristic, compare, symmetries and kept promise, by the cases of their answers, whose values, and of compare the number, are those
-- of specs/Answers. Lists named a are as they were lent, lists named b as they are handed back.
--
--   RelabelPromise ..           relabel: 1 to 8, then 9; the characteristic labelling and the word, before what else the lists held
--   CharacteristicPromise ..    characteristic: check's verdict, with the characteristic labelling and root 1, or the single edge
--   ComparePromise rooted ..    compare, with roots or without: 1 to 8 of the first diagram, then of the second, with the side
--   CompareRootedPromise ..     compare with roots
--   CompareUnrootedPromise ..   compare without roots
--   SymmetriesPromise ..        symmetries
--   KeptPromise ..              kept
use Rattle.std.specs.Prelude.{◌≡◌, ◌⊎◌, Bool, true, false, List, ℕ, length, Result, Ok, Err}
use Rattle.refusals.specs.declared.Refusal.{Refusal}
use Rattle.refusals.specs.Numbers.{number}
use Rattle.diagrams.specs.Check.{Accepts, Refuses}
use Rattle.words.specs.Outputs.{Short, Written, Untouched}
use Rattle.labelling.specs.Labelling.{word_of, characteristic}
use Rattle.labelling.specs.Rootings.{Kept, symmetries}
use Rattle.labelling_isomorphism.specs.Isomorphic.{IsomorphicBy}
pub use Rattle.labelling_relabelling.specs.Promises.{CharacteristicPromise}
use Rattle.labelling_answers.specs.declared.SideRefusal.{SideRefusal}
use Rattle.labelling_answers.specs.Answers.{relabel_length, compare_number, compare_side, symmetries_count}

abbrev pub RelabelPromise : List ℕ → List ℕ → ℕ → List ℕ → List ℕ → List ℕ → List ℕ → List ℕ → List ℕ → Result ℕ Refusal → Type 0
RelabelPromise s0 s1 root a0 a1 aw b0 b1 bw (Ok m) =
    Accepts s0 s1 root × (¬ Short (length s0) a0 a1 aw) × (relabel_length (Ok m) 0 ≡ length (word_of s0 s1 root)) × Written (characteristic s0 s1 root) (word_of s0 s1 root) a0 a1 aw b0 b1 bw
RelabelPromise s0 s1 root a0 a1 aw b0 b1 bw (Err e) =
    (Refuses s0 s1 root (number e) ⊎ ((number e ≡ 9) × Accepts s0 s1 root × Short (length s0) a0 a1 aw)) × Untouched a0 a1 aw b0 b1 bw

-- 1 to 8 for the first, then for the second
abbrev pub RefusedSide : List ℕ → List ℕ → ℕ → List ℕ → List ℕ → ℕ → ℕ → ℕ → Type 0
RefusedSide s0 s1 r t0 t1 q k side = ((side ≡ 1) × Refuses s0 s1 r k) ⊎ ((side ≡ 2) × Accepts s0 s1 r × Refuses t0 t1 q k)

-- with roots or without, by the first argument
abbrev pub ComparePromise : Bool → List ℕ → List ℕ → ℕ → List ℕ → List ℕ → ℕ → Result Bool SideRefusal → Type 0
ComparePromise rooted s0 s1 r t0 t1 q (Ok true) = Accepts s0 s1 r × Accepts t0 t1 q × IsomorphicBy rooted s0 s1 r t0 t1 q
ComparePromise rooted s0 s1 r t0 t1 q (Ok false) = Accepts s0 s1 r × Accepts t0 t1 q × (¬ IsomorphicBy rooted s0 s1 r t0 t1 q)
ComparePromise rooted s0 s1 r t0 t1 q (Err e) = RefusedSide s0 s1 r t0 t1 q (compare_number (Err e)) (compare_side (Err e) 0)

abbrev pub CompareRootedPromise : List ℕ → List ℕ → ℕ → List ℕ → List ℕ → ℕ → Result Bool SideRefusal → Type 0
CompareRootedPromise = ComparePromise true

abbrev pub CompareUnrootedPromise : List ℕ → List ℕ → ℕ → List ℕ → List ℕ → ℕ → Result Bool SideRefusal → Type 0
CompareUnrootedPromise = ComparePromise false

abbrev pub SymmetriesPromise : List ℕ → List ℕ → ℕ → Result ℕ Refusal → Type 0
SymmetriesPromise s0 s1 root (Ok m) = Accepts s0 s1 root × (symmetries_count (Ok m) 0 ≡ symmetries s0 s1 root)
SymmetriesPromise s0 s1 root (Err e) = Refuses s0 s1 root (number e)

abbrev pub KeptPromise : List ℕ → List ℕ → ℕ → Result Bool Refusal → Type 0
KeptPromise s0 s1 root (Ok true) = Accepts s0 s1 root × Kept s0 s1 root
KeptPromise s0 s1 root (Ok false) = Accepts s0 s1 root × (¬ Kept s0 s1 root)
KeptPromise s0 s1 root (Err e) = Refuses s0 s1 root (number e)
