-- The end of a word, where its diagram is whole, and a whole word as the code lends it: its first item, and the rest.
use mathlib.Core.Path.{◌≡◌, ap, ◌∙◌}
use mathlib.Core.Option.{some}
use mathlib.Core.List.{List, [], ◌∷◌}
use Prim.Native.Nat.{ℕ, ◌-◌, ◌≤◌}
use native.Mathlib.Omega.{arith}
use lib.ListN.{length, get_or, take, drop}
use Rattle.lists.proofs.Lists.{rest-is}
use Rattle.words.specs.Word.{Pair, spells, spell, Spells}
use Rattle.words.specs.Outputs.{overwrite}
use Rattle.words.proofs.Growing.{none≢some}
use Rattle.words_spelling_events.specs.States.{State}
use Rattle.words_spelling_events.specs.Spelling.{SpellingRoom, SpellingState}
use Rattle.words_spelling_events.proofs.Laws.{word_some}

pub midway_end : (D : Pair) (S : State) (a0 a1 stack b0 b1 : List ℕ) (used height : ℕ) → SpellingState D [] S a0 a1 stack b0 b1 used height → (b0 ≡ overwrite D.black a0) × (b1 ≡ overwrite D.white a1)
unfolding spells
midway_end D S a0 a1 stack b0 b1 used height M = go S.pending M.goes
  where
    go : (p : List ℕ) → spells [] p S.black S.white ≡ some D → (b0 ≡ overwrite D.black a0) × (b1 ≡ overwrite D.white a1)
    go [] e = let x : D.black ≡ S.black = cc in let y : D.white ≡ S.white = cc in (rw x M.holds.s0_is, rw y M.holds.s1_is)
    go (k ∷ r) e = absurd (none≢some D e)

parts : (w : List ℕ) → 1 ≤ length w → get_or w 0 0 ∷ take (length w - 1) (drop 1 w) ≡ w
parts [] l = absurd (omega arith)
parts (x ∷ w) l = rw (rest-is x w)

-- the first item, and the rest as the code lends it
pub spelt-parts : (n : ℕ) (w : List ℕ) (D : Pair) → Spells n w → spell w ≡ some D → spell (get_or w 0 0 ∷ take (length w - 1) (drop 1 w)) ≡ some D
spelt-parts n w D S e = ap spell (parts w (word_some n w S)) ∙ e

pub spelt-room : (n : ℕ) (w a0 a1 : List ℕ) (D : Pair) → Spells n w → n ≤ 50 → n ≤ length a0 → n ≤ length a1 → spell w ≡ some D → SpellingRoom D a0 a1
spelt-room n w a0 a1 D S l l0 l1 e =
    let q : D ≡ S.pair = cc S.spelt in
    let z : length D.black ≡ n = rw q S.sized in
    record { small = omega arith; room0 = omega arith; room1 = omega arith }
