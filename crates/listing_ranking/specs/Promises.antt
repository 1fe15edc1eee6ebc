-- What count, diagram at a position and position of a diagram promise, by the cases of their answers, whose values are those of specs/Answers.
-- Lists named a are as they were lent, lists named b as they are handed back.
--
--   CountPromise n answer                the promise of count
--   RefusedAt n p .. number              what diagram at a position refuses: 31, 32, 9
--   DiagramAtPromise n p .. answer       the promise of diagram at a position
--   PositionPromise s0 s1 root answer    the promise of position of a diagram
use Rattle.std.specs.Prelude.{◌≡◌, ◌⊎◌, List, ℕ, length, Result, Ok, Err}
use Rattle.lists.specs.Ranges.{OneTo}
use Rattle.diagrams.specs.Check.{Accepts, Refuses}
use Rattle.words.specs.Outputs.{Short, Written, Untouched}
use Rattle.labelling.specs.Labelling.{word_of}
use Rattle.listing.specs.Listing.{count}
use Rattle.listing.specs.Position.{word_at, position}
use Rattle.listing.specs.Diagrams.{diagram_at}
use Rattle.refusals.specs.declared.Refusal.{Refusal}
use Rattle.refusals.specs.Numbers.{number}
use Rattle.listing_ranking.specs.Answers.{count_total, entry_length, located_position}

-- 31: the size is outside 1..50
abbrev pub CountPromise : ℕ → Result ℕ Refusal → Type 0
CountPromise n (Ok c) = OneTo 50 n × (count_total (Ok c) 0 ≡ count n)
CountPromise n (Err e) = (number e ≡ 31) × (¬ OneTo 50 n)

-- 31; 32: the position is 0 or above the count; 9
abbrev pub RefusedAt : ℕ → ℕ → List ℕ → List ℕ → List ℕ → ℕ → Type 0
RefusedAt n p a0 a1 aw k =
    ((k ≡ 31) × (¬ OneTo 50 n))
    ⊎ (((k ≡ 32) × OneTo 50 n × (¬ OneTo (count n) p))
    ⊎ ((k ≡ 9) × OneTo 50 n × OneTo (count n) p × Short n a0 a1 aw))

abbrev pub DiagramAtPromise : ℕ → ℕ → List ℕ → List ℕ → List ℕ → List ℕ → List ℕ → List ℕ → Result ℕ Refusal → Type 0
DiagramAtPromise n p a0 a1 aw b0 b1 bw (Ok m) =
    OneTo 50 n × OneTo (count n) p × (¬ Short n a0 a1 aw) × (entry_length (Ok m) 0 ≡ length (word_at n p)) × Written (diagram_at n p) (word_at n p) a0 a1 aw b0 b1 bw
DiagramAtPromise n p a0 a1 aw b0 b1 bw (Err e) = RefusedAt n p a0 a1 aw (number e) × Untouched a0 a1 aw b0 b1 bw

-- 1 to 8; 31
abbrev pub PositionPromise : List ℕ → List ℕ → ℕ → Result ℕ Refusal → Type 0
PositionPromise s0 s1 root (Ok p) = Accepts s0 s1 root × OneTo 50 (length s0) × (located_position (Ok p) 0 ≡ position (length s0) (word_of s0 s1 root))
PositionPromise s0 s1 root (Err e) =
    Refuses s0 s1 root (number e) ⊎ ((number e ≡ 31) × Accepts s0 s1 root × (¬ OneTo 50 (length s0)))
