-- What read word answers, and what it leaves in the two lent lists. The reading of the items after the first
-- (Read, items) stands in `words_reading_events`, Items, and is passed on here.
--
--   Read                     a refusal with its number, or the diagram built
--   items w pending s0 s1    the items after the first, one by one: 26, 23, 24, and 25 at the end (the state as in `spells`)
--   read w                   21, then 22 for the first item, then its items
--   reading_answer w a b         that, and 9 where a list with room for a (or b) entries is short
--   ReadPromise ..           the promise: the answer's number or size, and the lists after it from the lists before it
use Rattle.std.specs.Prelude.{◌≡◌, cond, List, [], ◌∷◌, ◌++◌, ℕ, zero, suc, leb, length, drop, Result, Ok}
use Rattle.refusals.specs.declared.Refusal.{Refusal}
use Rattle.refusals.specs.Numbers.{RefusedBy}
pub use Rattle.words_reading_events.specs.Items.{Read, refused, built}
unfoldable pub use Rattle.words_reading_events.specs.Items.{items}

abbrev pub read_first : List ℕ → Read
read_first [] = refused 21
read_first (zero ∷ w) = items w (1 ∷ []) (1 ∷ []) (1 ∷ [])
read_first (suc zero ∷ w) = items w (3 ∷ 2 ∷ 1 ∷ []) (2 ∷ 3 ∷ 1 ∷ []) (1 ∷ 2 ∷ 3 ∷ [])
read_first (suc (suc x) ∷ w) = refused 22

unfoldable pub read : List ℕ → Read
read w = cond (leb (length w) 1025) (read_first w) (refused 21)

-- the room is asked last
abbrev pub with_room : Read → ℕ → ℕ → Read
with_room (refused k) a b = refused k
with_room (built D) a b = cond (leb (length D.black) a) (cond (leb (length D.black) b) (built D) (refused 9)) (refused 9)

unfoldable pub reading_answer : List ℕ → ℕ → ℕ → Read
reading_answer w a b = with_room (read w) a b

-- the lists s0 and s1 before, t0 and t1 after
abbrev pub ReadPromise : Read → Result ℕ Refusal → List ℕ → List ℕ → List ℕ → List ℕ → Type 0
ReadPromise (refused k) r s0 s1 t0 t1 = RefusedBy k r × (t0 ≡ s0) × (t1 ≡ s1)
ReadPromise (built D) r s0 s1 t0 t1 =
    (r ≡ Ok (length D.black))
    × (t0 ≡ D.black ++ drop (length D.black) s0)
    × (t1 ≡ D.white ++ drop (length D.black) s1)
