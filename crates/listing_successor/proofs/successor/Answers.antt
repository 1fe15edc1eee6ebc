-- By `last_raise` an item after the first is raised; where none can be, U becomes T, or the word is the last.
use Rattle.std.proofs.Common.{arith, ◌≡◌, ◌≢◌, ◌⊎◌, inl, inr, refl, List, [], ℕ, ◌+◌, ◌≤◌, ◌<◌, length, get_or}
use Rattle.words.specs.Shape.{Fits, Word}
use Rattle.listing_successor.specs.Successor.{state_after_first, least_ending, shared_word}
use Rattle.listing_successor.specs.Promises.{SuccessorPromise}
use Rattle.listing_successor.specs.Reading.{Raises}
use Rattle.listing_successor.proofs.Padding.{succeeds}
use Rattle.listing_successor_states.proofs.States.{start_small}
use Rattle.listing_successor.proofs.Forwards.{rest, word-to-rest}
use Rattle.listing_successor.proofs.Branches.{word-there, raised-room, following-first, following-raised, following-rooted, following-none}
use Rattle.listing_successor.proofs.successor.Goals as goal

module _ (n : ℕ) (word : List ℕ) (size : n ≤ 50) (asked : (word ≡ []) ⊎ Word n word) (some : length word ≢ 0) where
  -- what is left after the first item, from the state after it
  fitting : Fits (state_after_first n (get_or word 0 0)).height (state_after_first n (get_or word 0 0)).free (rest word)
  fitting = word-to-rest n word (state_after_first n (get_or word 0 0)) refl (word-there n word asked some)

  small : (state_after_first n (get_or word 0 0)).height + (state_after_first n (get_or word 0 0)).free ≤ 50
  small = start_small n (get_or word 0 0) size

  module _ (place event h f : ℕ)
      (raising : (H F : ℕ) → Fits H F (rest word) → H + F ≤ 50 → Raises H F (rest word) place event h f) where
    raised : Raises (state_after_first n (get_or word 0 0)).height (state_after_first n (get_or word 0 0)).free (rest word) place event h f
    raised = raising _ _ fitting small

    room : event ≢ 0 → (place + 1 ≤ length word) × (place + 1 + 1 + length (least_ending h f) ≤ 51)
    room e = raised-room n place event h f word size (word-there n word asked some) some e raised

    -- the last word, with nothing after it
    nothing : event ≡ 0 → (get_or word 0 0 ≢ 0) ⊎ (n < 3) → SuccessorPromise n word (shared_word 0 [])
    nothing z k = succeeds n 0 word [] _ (following-none n place event h f z word some raised k) refl

pub returns-then-word-eq0 : goal.returns-then-word-eq0
returns-then-word-eq0 c =
    let a = c.args in
    succeeds a.n 0 a.word.now _ _ (following-first a.n a.word.now c.if-word-eq0.true) c.first_word.ensures

pub last_raise-r-requires : goal.last_raise-r-requires
last_raise-r-requires c = (_, _, fitting c.args.n c.args.word.now c.requires.0.1 c.requires.1 c.if-word-eq0.false, small c.args.n c.args.word.now c.requires.0.1 c.requires.1 c.if-word-eq0.false)

pub overflow_add-r : goal.overflow_add-r
overflow_add-r c =
    let i = room c.args.n c.args.word.now c.requires.0.1 c.requires.1 c.if-word-eq0.false _ _ _ _ c.last_raise-r.ensures (λ z. omega arith) in
    omega arith

pub raise_at-requires : goal.raise_at-requires
raise_at-requires c =
    let i = room c.args.n c.args.word.now c.requires.0.1 c.requires.1 c.if-word-eq0.false _ _ _ _ c.last_raise-r.ensures (λ z. omega arith) in
    let R = raised c.args.n c.args.word.now c.requires.0.1 c.requires.1 c.if-word-eq0.false _ _ _ _ c.last_raise-r.ensures in
    (i.0, i.1, R.ended (λ z. omega arith), R.small)

pub returns-then-r-gt0 : goal.returns-then-r-gt0
returns-then-r-gt0 c =
    let R = raised c.args.n c.args.word.now c.requires.0.1 c.requires.1 c.if-word-eq0.false _ _ _ _ c.last_raise-r.ensures in
    succeeds c.args.n (c.last_raise-r.result.place + 1) c.args.word.now _ _
    (following-raised c.args.n _ _ _ _ c.args.word.now c.if-word-eq0.false (λ z. omega arith) R)
    c.raise_at.ensures

pub returns-then-n-ge3 : goal.returns-then-n-ge3
returns-then-n-ge3 c =
    let R = raised c.args.n c.args.word.now c.requires.0.1 c.requires.1 c.if-word-eq0.false _ _ _ _ c.last_raise-r.ensures in
    let e = following-rooted c.args.n _ _ _ _ (omega arith) c.args.word.now c.if-word-eq0.false R c.if-word-eq0-2.true c.if-n-ge3.true in
    succeeds c.args.n 0 c.args.word.now _ _ e c.least_word.ensures

pub returns-else-n-ge3 : goal.returns-else-n-ge3
returns-else-n-ge3 c =
    nothing c.args.n c.args.word.now c.requires.0.1 c.requires.1 c.if-word-eq0.false _ _ _ _ c.last_raise-r.ensures (omega arith) (inr c.if-n-ge3.false)

pub returns-else-word-eq0-2 : goal.returns-else-word-eq0-2
returns-else-word-eq0-2 c =
    nothing c.args.n c.args.word.now c.requires.0.1 c.requires.1 c.if-word-eq0.false _ _ _ _ c.last_raise-r.ensures (omega arith) (inl c.if-word-eq0-2.false)
