-- Answers are determined: each operation, from the laws of its subject.
use mathlib.Core.Path.{◌≡◌, sym, ◌∙◌}
use mathlib.Core.List.{List}
use Prim.Native.Nat.{ℕ}
use lib.ListN.{length}
use Rattle.std.specs.Prelude.{Result}
use Rattle.words_reading.specs.Read.{reading_answer}
use Rattle.book.specs.declared.types.Book.{Book}
use Rattle.refusals.specs.declared.Refusal.{Refusal}
use Rattle.book.specs.declared.types.Taken.{Taken}
use Rattle.book.specs.Taken.{TakePromise}
use Rattle.theorems.specs.Determined.{SameLists, Determined}
pub mod Diagrams
pub mod Rows
pub mod Upto
pub mod Texts
use Rattle.theorems.proofs.Determined.Diagrams.{check_once, checked_once, all_reached_once, letters_once, gave-once, relabel_once, characteristic_once, compare_rooted_once, compare_unrooted_once, symmetries_once, kept_once, invariants_once, count_once, kept_count_once, diagram_at_once, position_once, sheet_once, plain_walk_once}
use Rattle.theorems.proofs.Determined.Texts.{rows_once}
use Rattle.theorems.proofs.Determined.Rows.{begin_once, begin_at_once, step_once, list_once, list_marked_once}
use Rattle.theorems.proofs.Determined.Upto.{upto_begin_once, upto_step_once}

take_once : (book : Book) (tick t : ℕ) (a0 a1 aw : List ℕ) (r q : Result Taken Refusal) (b c : Book) (b0 b1 bw c0 c1 cw : List ℕ)
    → TakePromise book tick t a0 a1 aw r b b0 b1 bw → TakePromise book tick t a0 a1 aw q c c0 c1 cw
    → (r ≡ q) × (b ≡ c) × SameLists b0 b1 bw c0 c1 cw
take_once book tick t a0 a1 aw r q b c b0 b1 bw c0 c1 cw x y = (
  x.answered ∙ sym y.answered,
  x.left ∙ sym y.left,
  record { s0_same = x.s0_is ∙ sym y.s0_is; s1_same = x.s1_is ∙ sym y.s1_is; word_same = x.word_is ∙ sym y.word_is },
)

pub determined : Determined
determined = record {
  check_once = check_once;
  checked_once = checked_once;
  all_reached_once = all_reached_once;
  letters_once = letters_once;
  read_once = λ w a0 a1 b0 b1 c0 c1 r q x y. gave-once (reading_answer w (length a0) (length a1)) a0 a1 b0 b1 c0 c1 r q x y;
  relabel_once = relabel_once;
  characteristic_once = characteristic_once;
  compare_rooted_once = compare_rooted_once;
  compare_unrooted_once = compare_unrooted_once;
  symmetries_once = symmetries_once;
  kept_once = kept_once;
  invariants_once = invariants_once;
  count_once = count_once;
  kept_count_once = kept_count_once;
  diagram_at_once = diagram_at_once;
  position_once = position_once;
  sheet_once = sheet_once;
  plain_walk_once = plain_walk_once;
  begin_once = begin_once;
  begin_at_once = begin_at_once;
  step_once = λ run next other a0 a1 aw. step_once run a0 a1 aw next other;
  upto_begin_once = upto_begin_once;
  upto_step_once = λ run next other a0 a1 aw. upto_step_once run a0 a1 aw next other;
  rows_once = rows_once;
  list_once = list_once;
  list_marked_once = list_marked_once;
  take_once = take_once;
}
