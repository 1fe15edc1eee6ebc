-- The answers as callers in C and Rust take them: a number, which the function returns, and values, which stand behind pointers after the call.
--
--   refusal_number answer   0 where the call is accepted, otherwise the number of the refusal; compare_number, the same of compare
--   told_value answer old   the value of an answer that has one; `old`, what stood there before, where it has none
--
-- What the value of each operation's answer is, its own crate defines (specs/Answers.antt), and the contracts of the boundary say it by that definition;
-- told_value, which serves all answers of one value, gives the same. Answers of more than one value have a definition for each, which likewise leaves
-- what stood there.
use Rattle.std.specs.Prelude.{ℕ, Result, Ok, Err}
use Rattle.refusals.specs.declared.Refusal.{Refusal}
pub use Rattle.refusals.specs.Numbers.{refusal_number}
pub use Rattle.words.specs.Answers.{letters_length}
pub use Rattle.words_reading.specs.Answers.{read_size}
pub use Rattle.labelling_operations.specs.Answers.{relabel_length, compare_number, compare_same, compare_side, symmetries_count, kept_mark}
pub use Rattle.invariants.specs.Answers.{invariants_e2, invariants_e3, invariants_c, invariants_t, invariants_level}
pub use Rattle.listing_ranking.specs.Answers.{count_total, entry_length, located_position}
pub use Rattle.listing_plain_walk.specs.Answers.{walk_count}
pub use Rattle.run_steps.specs.Answers.{step_length}
pub use Rattle.run_blocks.specs.Answers.{list_rows}
pub use Rattle.book.specs.Answers.{claiming_ticket, taking_share, taking_position, taking_length, reporting_committed, reporting_complete}

abbrev pub told_value : Result ℕ Refusal → ℕ → ℕ
told_value (Ok value) old = value
told_value (Err e) old = old
