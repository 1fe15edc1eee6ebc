-- The values of what relabel, compare, symmetries and kept answer: the answer's own, or `old` where the answer has no such value. The number of
-- an answer is refusal_number of crate refusals; that of compare, whose refusal has a side, is here.
--
--   relabel_length answer old     the word's length
--   side_number side              1 the first, 2 the second
--   compare_number answer         1 to 8, or 0;  compare_same, 1 the same and 0 different;  compare_side, a refusal's side
--   symmetries_count answer old   the number of symmetries
--   kept_mark answer old          1 kept and 0 not
use Rattle.std.specs.Prelude.{ℕ, Bool, cond, Result, Ok, Err}
use Rattle.refusals.specs.declared.Refusal.{Refusal}
use Rattle.refusals.specs.Numbers.{number}
use Rattle.labelling_answers.specs.declared.Side.{Side}
use Rattle.labelling_answers.specs.declared.Side.TheVariants as the
use Rattle.labelling_answers.specs.declared.SideRefusal.{SideRefusal}

-- the word's length
abbrev pub relabel_length : Result ℕ Refusal → ℕ → ℕ
relabel_length (Ok m) old = m
relabel_length (Err e) old = old

abbrev pub side_number : Side → ℕ
side_number the.First = 1
side_number the.Second = 2

abbrev pub compare_number : Result Bool SideRefusal → ℕ
compare_number (Ok same) = 0
compare_number (Err r) = number r.refusal

-- 1 the same, 0 different
abbrev pub compare_same : Result Bool SideRefusal → ℕ → ℕ
compare_same (Ok same) old = cond same 1 0
compare_same (Err r) old = old

-- a refusal's side
abbrev pub compare_side : Result Bool SideRefusal → ℕ → ℕ
compare_side (Ok same) old = old
compare_side (Err r) old = side_number r.side

abbrev pub symmetries_count : Result ℕ Refusal → ℕ → ℕ
symmetries_count (Ok m) old = m
symmetries_count (Err e) old = old

-- 1 kept, 0 not kept
abbrev pub kept_mark : Result Bool Refusal → ℕ → ℕ
kept_mark (Ok kept) old = cond kept 1 0
kept_mark (Err e) old = old
