-- What read word answers, told without the diagram's lists: how many labels are given and how many of them are pending decides it.
--
--   SizePromise q r          r is the refusal of the answer q, or the size of the diagram built
--   Counts used height t     the state t has so many labels given, so many of them pending
--   CountedAfter q w r       where reading stands after the answer r: q, the answer to the whole word, is that refusal, or else it is what the
--                            items w, which are still to be read, give from a state with those counts
use Rattle.std.specs.Prelude.{◌≡◌, List, ℕ, ◌≤◌, length, Result, Ok, Err}
use Rattle.refusals.specs.declared.Refusal.{Refusal}
use Rattle.refusals.specs.Numbers.{number, RefusedBy}
use Rattle.words_reading_events.specs.declared.LabelCounts.{LabelCounts}
use Rattle.words_reading_events.specs.State.{State, read_on}
use Rattle.words_reading.specs.Read.{Read, refused, built}

abbrev pub SizePromise : Read → Result ℕ Refusal → Type 0
SizePromise (refused k) r = RefusedBy k r
SizePromise (built D) r = r ≡ Ok (length D.black)

pub record Counts (used height : ℕ) (t : State) : Type 0 where
  pub given : used ≡ length t.black
  pub pending : height ≡ length t.stack
  -- a pending label is one of those given
  pub within : height ≤ used
  pub room : used ≤ 1024

abbrev pub CountedAfter : Read → List ℕ → Result LabelCounts Refusal → Type 0
CountedAfter q w (Ok m) = (t : State) × Counts m.used m.height t × (q ≡ read_on w t)
CountedAfter q w (Err e) = q ≡ refused (number e)
