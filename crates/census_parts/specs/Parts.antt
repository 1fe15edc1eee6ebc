-- The text of a census in parts.
--
--   begun n                     the progress before the first part
--   InProgress c                the numbers of c belong together: so many rows are printed, so many of their diagrams are kept, and the run is after them
--   printed c                   the text that is printed so far
--   left c                      a number that falls with each part
--   PartGiven c next bytes b    the next part are the first bytes of b, and the progress after it is next
--   Parts c ss                  the texts ss are the parts that follow, one after another, to the last
--   PartsAreCensus              the parts of a census, from the first to the last, are its text
use Rattle.std.specs.Prelude.{◌≡◌, ℕ, zero, suc, ◌+◌, ◌-◌, ◌≤◌, ◌<◌, length, take}
use mathlib.Core.List.{List, [], ◌∷◌, ◌++◌, flatten}
use Rattle.lists.specs.Ranges.{OneTo}
use Rattle.listing.specs.Listing.{count}
use Rattle.run_answers.specs.Promises.{fresh, run_after}
use Rattle.census_definition.specs.Census.{header, rows, kept_among, census}
use Rattle.census_parts.specs.declared.Progress.{Progress}

abbrev pub begun : ℕ → Progress
begun n = record { size = n; stage = 0; listed = 0; kept = 0; run = fresh n }

pub record InProgress (c : Progress) : Type 0 where
  pub sized : OneTo 50 c.size
  pub staged : c.stage ≤ 2
  pub none_yet : c.stage ≡ 0 → c.listed ≡ 0
  pub within : c.listed ≤ count c.size
  pub counted : c.kept ≡ kept_among c.size 0 c.listed
  pub run_left : c.run ≡ run_after c.size c.listed

abbrev pub printed_at : ℕ → ℕ → ℕ → List ℕ
printed_at zero n p = []
printed_at (suc zero) n p = header n ++ rows n 0 p
printed_at (suc (suc s)) n p = census n

abbrev pub printed : Progress → List ℕ
printed c = printed_at c.stage c.size c.listed

abbrev pub left : Progress → ℕ
left c = (2 - c.stage) + (count c.size - c.listed)

pub record PartGiven (c next : Progress) (bytes : ℕ) (b : List ℕ) : Type 0 where
  pub goes_on : InProgress next
  pub same_size : next.size ≡ c.size
  pub fits : bytes ≤ length b
  pub text : printed next ≡ printed c ++ take bytes b
  pub falls : left next < left c

pub data Parts : Progress → List (List ℕ) → Type 0 where
  over : {c : Progress} → c.stage ≡ 2 → Parts c []
  more : {c : Progress} {ss : List (List ℕ)} (next : Progress) (bytes : ℕ) (b : List ℕ) → PartGiven c next bytes b → Parts next ss → Parts c (take bytes b ∷ ss)

abbrev pub PartsAreCensus : Type 0
PartsAreCensus = (n : ℕ) (ss : List (List ℕ)) → OneTo 50 n → Parts (begun n) ss → flatten ss ≡ census n
