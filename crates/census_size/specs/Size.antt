-- The size that the input of the census program names: a decimal size without leading zeros and a newline, nothing else. Other input is refused 31;
-- empty input is the one exception.
--
--   Names i n               the input i is the size n in decimal, and a newline
--   NamedSizePromise i r    the promise of `named_size`: r is the size that i names, if it has one digit or two; 0 where i names none of these
--   RequestPromise i r      the promise of `asked`: the summary where i is empty; the census of the size of 1..50 that i names; 31 where i is neither
use Rattle.std.specs.Prelude.{◌≡◌, ◌≢◌, ◌⊎◌, List, [], ◌∷◌, ◌++◌, ℕ, ◌≤◌, Result, Ok, Err}
use Rattle.lists.specs.Ranges.{OneTo}
use Rattle.words.specs.Letters.{decimal}
use Rattle.census_size.specs.declared.Request.{Request}
use Rattle.census_size.specs.declared.Request.TheVariants.{Summary, Census}
use Rattle.refusals.specs.declared.Refusal.{Refusal}
use Rattle.refusals.specs.Numbers.{number}

-- 10 is the newline; there is no size 0; the decimal of a number of 64 bits or fewer has no leading zero
abbrev pub Names : List ℕ → ℕ → Type 0
Names input n = (1 ≤ n) × (input ≡ decimal n ++ (10 ∷ []))

abbrev pub NamedSizePromise : List ℕ → ℕ → Type 0
NamedSizePromise input r = (Names input r × (r ≤ 99)) ⊎ ((r ≡ 0) × ((n : ℕ) → n ≤ 99 → ¬ Names input n))

abbrev pub RequestPromise : List ℕ → Result Request Refusal → Type 0
RequestPromise input (Ok Summary) = input ≡ []
RequestPromise input (Ok (Census n)) = Names input n × OneTo 50 n
RequestPromise input (Err e) = (number e ≡ 31) × (input ≢ []) × ((m : ℕ) → OneTo 50 m → ¬ Names input m)
