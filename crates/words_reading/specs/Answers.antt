-- The value of read word's answer where it has one, or else `old`. (Its number is `refusal_number` of it: crate refusals, Numbers.)
--
--   read_size answer old    the diagram's size, or else old
use Rattle.std.specs.Prelude.{ℕ, Result, Ok, Err}
use Rattle.refusals.specs.declared.Refusal.{Refusal}

abbrev pub read_size : Result ℕ Refusal → ℕ → ℕ
read_size (Ok n) old = n
read_size (Err e) old = old
