-- The values of an answer of invariants, where it has any, or `old` where it has none. The number of its refusal is refusal_number's (crate refusals).
--
--   invariants_e2, ..          the five numbers
use Rattle.std.specs.Prelude.{ℕ, ℤ, Result, Ok, Err}
use Rattle.refusals.specs.declared.Refusal.{Refusal}
use Rattle.invariants.specs.declared.Numbers.{Numbers}

abbrev pub invariants_e2 : Result Numbers Refusal → ℕ → ℕ
invariants_e2 (Ok r) old = r.e2
invariants_e2 (Err e) old = old

abbrev pub invariants_e3 : Result Numbers Refusal → ℕ → ℕ
invariants_e3 (Ok r) old = r.e3
invariants_e3 (Err e) old = old

abbrev pub invariants_c : Result Numbers Refusal → ℕ → ℕ
invariants_c (Ok r) old = r.c
invariants_c (Err e) old = old

abbrev pub invariants_t : Result Numbers Refusal → ℤ → ℤ
invariants_t (Ok r) old = r.t
invariants_t (Err e) old = old

abbrev pub invariants_level : Result Numbers Refusal → ℕ → ℕ
invariants_level (Ok r) old = r.level
invariants_level (Err e) old = old
