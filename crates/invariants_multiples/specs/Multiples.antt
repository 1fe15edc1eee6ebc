-- Common multiples and common divisors, said by what their names mean and not by how they are found; none is bounded.
--
--   CommonMultiple l m             every number of the list l divides m
--   LeastCommonMultiple l m        m is the least positive number that every number of l divides
--   least_common_multiple l          that number: the first from 1 on that passes the test
--   GreatestCommonDivisor a b g    g divides a and b, and no number that divides both is greater
--   Held m r                       the 64-bit number r stands for the positive number m: it is m, or 0 where m is 2^64 or more
--   HeldMultiple a b r             r stands for the least common multiple of b and of the number that a stands for
use Rattle.std.specs.Prelude.{◌≡◌, ◌⊎◌, Bool, true, false, cond, List, [], ◌∷◌, ℕ, ◌*◌, ◌%◌, ◌^◌, ◌≤◌, ◌<◌, eqb}
use Rattle.std.specs.Int.{◌∣◌}
use Rattle.lists.specs.Lists.{Has}
use Rattle.lists.specs.Ranges.{first_passing}

abbrev pub CommonMultiple : List ℕ → ℕ → Type 0
CommonMultiple l m = (d : ℕ) → Has d l → d ∣ m

pub record LeastCommonMultiple (l : List ℕ) (m : ℕ) : Type 0 where
  pub positive : 1 ≤ m
  pub multiple : CommonMultiple l m
  pub least : (k : ℕ) → 1 ≤ k → CommonMultiple l k → m ≤ k

-- CommonMultiple l m, as a test
abbrev pub all_divide : List ℕ → ℕ → Bool
all_divide [] m = true
all_divide (d ∷ l) m = cond (eqb (m % d) 0) (all_divide l m) false

abbrev pub product : List ℕ → ℕ
product [] = 1
product (d ∷ l) = d * product l

-- the product of positive numbers is a common multiple of them, so no number above it need be tried
unfoldable pub least_common_multiple : List ℕ → ℕ
least_common_multiple l = first_passing (product l) (all_divide l) 1

pub record GreatestCommonDivisor (a b g : ℕ) : Type 0 where
  pub left : g ∣ a
  pub right : g ∣ b
  pub greatest : (d : ℕ) → d ∣ a → d ∣ b → d ≤ g

abbrev pub Held : ℕ → ℕ → Type 0
Held m r = ((1 ≤ m) × (m < 2 ^ 64) × (r ≡ m)) ⊎ ((2 ^ 64 ≤ m) × (r ≡ 0))

abbrev pub HeldMultiple : ℕ → ℕ → ℕ → Type 0
HeldMultiple a b r = (m : ℕ) → Held m a → Held (least_common_multiple (b ∷ m ∷ [])) r
