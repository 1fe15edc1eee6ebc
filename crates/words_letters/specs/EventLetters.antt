-- The letters of events as ASCII bytes.
--
--   event_letters x           W, F, B, or J with d in decimal
--   events_letters w          those of the events w, one after another
use Rattle.std.specs.Prelude.{List, [], ◌∷◌, ◌++◌, ℕ, zero, suc}
use Rattle.words_decimals.specs.Decimals.{decimal}

-- W, F, B, Jd
abbrev pub event_letters : ℕ → List ℕ
event_letters zero = 87 ∷ []
event_letters (suc zero) = 70 ∷ []
event_letters (suc (suc zero)) = 66 ∷ []
event_letters (suc (suc (suc d))) = 74 ∷ decimal d

unfoldable pub events_letters : List ℕ → List ℕ
events_letters [] = []
events_letters (x ∷ w) = event_letters x ++ events_letters w
