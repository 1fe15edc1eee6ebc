-- What a beginning of a word leaves: the stack of pending labels and the lists of the labels given so far.
--
--   State                     pending, its top first; black and white, the lists so far
--   top_label S                the pending label that the next event pops
--   event_state x k r s0 s1    what the event x makes of the label k, r being pending below it
--   state_after x S            the state after the event x (of no meaning where x cannot be read in S)
--   first_state x              the state after the first item x, U or T
--   state_after_all w S         the state after the events w, from S on
--   state_of p                 the state after the beginning p of a word
use Rattle.std.specs.Prelude.{List, [], ◌∷◌, ◌++◌, ℕ, zero, suc, length, get_or}
use Rattle.lists.specs.Lists.{put, remove_at}

pub record State : Type 0 where
  pub pending : List ℕ
  pub black : List ℕ
  pub white : List ℕ

abbrev pub top_label : State → ℕ
top_label S = get_or S.pending 0 0

-- the right-hand sides of `spells`
unfoldable pub event_state : ℕ → ℕ → List ℕ → List ℕ → List ℕ → State
event_state zero k r s0 s1 = record { pending = r; black = s0; white = s1 }
event_state (suc zero) k r s0 s1 =
    let c = suc (length s0) in
    record { pending = suc (suc c) ∷ suc c ∷ r; black = s0 ++ (suc c ∷ suc (suc c) ∷ c ∷ []); white = put s1 k c ++ (k ∷ suc c ∷ suc (suc c) ∷ []) }
event_state (suc (suc zero)) k r s0 s1 =
    let c = suc (length s0) in
    record { pending = r; black = s0 ++ (c ∷ []); white = put s1 k c ++ (k ∷ []) }
event_state (suc (suc (suc d))) k r s0 s1 =
    let p = get_or r d 0 in
    record { pending = remove_at d r; black = s0; white = put (put s1 k p) p k }

abbrev pub state_after : ℕ → State → State
state_after x S = event_state x (top_label S) (remove_at 0 S.pending) S.black S.white

unfoldable pub first_state : ℕ → State
first_state zero = record { pending = 1 ∷ []; black = 1 ∷ []; white = 1 ∷ [] }
first_state (suc x) = record { pending = 3 ∷ 2 ∷ 1 ∷ []; black = 2 ∷ 3 ∷ 1 ∷ []; white = 1 ∷ 2 ∷ 3 ∷ [] }

unfoldable pub state_after_all : List ℕ → State → State
state_after_all [] S = S
state_after_all (x ∷ w) S = state_after_all w (state_after x S)

unfoldable pub state_of : List ℕ → State
state_of [] = record { pending = []; black = []; white = [] }
state_of (x ∷ w) = state_after_all w (first_state x)
