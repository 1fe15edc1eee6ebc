-- Laws of letters: those of an event, and those of the events from a place on, which is the step of each loop over them.
use mathlib.Core.Path.{◌≡◌, refl, sym, ap, ◌∙◌}
use mathlib.Core.List.{List, [], ◌∷◌, ◌++◌}
use Prim.Native.Nat.{ℕ, zero, suc, ◌+◌, ◌-◌, ◌≤◌, ◌<◌}
use native.Mathlib.Numerals.{add-one}
use native.Mathlib.Omega.{arith}
use lib.ListN.{length, get_or, set, drop, length-append, length-set, drop_of_length-le}
use lib.Seq.{drop-cons}
use Rattle.lists.specs.Overwriting.{overwrite_from}
use Rattle.lists.proofs.Overwriting.{from-none, from-length, from-from}
use Rattle.words_decimals.specs.Decimals.{decimal, BytesWritten, BytesPut}
use Rattle.words_decimals.proofs.Writing.{wrote-byte, wrote_then, put-wrote}
use Rattle.words_letters.specs.EventLetters.{event_letters, events_letters}

-- ---- an event

pub event-one : (x : ℕ) → x < 3 → length (event_letters x) ≡ 1
event-one zero h = refl
event-one (suc zero) h = refl
event-one (suc (suc zero)) h = refl
event-one (suc (suc (suc d))) h = absurd (omega arith)

pub event-jump : (x : ℕ) → 3 ≤ x → event_letters x ≡ 74 ∷ decimal (x - 3)
event-jump zero h = absurd (omega arith)
event-jump (suc zero) h = absurd (omega arith)
event-jump (suc (suc zero)) h = absurd (omega arith)
event-jump (suc (suc (suc d))) h = let e : suc (suc (suc d)) - 3 ≡ d = omega arith in rw e

-- a J, then its number
pub wrote-jump : (d : List ℕ) (i x r : ℕ) (e : List ℕ) → 3 ≤ x → i + length (event_letters x) ≤ length d → BytesPut (set d i 74) (i + 1) (decimal (x - 3)) r e → BytesWritten d i (event_letters x) r e
wrote-jump d i x r e j h p =
    rw (event-jump x j) (wrote_then d i (74 ∷ []) (decimal (x - 3)) (i + 1) (set d i 74) r e (omega (arith, long)) (wrote-byte d i 74 (omega (arith, long))) (put-wrote (set d i 74) (i + 1) (decimal (x - 3)) r e (rw length-set (omega (arith, long))) p))
  where
    long : length (event_letters x) ≡ suc (length (decimal (x - 3)))
    long = ap length (event-jump x j)

-- ---- the events from a place on

pub events-from : (w : List ℕ) (i : ℕ) → i < length w → events_letters (drop i w) ≡ event_letters (get_or w i 0) ++ events_letters (drop (i + 1) w)
unfolding events_letters
events-from w i h = rw (drop-cons w i 0 h, add-one, events_letters)

pub length_from : (w : List ℕ) (i : ℕ) → i < length w → length (events_letters (drop i w)) ≡ length (event_letters (get_or w i 0)) + length (events_letters (drop (i + 1) w))
length_from w i h = rw (events-from w i h, length-append)

pub events-past : (w : List ℕ) (i : ℕ) → length w ≤ i → events_letters (drop i w) ≡ []
unfolding events_letters
events-past w i h = rw (drop_of_length-le w h)

-- the letters of w are being written at place i of d: e holds those of the first k events, before `next`
pub record Rest (d : List ℕ) (i : ℕ) (w e : List ℕ) (next k : ℕ) : Type 0 where
  pub place : next + length (events_letters (drop k w)) ≡ i + length (events_letters w)
  pub within : i + length (events_letters w) ≤ length d
  pub long : length e ≡ length d
  pub rest : overwrite_from next (events_letters (drop k w)) e ≡ overwrite_from i (events_letters w) d

pub rest_more : (d : List ℕ) (i : ℕ) (w e : List ℕ) (next k next' : ℕ) (e' : List ℕ)
    → k < length w → Rest d i w e next k → BytesWritten e next (event_letters (get_or w k 0)) next' e' → Rest d i w e' next' (k + 1)
rest_more d i w e next k next' e' h l a = record {
  place = omega (arith, a.next, n, l.place);
  within = l.within;
  long = ap length a.bytes ∙ from-length next s e room ∙ l.long;
  rest = rw (a.next, a.bytes) (from-from next s e room t) ∙ ap (λ (u : List ℕ). overwrite_from next u e) (sym (events-from w k h)) ∙ l.rest;
}
  where
    s : List ℕ
    s = event_letters (get_or w k 0)

    t : List ℕ
    t = events_letters (drop (k + 1) w)

    n : length (events_letters (drop k w)) ≡ length s + length t
    n = length_from w k h

    room : next + length s ≤ length e
    room = omega (arith, n, l.place, l.within, l.long)

pub rest_end : (d : List ℕ) (i : ℕ) (w e : List ℕ) (next k : ℕ) → length w ≤ k → Rest d i w e next k → BytesWritten d i (events_letters w) next e
rest_end d i w e next k h l = record {
  next = omega (arith, ap length none, l.place);
  bytes = sym (from-none next e) ∙ ap (λ (u : List ℕ). overwrite_from next u e) (sym none) ∙ l.rest;
}
  where
    none : events_letters (drop k w) ≡ []
    none = events-past w k h
