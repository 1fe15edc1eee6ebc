-- 01's table of small sizes and its edges, by computation of the definitions.
use mathlib.Core.Path.{◌≡◌, refl, ap}
use mathlib.Core.Logic.{inl, inr}
use mathlib.Core.List.{List, [], ◌∷◌}
use Prim.Native.Nat.{ℕ}
use native.Mathlib.Omega.{arith}
use Rattle.refusals.specs.Named.{named}
use Rattle.std.specs.Prelude.{Ok}
use Rattle.lists.specs.Lists.{at}
use Rattle.lists.specs.Ranges.{OneTo}
use Rattle.diagrams.specs.Check.{Accepts, Refuses, no-path}
use Rattle.diagrams.proofs.Examples.{distinct-refused}
use Rattle.words.specs.Word.{Pair, spells, spell}
use Rattle.words.specs.Letters.{digits, decimal, events_letters, letters}
use Rattle.words_reading.specs.Read.{items, read, reading_answer}
use Rattle.labelling.specs.Labelling.{event, events, label, relabel, labels, word_of, characteristic}
use Rattle.labelling.specs.Rootings.{least_of, least_word, Kept}
use Rattle.labelling.proofs.OfLists.{spelled-accepted}
use Rattle.labelling.proofs.Rootings.{accepts-rerooted, kept-least, least_kept}
use Rattle.invariants_multiples.specs.Multiples.{least_common_multiple}
use Rattle.invariants_cycles.specs.Cycles.{t, fixed_points, cycles, period, least_of_cycle}
use Rattle.listing.specs.Listing.{completions, listing, count}
use Rattle.listing.specs.Position.{word_at, position}
use Rattle.listing.specs.Diagrams.{diagram_of, diagram_at}
use Rattle.listing_ranking.specs.Promises.{CountPromise}
use Rattle.census_definition.proofs.Example.{sizes-1-to-9}
use Rattle.upto.specs.Upto.{upto, total}
use Rattle.upto.specs.Visits.{visits}
use Rattle.sheet.specs.Cells.{cells, cell}
use Rattle.book.specs.Shares.{first, last, finished, holder, lapsed}
use Rattle.book.specs.Valid.{in_range, next_in, finished_free, ticket_once, ticket_issued, expiry_in, share_valid, entry_unused, entries_valid, counters_in, valid}
use Rattle.book.specs.Calls.{opened, entered, tick_in, held, claim_number, claim_book, ticket_number, due, commit_number, commit_answer}
use Rattle.book.proofs.Examples.{size-4-in-3, size-1-in-32, size-1-only-32}
use Rattle.theorems.specs.Table.{Table, Limits}

-- ---- the keep marks of size 3: of the rootings' words TWJ0, TJ0W and TJ1W, the first is the least

kept-1 : Kept (2 ∷ 3 ∷ 1 ∷ []) (1 ∷ 2 ∷ 3 ∷ []) 1
unfolding least_word least_of word_of label events event
kept-1 = least_kept (2 ∷ 3 ∷ 1 ∷ []) (1 ∷ 2 ∷ 3 ∷ []) 1 (omega arith) refl

kept-2 : Kept (2 ∷ 3 ∷ 1 ∷ []) (2 ∷ 1 ∷ 3 ∷ []) 1
unfolding least_word least_of word_of label events event
kept-2 = least_kept (2 ∷ 3 ∷ 1 ∷ []) (2 ∷ 1 ∷ 3 ∷ []) 1 (omega arith) refl

not-kept-3 : ¬ Kept (2 ∷ 3 ∷ 1 ∷ []) (1 ∷ 3 ∷ 2 ∷ []) 1
unfolding least_word least_of word_of label events event
not-kept-3 k =
    let z : ◌≡◌ {A = ℕ} 3 0 = ap (λ (w : List ℕ). at w 2) (kept-least (2 ∷ 3 ∷ 1 ∷ []) (1 ∷ 3 ∷ 2 ∷ []) 1 (omega arith) k) in
    omega arith

not-kept-4 : ¬ Kept (2 ∷ 3 ∷ 1 ∷ []) (3 ∷ 2 ∷ 1 ∷ []) 1
unfolding least_word least_of word_of label events event
not-kept-4 k =
    let z : ◌≡◌ {A = ℕ} 4 0 = ap (λ (w : List ℕ). at w 2) (kept-least (2 ∷ 3 ∷ 1 ∷ []) (3 ∷ 2 ∷ 1 ∷ []) 1 (omega arith) k) in
    omega arith

-- ---- (h): the diagram is the one that UFWW spells, rooted at edge 3

h-accepted : Accepts (1 ∷ 3 ∷ 4 ∷ 2 ∷ []) (2 ∷ 1 ∷ 3 ∷ 4 ∷ []) 3
unfolding spell spells
h-accepted =
    let D : Pair = record { black = 1 ∷ 3 ∷ 4 ∷ 2 ∷ []; white = 2 ∷ 1 ∷ 3 ∷ 4 ∷ [] } in
    accepts-rerooted (1 ∷ 3 ∷ 4 ∷ 2 ∷ []) (2 ∷ 1 ∷ 3 ∷ 4 ∷ []) 1 (spelled-accepted (0 ∷ 1 ∷ 0 ∷ 0 ∷ []) D refl (omega arith)) 3 (omega arith)

-- ---- (i): the root plays no part in refusal 8, but that it is an edge

rerooted : (root : ℕ) → OneTo 2 root → Refuses (1 ∷ 2 ∷ []) (1 ∷ 2 ∷ []) 1 8 → Refuses (1 ∷ 2 ∷ []) (1 ∷ 2 ∷ []) root 8
rerooted root e (no-path size lengths r blacks whites thrice twice distinct) = no-path size lengths e blacks whites thrice twice distinct

-- ---- the table

pub table : Table
unfolding listing completions letters events_letters decimal digits word_at diagram_at diagram_of spell spells fixed_points cycles least_common_multiple period least_of_cycle t word_of label events event characteristic labels relabel reading_answer read items upto total visits cells cell position
table = record {
  a = record { items_are = refl; names_are = refl; diagrams_are = refl };
  b = record { items_are = refl; names_are = refl; diagrams_are = refl };
  size_3 = record { items_are = refl; names_are = refl; diagrams_are = refl };
  c = record { word_is = refl; name_is = refl; lists_are = refl; e2_is = refl; e3_is = refl; c_is = refl; t_is = refl; level_is = refl; mark_is = inl (refl, kept-1) };
  d = record { word_is = refl; name_is = refl; lists_are = refl; e2_is = refl; e3_is = refl; c_is = refl; t_is = refl; level_is = refl; mark_is = inl (refl, kept-2) };
  e = record { word_is = refl; name_is = refl; lists_are = refl; e2_is = refl; e3_is = refl; c_is = refl; t_is = refl; level_is = refl; mark_is = inr (refl, not-kept-3) };
  f = record { word_is = refl; name_is = refl; lists_are = refl; e2_is = refl; e3_is = refl; c_is = refl; t_is = refl; level_is = refl; mark_is = inr (refl, not-kept-4) };
  g = record { items_are = refl; names_are = refl; diagrams_are = refl };
  h = record { accepted = h-accepted; word_is = refl; name_is = refl; lists_are = refl };
  i = λ root e. rerooted root e distinct-refused;
  j = (refl, λ room0 room1. refl);
  k = (
    record { first_is = size-4-in-3.0.0; last_is = size-4-in-3.0.1 },
    record { first_is = size-4-in-3.1.0; last_is = size-4-in-3.1.1 },
    record { first_is = size-4-in-3.2.0; last_is = size-4-in-3.2.1 },
  );
  l = (size-1-in-32, size-1-only-32);
  upto_3 = (refl, refl);
  sheet_4 = (refl, refl);
  level_7 = (refl, refl);
  summary_9 = sizes-1-to-9;
}

-- ---- the edges

-- the count of size 50 is not computed
taken-50 : CountPromise 50 (Ok (count 50))
taken-50 = (omega arith, refl)

pub limits : Limits
unfolding listing completions count word_at diagram_at diagram_of spell spells first last finished holder lapsed in_range next_in finished_free ticket_once ticket_issued expiry_in share_valid entry_unused entries_valid counters_in valid opened entered tick_in held claim_number claim_book ticket_number due commit_number commit_answer named
limits = record {
  size_50 = taken-50;
  size_51 = ((refl, λ e. omega arith), (refl, λ e. omega arith));
  position_8 = λ a0 a1 aw s. (omega arith, omega arith, s, refl, record { s0_written = refl; s1_written = refl; word_written = refl });
  position_9 = λ a0 a1 aw. (inr (inl (refl, omega arith, λ e. omega arith)), record { s0_same = refl; s1_same = refl; word_same = refl });
  before_expiry = refl;
  at_expiry = refl;
}
