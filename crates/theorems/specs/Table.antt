-- Small sizes, by hand (document 01, "Small sizes, by hand"): the table (a) to (l) and the edges beside it, said of the definitions that the
-- operations' promises cite.
--
--   U, T, W, F, B, J, ..       the bytes of the event letters, and of the digits 0 and 1
--   named ws                   the words ws in their event letters
--   pair s0 s1                 the diagram of these two lists
--   Words n items names ds     the words of size n, in order, are `items`; in letters they are `names`; they spell the diagrams ds
--   Line p ..                  line p of the census of size 3: its word, letters, s0, s1, invariants and keep mark (1: K, 0: a hyphen)
--   RelabelsTo s0 s1 root ..   check accepts the diagram, and it has that word, those letters and that characteristic labelling
--   Share n k j p q            share j of k holds the positions p to q of size n
--   four_cells                 a sheet of four cells, one of them damaged
--   Table, Limits              01's table; its edges
-- and from elsewhere: listing, count, word_at, diagram_at (listing); letters (words, Letters); e2, .., level (invariants_cycles); MarkOf (run_blocks, Rows);
-- word_of, characteristic (labelling); Accepts, CheckPromise (diagrams, Check); reading_answer (words_reading, Read); first, last, ShareHolds (book);
-- CountPromise, DiagramAtPromise (listing_ranking, Promises); summary (census_definition, Census); KeptCountPromise (run_kept_count, Promises); total, visits (upto); refusals, positions (sheet, Cells); cell_of, joined (Sheets); opened, claim_book,
-- commit_answer (book, Calls).
use Rattle.std.specs.Prelude.{◌≡◌, List, [], ◌∷◌, map, ℕ, ℤ, pos, replicate, Ok, Err}
use Rattle.std.proofs.Math.Option.{some}
use Rattle.lists.specs.Lists.{at}
use Rattle.lists.specs.Ranges.{OneTo}
use Rattle.diagrams.specs.Check.{Accepts, CheckPromise}
use Rattle.refusals.specs.declared.Refusal.TheVariants as refusal
use Rattle.words.specs.Word.{Pair, spell}
use Rattle.words.specs.Letters.{letters}
use Rattle.words.specs.Outputs.{overwrite, Short}
use Rattle.words_reading.specs.Read.{reading_answer, refused}
use Rattle.labelling.specs.Labelling.{word_of, characteristic}
use Rattle.invariants_cycles.specs.Cycles as cycles
use Rattle.listing.specs.Listing.{listing, count}
use Rattle.listing.specs.Position.{word_at}
use Rattle.listing.specs.Diagrams.{diagram_at}
use Rattle.run_blocks.specs.Rows.{MarkOf}
use Rattle.listing_ranking.specs.Promises.{CountPromise, DiagramAtPromise}
use Rattle.run_kept_count.specs.Promises.{KeptCountPromise}
use Rattle.census_definition.specs.Census as census
use Rattle.upto.specs.Upto as upto
use Rattle.upto.specs.Visits.{visits}
use Rattle.sheet.specs.Cells as sheet
use Rattle.book.specs.declared.types.Book.{Book}
use Rattle.book.specs.Shares.{first, last}
use Rattle.book.specs.Holding.{ShareHolds}
use Rattle.book.specs.Calls.{opened, claim_book, commit_answer}
use Rattle.theorems.specs.Sheets.{joined, cell_of}

-- ---- event letters in ASCII

abbrev pub U : ℕ
U = 85

abbrev pub T : ℕ
T = 84

abbrev pub W : ℕ
W = 87

abbrev pub F : ℕ
F = 70

abbrev pub B : ℕ
B = 66

abbrev pub J : ℕ
J = 74

abbrev pub digit0 : ℕ
digit0 = 48

abbrev pub digit1 : ℕ
digit1 = 49

-- each word in its letters
abbrev pub named : List (List ℕ) → List (List ℕ)
named [] = []
named (w ∷ ws) = letters w ∷ named ws

-- ---- lines of the table

abbrev pub pair : List ℕ → List ℕ → Pair
pair s0 s1 = record { black = s0; white = s1 }

-- all words of a size, in dictionary order
pub record Words (n : ℕ) (items names : List (List ℕ)) (diagrams : List Pair) : Type 0 where
  pub items_are : listing n ≡ items
  pub names_are : named items ≡ names
  pub diagrams_are : map spell items ≡ map some diagrams

-- a line that the census program prints for size 3
pub record Line (p : ℕ) (word name s0 s1 : List ℕ) (e2 e3 c : ℕ) (t : ℤ) (level mark : ℕ) : Type 0 where
  pub word_is : word_at 3 p ≡ word
  pub name_is : letters word ≡ name
  pub lists_are : diagram_at 3 p ≡ record { black = s0; white = s1 }
  pub e2_is : cycles.e2 3 (at s0) (at s1) ≡ e2
  pub e3_is : cycles.e3 3 (at s0) (at s1) ≡ e3
  pub c_is : cycles.c 3 (at s0) (at s1) ≡ c
  pub t_is : cycles.t 3 (at s0) (at s1) ≡ t
  pub level_is : cycles.level 3 (at s0) (at s1) ≡ level
  pub mark_is : MarkOf (diagram_at 3 p) mark

-- what relabel makes of a diagram
pub record RelabelsTo (s0 s1 : List ℕ) (root : ℕ) (word name t0 t1 : List ℕ) : Type 0 where
  pub accepted : Accepts s0 s1 root
  pub word_is : word_of s0 s1 root ≡ word
  pub name_is : letters word ≡ name
  pub lists_are : characteristic s0 s1 root ≡ record { black = t0; white = t1 }

-- the first and the last position of a share
pub record Share (n k j p q : ℕ) : Type 0 where
  pub first_is : first n k j ≡ p
  pub last_is : last n k j ≡ q

-- the cells of TJ1W, TW and UB, and that of UB with a number behind the word
abbrev pub four_cells : List ℕ
four_cells = joined (cell_of (1 ∷ 4 ∷ 0 ∷ []) ∷ cell_of (1 ∷ 0 ∷ []) ∷ cell_of (0 ∷ 2 ∷ []) ∷ (2 ∷ 0 ∷ 2 ∷ 1 ∷ replicate 48 0) ∷ [])

-- a diagram of seven edges: two triangles and an edge that s0 fixes
abbrev pub black_7 : List ℕ
black_7 = 2 ∷ 3 ∷ 1 ∷ 5 ∷ 6 ∷ 4 ∷ 7 ∷ []

abbrev pub white_7 : List ℕ
white_7 = 1 ∷ 4 ∷ 5 ∷ 2 ∷ 3 ∷ 7 ∷ 6 ∷ []

-- ---- the table

pub record Table : Type 0 where
  -- (a) size 1 is UW
  pub a : Words 1 ((0 ∷ 0 ∷ []) ∷ []) ((U ∷ W ∷ []) ∷ []) (pair (1 ∷ []) (1 ∷ []) ∷ [])
  -- (b) size 2 is UB
  pub b : Words 2 ((0 ∷ 2 ∷ []) ∷ []) ((U ∷ B ∷ []) ∷ []) (pair (1 ∷ 2 ∷ []) (2 ∷ 1 ∷ []) ∷ [])
  -- (c) to (f) the four words above, in order; and then their lines
  pub size_3 : Words 3 ((1 ∷ 0 ∷ 0 ∷ 0 ∷ []) ∷ (1 ∷ 0 ∷ 3 ∷ []) ∷ (1 ∷ 3 ∷ 0 ∷ []) ∷ (1 ∷ 4 ∷ 0 ∷ []) ∷ [])
      ((T ∷ W ∷ W ∷ W ∷ []) ∷ (T ∷ W ∷ J ∷ digit0 ∷ []) ∷ (T ∷ J ∷ digit0 ∷ W ∷ []) ∷ (T ∷ J ∷ digit1 ∷ W ∷ []) ∷ [])
      (pair (2 ∷ 3 ∷ 1 ∷ []) (1 ∷ 2 ∷ 3 ∷ []) ∷ pair (2 ∷ 3 ∷ 1 ∷ []) (2 ∷ 1 ∷ 3 ∷ []) ∷ pair (2 ∷ 3 ∷ 1 ∷ []) (1 ∷ 3 ∷ 2 ∷ []) ∷ pair (2 ∷ 3 ∷ 1 ∷ []) (3 ∷ 2 ∷ 1 ∷ []) ∷ [])
  -- (c) 1 TWWW 2,3,1 1,2,3 3 0 1 0 3 K
  pub c : Line 1 (1 ∷ 0 ∷ 0 ∷ 0 ∷ []) (T ∷ W ∷ W ∷ W ∷ []) (2 ∷ 3 ∷ 1 ∷ []) (1 ∷ 2 ∷ 3 ∷ []) 3 0 1 (pos 0) 3 1
  -- (d) 2 TWJ0 2,3,1 2,1,3 1 0 2 0 2 K
  pub d : Line 2 (1 ∷ 0 ∷ 3 ∷ []) (T ∷ W ∷ J ∷ digit0 ∷ []) (2 ∷ 3 ∷ 1 ∷ []) (2 ∷ 1 ∷ 3 ∷ []) 1 0 2 (pos 0) 2 1
  -- (e) 3 TJ0W 2,3,1 1,3,2 1 0 2 0 2 -
  pub e : Line 3 (1 ∷ 3 ∷ 0 ∷ []) (T ∷ J ∷ digit0 ∷ W ∷ []) (2 ∷ 3 ∷ 1 ∷ []) (1 ∷ 3 ∷ 2 ∷ []) 1 0 2 (pos 0) 2 0
  -- (f) 4 TJ1W 2,3,1 3,2,1 1 0 2 0 2 -
  pub f : Line 4 (1 ∷ 4 ∷ 0 ∷ []) (T ∷ J ∷ digit1 ∷ W ∷ []) (2 ∷ 3 ∷ 1 ∷ []) (3 ∷ 2 ∷ 1 ∷ []) 1 0 2 (pos 0) 2 0
  -- (g) size 4 in order: UFWW, UFJ0, TWWB, TWBW, TBWW, TBJ0, TJ0B, TJ1B
  pub g : Words 4
      ((0 ∷ 1 ∷ 0 ∷ 0 ∷ []) ∷ (0 ∷ 1 ∷ 3 ∷ []) ∷ (1 ∷ 0 ∷ 0 ∷ 2 ∷ []) ∷ (1 ∷ 0 ∷ 2 ∷ 0 ∷ []) ∷ (1 ∷ 2 ∷ 0 ∷ 0 ∷ []) ∷ (1 ∷ 2 ∷ 3 ∷ []) ∷ (1 ∷ 3 ∷ 2 ∷ []) ∷ (1 ∷ 4 ∷ 2 ∷ []) ∷ [])
      ((U ∷ F ∷ W ∷ W ∷ []) ∷ (U ∷ F ∷ J ∷ digit0 ∷ []) ∷ (T ∷ W ∷ W ∷ B ∷ []) ∷ (T ∷ W ∷ B ∷ W ∷ []) ∷ (T ∷ B ∷ W ∷ W ∷ []) ∷ (T ∷ B ∷ J ∷ digit0 ∷ []) ∷ (T ∷ J ∷ digit0 ∷ B ∷ []) ∷ (T ∷ J ∷ digit1 ∷ B ∷ []) ∷ [])
      (pair (1 ∷ 3 ∷ 4 ∷ 2 ∷ []) (2 ∷ 1 ∷ 3 ∷ 4 ∷ []) ∷ pair (1 ∷ 3 ∷ 4 ∷ 2 ∷ []) (2 ∷ 1 ∷ 4 ∷ 3 ∷ []) ∷ pair (2 ∷ 3 ∷ 1 ∷ 4 ∷ []) (4 ∷ 2 ∷ 3 ∷ 1 ∷ []) ∷ pair (2 ∷ 3 ∷ 1 ∷ 4 ∷ []) (1 ∷ 4 ∷ 3 ∷ 2 ∷ []) ∷ pair (2 ∷ 3 ∷ 1 ∷ 4 ∷ []) (1 ∷ 2 ∷ 4 ∷ 3 ∷ []) ∷ pair (2 ∷ 3 ∷ 1 ∷ 4 ∷ []) (2 ∷ 1 ∷ 4 ∷ 3 ∷ []) ∷ pair (2 ∷ 3 ∷ 1 ∷ 4 ∷ []) (4 ∷ 3 ∷ 2 ∷ 1 ∷ []) ∷ pair (2 ∷ 3 ∷ 1 ∷ 4 ∷ []) (3 ∷ 4 ∷ 1 ∷ 2 ∷ []) ∷ [])
  -- (h) s0 1,3,4,2, s1 2,1,3,4, root 3 gives TBWW, s0 2,3,1,4, s1 1,2,4,3
  pub h : RelabelsTo (1 ∷ 3 ∷ 4 ∷ 2 ∷ []) (2 ∷ 1 ∷ 3 ∷ 4 ∷ []) 3 (1 ∷ 2 ∷ 0 ∷ 0 ∷ []) (T ∷ B ∷ W ∷ W ∷ []) (2 ∷ 3 ∷ 1 ∷ 4 ∷ []) (1 ∷ 2 ∷ 4 ∷ 3 ∷ [])
  -- (i) s0 1,2 with s1 1,2 is refused 8, whichever edge is the root
  pub i : (root : ℕ) → OneTo 2 root → CheckPromise (1 ∷ 2 ∷ []) (1 ∷ 2 ∷ []) root (Err refusal.NotConnected)
  -- (j) word TW is refused 25, whatever room the two lists have
  pub j : (letters (1 ∷ 0 ∷ []) ≡ T ∷ W ∷ []) × ((room0 room1 : ℕ) → reading_answer (1 ∷ 0 ∷ []) room0 room1 ≡ refused 25)
  -- (k) size 4 in 3 shares: 1-2, 3-5, 6-8
  pub k : Share 4 3 1 1 2 × Share 4 3 2 3 5 × Share 4 3 3 6 8
  -- (l) size 1 in 32 shares: only share 32 holds a position
  pub l : ShareHolds 1 32 32 1 × ((share p : ℕ) → ShareHolds 1 32 share p → (share ≡ 32) × (p ≡ 1))
  -- and request U1's example: the sizes 1 to 3 together are 6 diagrams and, at the last of them, 6 visits
  pub upto_3 : (upto.total 3 ≡ 6) × (visits 3 6 ≡ 6)
  -- and a sheet (request U2) of four cells: TJ1W is (f), TW is (j), UB is (b), and UB with a number in its tail is 61
  pub sheet_4 : (sheet.refusals four_cells ≡ 0 ∷ 25 ∷ 0 ∷ 61 ∷ []) × (sheet.positions four_cells ≡ 4 ∷ 0 ∷ 1 ∷ 0 ∷ [])
  -- and a level (request U3): cycles of the lengths 3 and 4, here of the edges 7 to 1, give 12
  pub level_7 : (cycles.cycle_lengths 7 (cycles.cusp_map (at black_7) (at white_7)) ≡ 4 ∷ 4 ∷ 3 ∷ 4 ∷ 4 ∷ 3 ∷ 3 ∷ []) × (cycles.level 7 (at black_7) (at white_7) ≡ 12)
  -- and the summary of the sizes 1 to 9 (request U4); of size 3, (c) and (d) are kept
  pub summary_9 : census.summary (census.ascii "\n") ≡ census.ascii "1 1 1\n2 1 1\n3 4 2\n4 8 2\n5 5 1\n6 22 8\n7 42 6\n8 40 7\n9 120 14\n"

-- ---- the edges: the last that is taken and the first that is refused

-- size 4 in 3 shares; share 1 is claimed at tick 10 for 5 ticks: the ticket is 1, its expiry 15, and position 1 is due
abbrev pub claimed : Book
claimed = claim_book (opened 4 3) 10 1 5

pub record Limits : Type 0 where
  -- size 50 taken, 51 refused 31
  pub size_50 : CountPromise 50 (Ok (count 50))
  pub size_51 : CountPromise 51 (Err refusal.ListedSizeOutOfRange) × KeptCountPromise 51 (Err refusal.ListedSizeOutOfRange)
  -- position 8 of size 4 taken, 9 refused 32
  pub position_8 : (a0 a1 aw : List ℕ) → ¬ Short 4 a0 a1 aw
      → DiagramAtPromise 4 8 a0 a1 aw (overwrite (2 ∷ 3 ∷ 1 ∷ 4 ∷ []) a0) (overwrite (3 ∷ 4 ∷ 1 ∷ 2 ∷ []) a1) (overwrite (1 ∷ 4 ∷ 2 ∷ []) aw) (Ok 3)
  pub position_9 : (a0 a1 aw : List ℕ) → DiagramAtPromise 4 9 a0 a1 aw a0 a1 aw (Err refusal.PositionOutOfRange)
  -- commit one tick before expiry taken, at expiry refused 59
  pub before_expiry : commit_answer claimed 14 1 1 ≡ Ok tt
  pub at_expiry : commit_answer claimed 15 1 1 ≡ Err refusal.TicketLapsed
