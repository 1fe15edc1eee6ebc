-- Demand 2: the labelling is Vidal's as document 01 restates it ("Labelling and words", "Operations and what they turn away"). Each record
-- below is a sentence of the demand; its proof is the theorem of the same subject in proofs/Demand2.antt. The first records speak of the
-- definitions, those after them of what the operations promise, for every call that is accepted.
--
--   Characteristic D       the diagram D is in its characteristic labelling, with root 1
--   Outputs                the three lists of a call that writes a diagram and its word, as they were lent and as they are handed back
--   front n O, items m O   the diagram in the first n places of the two lists handed back, and the first m items of the word's list
--   Relabels, WritesAt     an accepted call of relabel, of diagram at a position, as the operation promises;  Reads, any call of read word
--   HandsBack n m O        the lists begin with a diagram of n edges in its characteristic labelling and with its word of m items
--   ReadsSpelled w D       read word of w gives the diagram D
-- The notions, where they are defined:
--   Accepts s0 s1 root, OneTo                        crate diagrams, Check; crate lists, Ranges
--   Isomorphic, RootedIsomorphic, Isomorphism        crate diagrams, Isomorphism (without roots; with roots)
--   label, label_of, labels, word_of, characteristic   crate labelling, Labelling
--   Kept, least_word                                  crate labelling, Rootings
--   spell; read, built, reading_answer, ReadPromise      crate words, Word; crate words_reading, Read
--   RelabelPromise, CompareRootedPromise, SymmetriesPromise, ..   crate labelling_operations, Promises
--   CountPromise, DiagramAtPromise, PositionPromise   crate listing_ranking, Promises
--   ListingHolds; InvariantsHold, Counts             Listing; Invariants
use Rattle.std.specs.Prelude.{◌≡◌, ◌↔◌, List, ℕ, ◌≤◌, length, take, drop, Bool, true, Result, Ok, Err}
use Rattle.std.proofs.Math.Option.{some}
use Rattle.lists.specs.Lists.{at}
use Rattle.lists.specs.Ranges.{OneTo}
use Rattle.diagrams.specs.Isomorphism.{Isomorphism, Isomorphic, RootedIsomorphic}
use Rattle.diagrams.specs.Check.{Accepts}
use Rattle.words.specs.Word.{Pair, spell}
use Rattle.refusals.specs.declared.Refusal.{Refusal}
use Rattle.words_reading.specs.Read.{read, built, reading_answer, ReadPromise}
use Rattle.labelling.specs.Labelling.{label, label_of, labels, word_of, characteristic}
use Rattle.labelling.specs.Rootings.{least_word, Kept}
use Rattle.labelling_answers.specs.declared.SideRefusal.{SideRefusal}
use Rattle.labelling_operations.specs.Promises.{RelabelPromise, CompareRootedPromise, CompareUnrootedPromise, SymmetriesPromise}
use Rattle.listing.specs.Listing.{listing}
use Rattle.listing_ranking.specs.Promises.{CountPromise, DiagramAtPromise, PositionPromise}
use Rattle.theorems.specs.Listing.{ListingHolds}
use Rattle.theorems.specs.Invariants.{Counts, InvariantsHold}

-- The result is isomorphic to the input. For every accepted rooted diagram:
pub record ResultIsomorphic (s0 s1 : List ℕ) (root : ℕ) : Type 0 where
  -- the labelling ends: after n events nothing more happens
  pub ends : (m : ℕ) → length s0 ≤ m → label m (at s0) (at s1) root ≡ label (length s0) (at s0) (at s1) root
  -- each edge has one label of 1..n, and the labels carry the diagram to the relabelled one
  pub labels_carry : Isomorphism (length s0) (at s0) (at s1) (at (characteristic s0 s1 root).black) (at (characteristic s0 s1 root).white) (label_of (labels s0 s1 root))
  -- the relabelled diagram is accepted by check with root 1
  pub accepted : Accepts (characteristic s0 s1 root).black (characteristic s0 s1 root).white 1
  -- a root-keeping isomorphism joins it to the input
  pub joined : RootedIsomorphic s0 s1 root (characteristic s0 s1 root).black (characteristic s0 s1 root).white 1

-- Two accepted rooted diagrams get equal results, and equal words, exactly if a root-keeping isomorphism joins them.
pub record EqualExactly (s0 s1 : List ℕ) (r : ℕ) (t0 t1 : List ℕ) (q : ℕ) : Type 0 where
  pub results : (characteristic s0 s1 r ≡ characteristic t0 t1 q) ↔ RootedIsomorphic s0 s1 r t0 t1 q
  pub words : (word_of s0 s1 r ≡ word_of t0 t1 q) ↔ RootedIsomorphic s0 s1 r t0 t1 q

-- Reading the word of an accepted diagram gives the relabelled diagram.
pub record ReadsBack (s0 s1 : List ℕ) (root : ℕ) : Type 0 where
  pub reads : read (word_of s0 s1 root) ≡ built (characteristic s0 s1 root)

-- Read word builds a diagram exactly if the word spells it and it has at most 1,024 edges, whatever list of numbers the word is. (Which
-- number it refuses with is the definition of `read` itself: 01's conditions in 01's order.)
abbrev pub ReadsExactly : List ℕ → Pair → Type 0
ReadsExactly w D = (read w ≡ built D) ↔ ((spell w ≡ some D) × (length D.black ≤ 1024))

-- Labelling the diagram D that a word w spells gives that word and leaves the diagram as it is; check accepts it up to 1,024 edges.
pub record LabelsBack (w : List ℕ) (D : Pair) : Type 0 where
  pub word : word_of D.black D.white 1 ≡ w
  pub result : characteristic D.black D.white 1 ≡ D
  pub accepted : length D.black ≤ 1024 → Accepts D.black D.white 1

-- Two accepted diagrams are isomorphic without roots exactly if some rooting of one has the word of the other, equivalently if their least
-- words are equal.
pub record UnrootedExactly (s0 s1 t0 t1 : List ℕ) (q : ℕ) : Type 0 where
  pub rootings : Isomorphic s0 s1 t0 t1 ↔ ((x : ℕ) × OneTo (length s0) x × (word_of s0 s1 x ≡ word_of t0 t1 q))
  pub leasts : Isomorphic s0 s1 t0 t1 ↔ (least_word s0 s1 ≡ least_word t0 t1)

-- A diagram in its characteristic labelling, with root 1.
pub record Characteristic (D : Pair) : Type 0 where
  pub accepted : Accepts D.black D.white 1
  pub relabelled : characteristic D.black D.white 1 ≡ D

-- The keep mark (the last sentence of demand 3): of all diagrams of a size in characteristic labelling, each class taken without a root,
-- here that of D, has exactly one that is kept. (Isomorphic diagrams have the same size.)
pub record KeptOnce (D : Pair) : Type 0 where
  pub kept : Pair
  pub in_form : Characteristic kept
  pub isomorphic : Isomorphic D.black D.white kept.black kept.white
  pub is_kept : Kept kept.black kept.white 1
  pub only : (E : Pair) → Characteristic E → Isomorphic D.black D.white E.black E.white → Kept E.black E.white 1 → E ≡ kept

-- ---- what the operations hand back

pub record Outputs : Type 0 where
  pub s0 : List ℕ
  pub s1 : List ℕ
  pub word : List ℕ
  pub s0_after : List ℕ
  pub s1_after : List ℕ
  pub word_after : List ℕ

abbrev pub front : ℕ → Outputs → Pair
front n O = record { black = take n O.s0_after; white = take n O.s1_after }

abbrev pub items : ℕ → Outputs → List ℕ
items m O = take m O.word_after

-- relabel of s0, s1 and root was accepted and answered the word's length m
abbrev pub Relabels : List ℕ → List ℕ → ℕ → Outputs → ℕ → Type 0
Relabels s0 s1 root O m = RelabelPromise s0 s1 root O.s0 O.s1 O.word O.s0_after O.s1_after O.word_after (Ok m)

-- diagram at position p of size n was accepted and answered the word's length m
abbrev pub WritesAt : ℕ → ℕ → Outputs → ℕ → Type 0
WritesAt n p O m = DiagramAtPromise n p O.s0 O.s1 O.word O.s0_after O.s1_after O.word_after (Ok m)

-- read word of w answered r; it is lent the first two lists only
abbrev pub Reads : List ℕ → Outputs → Result ℕ Refusal → Type 0
Reads w O r = ReadPromise (reading_answer w (length O.s0) (length O.s1)) r O.s0 O.s1 O.s0_after O.s1_after

pub record HandsBack (n m : ℕ) (O : Outputs) : Type 0 where
  pub in_form : Characteristic (front n O)
  pub sized : length (front n O).black ≡ n
  pub its_word : items m O ≡ word_of (front n O).black (front n O).white 1
  pub word_long : length (items m O) ≡ m
  -- behind them the lists hold what they held
  pub s0_rest : drop n O.s0_after ≡ drop n O.s0
  pub s1_rest : drop n O.s1_after ≡ drop n O.s1
  pub word_rest : drop m O.word_after ≡ drop m O.word

-- Read word of a word that spells the diagram D, of at most 1,024 edges, into lists that are long enough: it gives D.
abbrev pub ReadsSpelled : List ℕ → Pair → Type 0
ReadsSpelled w D = (O : Outputs) (r : Result ℕ Refusal) → length D.black ≤ length O.s0 → length D.black ≤ length O.s1 → Reads w O r
    → (r ≡ Ok (length D.black)) × (front (length D.black) O ≡ D)

-- Relabel.
pub record RelabelHolds (s0 s1 : List ℕ) (root : ℕ) (O : Outputs) (m : ℕ) : Type 0 where
  -- it hands back a diagram in its characteristic labelling, with its word,
  pub hands_back : HandsBack (length s0) m O
  -- and a root-keeping isomorphism joins that diagram to the input
  pub joined : RootedIsomorphic s0 s1 root (front (length s0) O).black (front (length s0) O).white 1
  -- reading the word handed back gives the diagram handed back
  pub reads_back : ReadsSpelled (items m O) (front (length s0) O)

-- Two calls of relabel hand back equal diagrams, and equal words, exactly if a root-keeping isomorphism joins the inputs.
pub record RelabelsExactly (s0 s1 : List ℕ) (r : ℕ) (O : Outputs) (m : ℕ) (t0 t1 : List ℕ) (q : ℕ) (P : Outputs) (k : ℕ) : Type 0 where
  pub diagrams : (front (length s0) O ≡ front (length t0) P) ↔ RootedIsomorphic s0 s1 r t0 t1 q
  pub words : (items m O ≡ items k P) ↔ RootedIsomorphic s0 s1 r t0 t1 q

-- Read word gives a diagram of n edges: it is the one that the word spells, and check accepts it; relabel leaves it as it is and gives the
-- word that was read.
pub record ReadHolds (w : List ℕ) (O : Outputs) (n : ℕ) : Type 0 where
  pub spelled : spell w ≡ some (front n O)
  pub accepted : Accepts (front n O).black (front n O).white 1
  pub writes_back : (P : Outputs) (m : ℕ) → Relabels (front n O).black (front n O).white 1 P m → (items m P ≡ w) × (front n P ≡ front n O)

-- Compare, of two accepted diagrams: "same" exactly if the words are equal, without roots the least words.
pub record CompareHolds (s0 s1 : List ℕ) (r : ℕ) (t0 t1 : List ℕ) (q : ℕ) : Type 0 where
  pub with_roots : (a : Result Bool SideRefusal) → CompareRootedPromise s0 s1 r t0 t1 q a → (a ≡ Ok true) ↔ (word_of s0 s1 r ≡ word_of t0 t1 q)
  pub without_roots : (a : Result Bool SideRefusal) → CompareUnrootedPromise s0 s1 r t0 t1 q a → (a ≡ Ok true) ↔ (least_word s0 s1 ≡ least_word t0 t1)

-- Symmetries: the number of edges to which an isomorphism of the diagram with itself carries the root.
abbrev pub SymmetriesHold : Type 0
SymmetriesHold = (s0 s1 : List ℕ) (root m : ℕ) → SymmetriesPromise s0 s1 root (Ok m) → Counts (length s0) (λ x. RootedIsomorphic s0 s1 root s0 s1 x) m

-- Count, diagram at a position and position of a diagram.
pub record PositionsHold : Type 0 where
  -- the count is the number of words of the listing, which holds each word of the size once (Listing)
  pub counted : (n k : ℕ) → CountPromise n (Ok k) → k ≡ length (listing n)
  -- what is handed back at a position is a diagram of the size in its characteristic labelling, with its word,
  pub hands_back : (n p : ℕ) (O : Outputs) (m : ℕ) → WritesAt n p O m → HandsBack n m O
  -- whose position is that position
  pub position_of : (n p : ℕ) (O : Outputs) (m : ℕ) → WritesAt n p O m → (q : ℕ) → PositionPromise (front n O).black (front n O).white 1 (Ok q) → q ≡ p
  -- and a root-keeping isomorphism joins a diagram to the one at its position
  pub at_position : (s0 s1 : List ℕ) (root p : ℕ) → PositionPromise s0 s1 root (Ok p) → (O : Outputs) (m : ℕ) → WritesAt (length s0) p O m
      → RootedIsomorphic s0 s1 root (front (length s0) O).black (front (length s0) O).white 1

-- ---- demand 2 whole

pub record Demand2 : Type 0 where
  -- the result is isomorphic to the input
  pub result_isomorphic : (s0 s1 : List ℕ) (root : ℕ) → Accepts s0 s1 root → ResultIsomorphic s0 s1 root
  pub relabels : (s0 s1 : List ℕ) (root : ℕ) (O : Outputs) (m : ℕ) → Relabels s0 s1 root O m → RelabelHolds s0 s1 root O m
  -- equal results exactly if a root-keeping isomorphism joins the inputs
  pub equal_exactly : (s0 s1 : List ℕ) (r : ℕ) → Accepts s0 s1 r → (t0 t1 : List ℕ) (q : ℕ) → Accepts t0 t1 q → EqualExactly s0 s1 r t0 t1 q
  pub relabels_exactly : (s0 s1 : List ℕ) (r : ℕ) (O : Outputs) (m : ℕ) → Relabels s0 s1 r O m
      → (t0 t1 : List ℕ) (q : ℕ) (P : Outputs) (k : ℕ) → Relabels t0 t1 q P k → RelabelsExactly s0 s1 r O m t0 t1 q P k
  pub unrooted_exactly : (s0 s1 : List ℕ) (r : ℕ) → Accepts s0 s1 r → (t0 t1 : List ℕ) (q : ℕ) → Accepts t0 t1 q → UnrootedExactly s0 s1 t0 t1 q
  pub compares : (s0 s1 : List ℕ) (r : ℕ) → Accepts s0 s1 r → (t0 t1 : List ℕ) (q : ℕ) → Accepts t0 t1 q → CompareHolds s0 s1 r t0 t1 q
  pub symmetries : SymmetriesHold
  pub kept_once : (D : Pair) → Characteristic D → KeptOnce D
  -- reading a word and writing a diagram are inverse
  pub reads_exactly : (w : List ℕ) (D : Pair) → ReadsExactly w D
  pub reads_back : (s0 s1 : List ℕ) (root : ℕ) → Accepts s0 s1 root → ReadsBack s0 s1 root
  pub labels_back : (w : List ℕ) (D : Pair) → spell w ≡ some D → LabelsBack w D
  pub reads : (w : List ℕ) (O : Outputs) (n : ℕ) → Reads w O (Ok n) → ReadHolds w O n
  pub reads_spelled : (w : List ℕ) (D : Pair) → spell w ≡ some D → length D.black ≤ 1024 → ReadsSpelled w D
  -- counts, positions and invariants equal their definitions
  pub listing : ListingHolds
  pub positions : PositionsHold
  pub invariants : InvariantsHold
