-- The loops over the events: the labelling stands behind the items found so far, and the arrays hold it.
use mathlib.Core.Path.{◌≡◌, refl, sym, ◌∙◌}
use mathlib.Core.Logic.{◌≢◌, inl}
use mathlib.Core.List.{List, [], ◌∷◌, ◌++◌}
use Prim.Native.Nat.{ℕ, suc, ◌+◌, ◌≤◌, ◌<◌}
use native.Mathlib.Omega.{arith}
use lib.ListN.{length, get_or, set, drop, length-append}
use lib.Seq.{drop-set-lt}
use Rattle.lists.specs.Lists.{at, Has}
use Rattle.lists.proofs.Copies.{written-more, written-length}
use Rattle.pending_ring.specs.Ring.{Ring}
use Rattle.pending_ring.proofs.Laws.{ring-top}
use Rattle.labelling.specs.Labelling.{event, label, labels, word_of}
use Rattle.labelling_events.specs.Scratch.{first_event_of}
use Rattle.labelling_tracing_events.specs.declared.EventItem.{EventItem}
use Rattle.labelling_tracing_events.specs.Stamps.{Underway, EventDone}
use Rattle.labelling_tracing.specs.Traced.{WordWritten}
use Rattle.labelling.proofs.Standing.{Standing, standing-begin, standing-room, standing-event, standing-end}

-- the labelling from the root stands behind the items w
pub record Sofar (s0 s1 : List ℕ) (root : ℕ) (sp : List ℕ) (t : ℕ) (nx pv : List ℕ) (c : ℕ) (w : List ℕ) : Type 0 where
  pub marked : List ℕ
  pub stack : List ℕ
  pub underway : Underway s0 s1 sp t nx pv c marked stack
  pub standing : Standing (length s0) (at s0) (at s1) root w marked stack

pub sofar-begin : {s0 s1 : List ℕ} {root : ℕ} {sp : List ℕ} {t : ℕ} {nx pv : List ℕ} (e : EventItem) → EventDone s0 s1 sp t nx pv (first_event_of s0 root) e → Sofar s0 s1 root sp t nx pv e.given (e.item ∷ [])
sofar-begin {s0} {s1} {root} e d = record { marked = _; stack = _; underway = d.leaves; standing = rw d.item_is (standing-begin (length s0) (at s0) (at s1) root) }

module _ {s0 s1 : List ℕ} {root : ℕ} {sp : List ℕ} {t : ℕ} {nx pv : List ℕ} {c : ℕ} {w : List ℕ} (S : Sofar s0 s1 root sp t nx pv c w) where
  -- the sentinel's link tells whether an edge is pending
  popped : get_or nx 0 0 ≢ 0 → (k : ℕ) × (r : List ℕ) × (S.stack ≡ k ∷ r)
  popped n = go S.stack (ring-top nx pv S.stack S.underway.ring)
    where
      go : (st : List ℕ) → get_or nx 0 0 ≡ get_or st 0 0 → (k : ℕ) × (r : List ℕ) × (st ≡ k ∷ r)
      go [] e = absurd (n e)
      go (k ∷ r) e = (k, r, refl)

  empty : get_or nx 0 0 ≡ 0 → S.stack ≡ []
  empty z = go S.stack (ring-top nx pv S.stack S.underway.ring) S.underway.ring.once.0
    where
      go : (st : List ℕ) → get_or nx 0 0 ≡ get_or st 0 0 → ¬ Has 0 st → st ≡ []
      go [] e m = refl
      go (k ∷ r) e m = absurd (m (inl (sym z ∙ e)))

  pub sofar-few : length w ≤ suc (length s0)
  sofar-few = let i = S.standing.moves in omega arith

  -- while an edge is pending: the event's state, and room for its item
  pub sofar-underway : get_or nx 0 0 ≢ 0 → (o : List ℕ) × (k : ℕ) × (r : List ℕ) × Underway s0 s1 sp t nx pv c o (k ∷ r)
  sofar-underway n = let (k, r, q) = popped n in (S.marked, k, r, rw q at S.underway)

  pub sofar-room : get_or nx 0 0 ≢ 0 → length w ≤ length s0
  sofar-room n =
      let (k, r, q) = popped n in
      let u = rw q at S.underway in
      standing-room u.mapped.maps u.along (rw q at S.standing)

  pub sofar-event : get_or nx 0 0 ≢ 0 → (sp' nx' pv' : List ℕ) (e : EventItem)
      → ((o : List ℕ) (k : ℕ) (r : List ℕ) → Underway s0 s1 sp t nx pv c o (k ∷ r) → EventDone s0 s1 sp' t nx' pv' (event (at s0) (at s1) o k r) e)
      → Sofar s0 s1 root sp' t nx' pv' e.given (w ++ (e.item ∷ []))
  sofar-event n sp' nx' pv' e d =
      let (k, r, q) = popped n in
      let u = rw q at S.underway in
      let v = d S.marked k r u in
      record { marked = _; stack = _; underway = v.leaves; standing = rw v.item_is (standing-event u.mapped.maps u.along (rw q at S.standing)) }

  pub sofar-word : (rest : List ℕ) × (word_of s0 s1 root ≡ w ++ rest)
  unfolding word_of
  sofar-word = (_, S.standing.word)

  pub sofar-end : get_or nx 0 0 ≡ 0 → (word_of s0 s1 root ≡ w) × (labels s0 s1 root ≡ S.marked)
  unfolding word_of labels
  sofar-end z = standing-end (rw (empty z) at S.standing)

  pub sofar-ring : get_or nx 0 0 ≡ 0 → Ring nx pv []
  sofar-ring z = rw (empty z) at S.underway.ring

-- ---- the items in a list: its first m places, before what it held

pub record Filled (s0 s1 : List ℕ) (root : ℕ) (sp : List ℕ) (t : ℕ) (nx pv : List ℕ) (c : ℕ) (w a b : List ℕ) (m : ℕ) : Type 0 where
  pub sofar : Sofar s0 s1 root sp t nx pv c w
  pub counted : length w ≡ m
  pub written : b ≡ w ++ drop m a

-- the first item stands in the list already when the loop begins
pub filled-begin : {s0 s1 : List ℕ} {root : ℕ} {sp : List ℕ} {t : ℕ} {nx pv : List ℕ} (e : EventItem) (a : List ℕ) → 0 < length a → EventDone s0 s1 sp t nx pv (first_event_of s0 root) e
    → Filled s0 s1 root sp t nx pv e.given (e.item ∷ []) (set a 0 e.item) (set a 0 e.item) 1
filled-begin e a h d = record { sofar = sofar-begin e d; counted = refl; written = go a h }
  where
    go : (a : List ℕ) → 0 < length a → set a 0 e.item ≡ e.item ∷ drop 1 (set a 0 e.item)
    go [] h = absurd (omega arith)
    go (x ∷ a) h = refl

module _ {s0 s1 : List ℕ} {root : ℕ} {sp : List ℕ} {t : ℕ} {nx pv : List ℕ} {c : ℕ} {w a b : List ℕ} {m : ℕ} (F : Filled s0 s1 root sp t nx pv c w a b m) where
  filled-few : m ≤ suc (length s0)
  filled-few = let i = sofar-few F.sofar in let j = F.counted in omega arith

  pub filled-length : length s0 < length a → length b ≡ length a
  filled-length h = rw F.written (written-length a w m F.counted (let i = filled-few in omega arith))

  pub filled-room : get_or nx 0 0 ≢ 0 → m ≤ length s0
  filled-room n = let i = sofar-room F.sofar n in let j = F.counted in omega arith

  pub filled_more : get_or nx 0 0 ≢ 0 → length s0 < length a → (sp' nx' pv' : List ℕ) (e : EventItem)
      → ((o : List ℕ) (k : ℕ) (r : List ℕ) → Underway s0 s1 sp t nx pv c o (k ∷ r) → EventDone s0 s1 sp' t nx' pv' (event (at s0) (at s1) o k r) e)
      → Filled s0 s1 root sp' t nx' pv' e.given (w ++ (e.item ∷ [])) a (set b m e.item) (m + 1)
  filled_more n h sp' nx' pv' e d =
      let i = filled-room n in
      record {
        sofar = sofar-event F.sofar n sp' nx' pv' e d;
        counted = simp length-append (let j = F.counted in omega arith);
        written = rw F.written (written-more a w m e.item F.counted (omega arith));
      }

  pub filled-end : get_or nx 0 0 ≡ 0 → WordWritten s0 s1 root nx pv a b record { len = m; given = c }
  filled-end z =
      let end = sofar-end F.sofar z in
      record {
        length_is = rw end.0 (sym F.counted);
        few = filled-few;
        word_is = rw end.0 F.written;
        given_is = rw end.1 F.sofar.underway.given_is;
        none_pending = sofar-ring F.sofar z;
      }

-- the list that the loop found had the first item already
pub wrote-first : {s0 s1 : List ℕ} {root : ℕ} {nx pv a b : List ℕ} (v m c : ℕ) → WordWritten s0 s1 root nx pv (set a 0 v) b record { len = m; given = c } → WordWritten s0 s1 root nx pv a b record { len = m; given = c }
unfolding word_of label
wrote-first {a = a} v m c w = record {
  length_is = w.length_is;
  few = w.few;
  word_is = rw (drop-set-lt m a 0 v (let e = w.length_is in omega arith)) at w.word_is;
  given_is = w.given_is;
  none_pending = w.none_pending;
}
