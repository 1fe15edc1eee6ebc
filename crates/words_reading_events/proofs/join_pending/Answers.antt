-- Jd: refused 23 where d is not below the height; otherwise the label found at d is taken out, as `join_stands` has it.
use mathlib.Core.Path.{◌≡◌, sym, ◌∙◌, ap, subst}
use mathlib.Core.List.{List}
use Prim.Native.Nat.{ℕ, ◌<◌}
use native.Mathlib.Omega.{arith}
use lib.ListN.{length, get_or}
use Rattle.lists.specs.Lists.{Has}
use Rattle.lists.proofs.Lists.{has_get_d}
use Rattle.pending_ring.specs.Ring.{Ring}
use Rattle.words_reading_events.specs.State.{State, ReadingHeld}
use Rattle.words_reading_events.proofs.EventLaws.{pending-given, join-refused, join_stands}
use Rattle.words_reading_events.proofs.join_pending.Goals as goal

-- the label found is the one that stands d places below the top
found : (nx pv x0 x1 : List ℕ) (u h d i j p : ℕ) (t : State) → ReadingHeld nx pv x0 x1 u h t → d < h → i ≡ d → j ≡ h
    → ((s : List ℕ) → Ring nx pv s → j ≡ length s → i < length s → p ≡ get_or s i 0)
    → (p ≡ get_or t.stack d 0) × Has p t.stack
found nx pv x0 x1 u h d i j p t o l ie je f =
    let e : p ≡ get_or t.stack d 0 = f t.stack o.ring (je ∙ o.high) (omega (arith, ie, o.high)) ∙ ap (λ (k : ℕ). get_or t.stack k 0) ie in
    (e, subst (λ (x : ℕ). Has x t.stack) (sym e) (has_get_d t.stack d (omega (arith, o.high))))

pub returns-then-counts-d : goal.returns-then-counts-d
returns-then-counts-d c = λ x0 t o w. join-refused _ _ _ _ _ _ t o _ _ w c.if-counts-d.true

pub unhook-requires : goal.unhook-requires
unhook-requires c =
    let (x0, t, o) = c.requires.by_index in
    (_, o.ring, (found _ _ _ _ _ _ _ _ _ _ t o c.if-counts-d.false c.to_index.ensures c.to_index-2.ensures c.label_below-p.ensures).1)

pub pair-requires : goal.pair-requires
pair-requires c =
    let (x0, t, o) = c.requires.by_index in
    let g = pending-given _ _ _ _ _ _ t o c.args.d (omega arith) in
    omega (arith, (found _ _ _ _ _ _ _ _ _ _ t o c.if-counts-d.false c.to_index.ensures c.to_index-2.ensures c.label_below-p.ensures).0, o.room, o.white_long)

pub returns : goal.returns
returns c =
    λ x0 t o w.
    let f = found _ _ _ _ _ _ _ _ _ _ t o c.if-counts-d.false c.to_index.ensures c.to_index-2.ensures c.label_below-p.ensures in
    join_stands _ _ _ _ _ _ t o _ _ _ w _ _ _ c.requires.one_to c.if-counts-d.false f.0 c.pair.ensures (c.unhook.ensures t.stack o.ring f.1)
