-- Laws of check's answer: what it accepts are the rooted diagrams of size 1 to 1,024; refusal k is answered exactly if the k-th
-- condition fails and none before it (refuses, refused-at); and each lent diagram has one answer only.
use mathlib.Core.Path.{◌≡◌, refl, ap}
use mathlib.Core.Logic.{◌≢◌, ◌⊎◌, inl, inr, ◌↔◌}
use mathlib.Core.List.{List, [], ◌∷◌}
use Prim.Native.Nat.{ℕ, zero, suc, ◌<◌, ◌≤◌}
use native.Mathlib.Omega.{arith}
use lib.ListN.{length, get_or, get_or-eq_default}
use Rattle.lists.specs.Lists.{at}
use Rattle.lists.proofs.Tests.{same?, lt?}
use Rattle.diagrams.specs.Diagram.{Maps, Diagram, Rooted}
use Rattle.diagrams.specs.Check.{Size, Lengths, Root, Entries, Thrice, Twice, Connected, Accepts, Refuses, no_size, no_lengths, no-root, no-blacks, no-whites, no-thrice, no-twice, no-path, CheckPromise, Mapped, RootedMaps}
use Rattle.std.specs.Prelude.{Result, Ok, Err}
use Rattle.refusals.specs.declared.Refusal.{Refusal}
use Rattle.refusals.specs.Numbers.{number}
use Rattle.refusals.proofs.Numbers.{number-one}

pub accepts-rooted : (s0 s1 : List ℕ) (root : ℕ) → Accepts s0 s1 root ↔ (Size s0 × Rooted s0 s1 root)
accepts-rooted s0 s1 root = (to, from)
  where
    to : Accepts s0 s1 root → Size s0 × Rooted s0 s1 root
    to a = (
      a.size,
      record {
        lengths = a.lengths;
        root_in = a.root_in;
        diagram = record {
          maps = record { some_edge = a.size.0; black_in = a.blacks; white_in = a.whites; thrice = a.thrice; twice = rw (← a.lengths) a.twice };
          connected = a.connected;
        };
      },
    )

    from : Size s0 × Rooted s0 s1 root → Accepts s0 s1 root
    from r = record {
      size = r.0;
      lengths = r.1.lengths;
      root_in = r.1.root_in;
      blacks = r.1.diagram.maps.black_in;
      whites = r.1.diagram.maps.white_in;
      thrice = r.1.diagram.maps.thrice;
      twice = rw r.1.lengths r.1.diagram.maps.twice;
      connected = r.1.diagram.connected;
    }

pub accepts-diagram : (s0 s1 : List ℕ) (root : ℕ) → Accepts s0 s1 root → Diagram (length s0) (at s0) (at s1)
accepts-diagram s0 s1 root a = ((accepts-rooted s0 s1 root).0 a).1.diagram

pub accepts-maps : (s0 s1 : List ℕ) (root : ℕ) → Accepts s0 s1 root → Maps (length s0) (at s0) (at s1)
accepts-maps s0 s1 root a = (accepts-diagram s0 s1 root a).maps

pub accepts-mapped : {s0 s1 : List ℕ} {root : ℕ} → Accepts s0 s1 root → Mapped s0 s1
accepts-mapped {s0} {s1} {root} a = record { size = a.size; lengths = a.lengths; maps = accepts-maps s0 s1 root a }

pub accepts-rooted-maps : {s0 s1 : List ℕ} {root : ℕ} → Accepts s0 s1 root → RootedMaps s0 s1 root
accepts-rooted-maps a = record { mapped = accepts-mapped a; root_in = a.root_in }

-- ---- each number has its condition, and there is one answer only

module _ (s0 s1 : List ℕ) (root : ℕ) where
  -- what is asked, each at the number of its refusal; nothing at 0
  abbrev pub conditions : List (Type 0)
  conditions = Unit ∷ Size s0 ∷ Lengths s0 s1 ∷ Root s0 root ∷ Entries (length s0) s0 ∷ Entries (length s0) s1 ∷ Thrice s0 ∷ Twice s1 ∷ Connected s0 s1 ∷ []

  -- what refusal k says to fail; nothing under a number that is no refusal's
  abbrev pub Asked : ℕ → Type 0
  Asked k = get_or conditions k Unit

  -- what is asked under each number below k
  abbrev pub Before : ℕ → Type 0
  Before zero = Unit {0}
  Before (suc k) = Before k × Asked k

  pub refuses : (k : ℕ) → Before k → ¬ Asked k → Refuses s0 s1 root k
  refuses zero b n = absurd (n tt)
  refuses (suc zero) b n = no_size n
  refuses (suc (suc zero)) b n = no_lengths b.1 n
  refuses (suc (suc (suc zero))) b n = no-root b.0.1 b.1 n
  refuses (suc (suc (suc (suc zero)))) b n = no-blacks b.0.0.1 b.0.1 b.1 n
  refuses (suc (suc (suc (suc (suc zero))))) b n = no-whites b.0.0.0.1 b.0.0.1 b.0.1 b.1 n
  refuses (suc (suc (suc (suc (suc (suc zero)))))) b n = no-thrice b.0.0.0.0.1 b.0.0.0.1 b.0.0.1 b.0.1 b.1 n
  refuses (suc (suc (suc (suc (suc (suc (suc zero))))))) b n = no-twice b.0.0.0.0.0.1 b.0.0.0.0.1 b.0.0.0.1 b.0.0.1 b.0.1 b.1 n
  refuses (suc (suc (suc (suc (suc (suc (suc (suc zero)))))))) b n = no-path b.0.0.0.0.0.0.1 b.0.0.0.0.0.1 b.0.0.0.0.1 b.0.0.0.1 b.0.0.1 b.0.1 b.1 n
  refuses (suc (suc (suc (suc (suc (suc (suc (suc (suc k))))))))) b n = absurd (n tt)

  pub refused-at : {k : ℕ} → Refuses s0 s1 root k → Before k × (¬ Asked k)
  refused-at (no_size n) = ((tt, tt), n)
  refused-at (no_lengths a n) = (((tt, tt), a), n)
  refused-at (no-root a b n) = ((((tt, tt), a), b), n)
  refused-at (no-blacks a b c n) = (((((tt, tt), a), b), c), n)
  refused-at (no-whites a b c d n) = ((((((tt, tt), a), b), c), d), n)
  refused-at (no-thrice a b c d e n) = (((((((tt, tt), a), b), c), d), e), n)
  refused-at (no-twice a b c d e f n) = ((((((((tt, tt), a), b), c), d), e), f), n)
  refused-at (no-path a b c d e f g n) = (((((((((tt, tt), a), b), c), d), e), f), g), n)

  pub accepts : Before 9 → Accepts s0 s1 root
  accepts b = record { size = b.0.0.0.0.0.0.0.1; lengths = b.0.0.0.0.0.0.1; root_in = b.0.0.0.0.0.1; blacks = b.0.0.0.0.1; whites = b.0.0.0.1; thrice = b.0.0.1; twice = b.0.1; connected = b.1 }

  pub accepted-at : Accepts s0 s1 root → Before 9
  accepted-at a = (((((((((tt, tt), a.size), a.lengths), a.root_in), a.blacks), a.whites), a.thrice), a.twice), a.connected)

  -- the first seven together
  pub rooted-maps : Before 8 → RootedMaps s0 s1 root
  rooted-maps b = record {
    mapped = record {
      size = b.0.0.0.0.0.0.1;
      lengths = b.0.0.0.0.0.1;
      maps = record { some_edge = b.0.0.0.0.0.0.1.0; black_in = b.0.0.0.1; white_in = b.0.0.1; thrice = b.0.1; twice = rw (← b.0.0.0.0.0.1) b.1 };
    };
    root_in = b.0.0.0.0.1;
  }

  maps-before : RootedMaps s0 s1 root → Before 8
  maps-before m = ((((((((tt, tt), m.mapped.size), m.mapped.lengths), m.root_in), m.mapped.maps.black_in), m.mapped.maps.white_in), m.mapped.maps.thrice), rw m.mapped.lengths m.mapped.maps.twice)

  pub maps-accepted : RootedMaps s0 s1 root → Connected s0 s1 → Accepts s0 s1 root
  maps-accepted m c = accepts (maps-before m, c)

  pub maps-refused : RootedMaps s0 s1 root → ¬ Connected s0 s1 → Refuses s0 s1 root 8
  maps-refused m n = refuses 8 (maps-before m) n

  before-asked : (k j : ℕ) → j < k → Before k → Asked j
  before-asked zero j l b = absurd (omega arith)
  before-asked (suc k) j l b = go (same? j k) (λ l. before-asked k j l b.0)
    where
      go : (j ≡ k) ⊎ (j ≢ k) → (j < k → Asked j) → Asked j
      go (inl e) h = rw e b.1
      go (inr n) h = h (omega arith)

  pub refused-once : (j k : ℕ) → Refuses s0 s1 root j → Refuses s0 s1 root k → j ≡ k
  refused-once j k a b = go (lt? j k) (lt? k j)
    where
      go : (j < k) ⊎ (k ≤ j) → (k < j) ⊎ (j ≤ k) → j ≡ k
      go (inl l) m = absurd ((refused-at a).1 (before-asked k j l (refused-at b).0))
      go (inr l) (inl m) = absurd ((refused-at b).1 (before-asked j k m (refused-at a).0))
      go (inr l) (inr m) = omega arith

  pub refuses-most : (k : ℕ) → Refuses s0 s1 root k → k ≤ 8
  refuses-most k r = go (lt? k 9)
    where
      go : (k < 9) ⊎ (9 ≤ k) → k ≤ 8
      go (inl l) = omega arith
      go (inr l) = absurd ((refused-at r).1 (rw (get_or-eq_default conditions Unit l) tt))

  pub not-both : (k : ℕ) → Accepts s0 s1 root → Refuses s0 s1 root k → ⊥
  not-both k a r = let l = refuses-most k r in (refused-at r).1 (before-asked 9 k (omega arith) (accepted-at a))

  pub checked_once : (a b : Result (Unit {0}) Refusal) → CheckPromise s0 s1 root a → CheckPromise s0 s1 root b → a ≡ b
  checked_once (Ok u) (Ok v) p q = refl
  checked_once (Ok u) (Err e) p q = absurd (not-both (number e) p q)
  checked_once (Err e) (Ok u) p q = absurd (not-both (number e) q p)
  checked_once (Err e) (Err d) p q = ap Err (number-one e d (refused-once (number e) (number d) p q))
