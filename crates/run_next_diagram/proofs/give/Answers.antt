-- `give` meets its contract: what is held is the word, so `fill` writes the word and `write_diagram` the diagram that it spells.
use borrow.Author.Rules.{rules}
use mathlib.Core.Path.{sym, ap}
use Prim.Native.Nat.{◌≤◌}
use native.Mathlib.Omega.{arith}
use lib.ListN.{length}
use lib.Seq.{length-take-le}
use Rattle.words.proofs.Outputs.{long_enough}
use Rattle.listing.specs.Diagrams.{diagram_of}
use Rattle.std.specs.Prelude.{ℕ, Some, Ok}
use Rattle.run_next_diagram.proofs.Giving.{held-length, held_small, held-within, held-spells, held-diagram, held_at, held-over}
use Rattle.run_next_diagram.proofs.give.Goals as goal

pub slice_bounds-items-end : goal.slice_bounds-items-end
slice_bounds-items-end c = held-within c.args.size c.requires.1.0 c.args.next c.requires.1.1 c.requires.1.2

pub slice_bounds-items-end-2 : goal.slice_bounds-items-end-2
slice_bounds-items-end-2 c = held-within c.args.size c.requires.1.0 c.args.next c.requires.1.1 c.requires.1.2

pub write_diagram-requires : goal.write_diagram-requires
write_diagram-requires c =
    let p = c.requires in
    let l = long_enough c.args.size c.args.s0.now c.args.s1.now c.args.word.now p.2 in
    (c.args.size, held-spells c.args.size p.1.0 c.args.next p.1.1 p.1.2, p.0, l.0, l.1)

pub returns : goal.returns
returns c =
    λ w e a.
    let l = long_enough c.args.size c.args.s0.now c.args.s1.now c.args.word.now c.requires.2 in
    let s = c.write_diagram.ensures (diagram_of w) (held-diagram c.args.size w c.args.next e a) in
    record {
      answer = ap (λ (m : ℕ). Ok (Some m)) (held-length c.args.size w c.args.next e a);
      leaves = held_at c.args.size w c.args.next e a;
      written = record {
        s0_written = s.0;
        s1_written = s.1;
        word_written = held-over c.args.size w c.args.next e a c.args.word.now _ l.2 c.fill.ensures;
      };
    }
