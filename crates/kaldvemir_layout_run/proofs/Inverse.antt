-- The layout of the run is inverse to taking it apart.
use mathlib.Core.Path.{◌≡◌}
use native.Mathlib.Omega.{arith}
use lib.ListN.{length}
use lib.Seq.{take_all}
use Rattle.run_answers.specs.declared.Run.{Run}
use Rattle.kaldvemir_layout_run.specs.Layout.{run_numbers, run_of}
use Rattle.kaldvemir_layout_run.specs.Inverse.{RunLayoutInverse}
use Rattle.kaldvemir_layout_run.proofs.Rows.{run_again}

run_back : (r : Run) → length r.items ≡ 51 → (length (run_numbers r) ≡ 54) × (run_of (run_numbers r) ≡ r)
run_back r h = (omega arith, rw (take_all 51 r.items (omega arith)))

pub run-layout-inverse : RunLayoutInverse
run-layout-inverse = record { run_again = run_again; run_back = run_back }
