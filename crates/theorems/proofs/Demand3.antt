-- Demand 3, whole.
use Rattle.theorems.specs.Demand3.{Demand3}
use Rattle.theorems.proofs.Demand2.{kept_once}
use Rattle.theorems.proofs.FirstList.{first-list-holds}
use Rattle.theorems.proofs.SecondList.{second-list-holds}
use Rattle.theorems.proofs.KeepMark.{keep-mark-holds}

pub demand_3 : Demand3
demand_3 = record { first_list = first-list-holds; second_list = second-list-holds; keep_mark = kept_once; keep_mark_answered = keep-mark-holds }
