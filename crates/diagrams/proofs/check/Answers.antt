-- `check` meets its contract: where the first seven conditions hold, the search decides the eighth.
use Rattle.diagrams_entries.proofs.Answers.{yes-holds, no-fails}
use Rattle.diagrams.proofs.Checks.{maps-accepted, maps-refused}
use Rattle.diagrams.proofs.check.Goals as goal

pub returns-then-not-connected : goal.returns-then-not-connected
returns-then-not-connected c = maps-refused _ _ _ c.in_ok-check_maps.ensures (no-fails c.connected.ensures c.if-not-connected.true)

pub returns : goal.returns
returns c = maps-accepted _ _ _ c.in_ok-check_maps.ensures (yes-holds c.connected.ensures c.if-not-connected.false)
