-- `relabelled` meets its contract: what is written into lists of zeros is the characteristic labelling, padded.
use Rattle.labelling_relabelling.proofs.Written.{zeros-long, zeros-held}
use Rattle.labelling_relabelling.proofs.relabelled.Goals as goal

pub write_relabelled-requires-clause-not_short : goal.write_relabelled-requires-clause-not_short
write_relabelled-requires-clause-not_short c = zeros-long _ _ _ c.requires

pub returns : goal.returns
returns c = zeros-held _ _ _ c.requires _ _ _ _ c.write_relabelled.ensures.written
