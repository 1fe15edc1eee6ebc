-- `position` answers what the labelling of a listed size answers: a refusal, or the position of the word that it wrote.
use Rattle.labelling.proofs.OfLists.{word-of-size}
use Rattle.labelling_arrays.proofs.Arrays.{zeros-unlabelled}
use Rattle.labelling_check.proofs.Decided.{written-part}
use Rattle.listing_position.proofs.position.Goals as goal

pub check_and_label-requires-clause-labels_held : goal.check_and_label-requires-clause-labels_held
check_and_label-requires-clause-labels_held c = zeros-unlabelled 51

pub position_of-requires : goal.position_of-requires
position_of-requires c =
    let r = c.in_ok-length.ensures in
    (rw (written-part _ _ _ _ _ _ _ _ _ r.1) (word-of-size _ _ _ r.0), c.if-n-gt-MAX_LISTED.false)
