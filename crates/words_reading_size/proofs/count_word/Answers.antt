-- The first item gives the counts of `after_u` or `after_t`, from which the rest is counted, or 22.
use Rattle.words_reading_events.specs.State.{after_u, after_t}
use Rattle.words_reading.proofs.ReadingLaws.{opening-alone, opening-triple}
use Rattle.words_reading_size.proofs.CountingLaws.{counts-U, counts-T}
use Rattle.words_reading_size.proofs.count_word.Goals as goal
use Rattle.words_reading_size.proofs.count_word.Goals.{in-0, in-1}

pub count_items-requires : goal.count_items-requires
count_items-requires c =
    elim c.match-word.branch [
      | in-0 w ↦ (after_u, rw w.counts-is counts-U)
      | in-1 w ↦ (after_t, rw w.counts-is counts-T)
    ]

pub returns : goal.returns
returns c =
    elim c.match-word.branch [
      | in-0 w ↦ rw (opening-alone _ c.requires w.in-0.is) (c.count_items.ensures after_u (rw w.counts-is counts-U))
      | in-1 w ↦ rw (opening-triple _ c.requires w.in-1.is) (c.count_items.ensures after_t (rw w.counts-is counts-T))
    ]
