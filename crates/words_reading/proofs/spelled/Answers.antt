-- The first item gives the state `after_u` or `after_t`, from which the rest is read, or 22.
use Rattle.words_reading_events.specs.State.{after_u, after_t}
use Rattle.words_reading.proofs.ReadingLaws.{opening-alone, opening-triple}
use Rattle.words_reading.proofs.spelled.Goals as goal
use Rattle.words_reading.proofs.spelled.Goals.{in-0, in-1}

pub returns : goal.returns
returns c =
    elim c.match-word.branch [
      | in-0 w ↦
          rw (opening-alone _ c.requires.word_nonzero w.in-0.is)
          (c.events.ensures after_u (rw (w.next-is, w.prev-is, w.x0-is, w.x1-is, w.counts-is) w.start_alone-counts.ensures))
      | in-1 w ↦
          rw (opening-triple _ c.requires.word_nonzero w.in-1.is)
          (c.events.ensures after_t (rw (w.next-is, w.prev-is, w.x0-is, w.x1-is, w.counts-is) w.start_triple-counts.ensures))
    ]
