-- Texts by computation of their definitions, byte for byte.
use mathlib.Core.Path.{◌≡◌, refl}
use mathlib.Core.List.{flatten}
use Rattle.words.specs.Word.{spells, spell}
use Rattle.words.specs.Letters.{digits, decimal, events_letters, letters}
use Rattle.labelling.specs.Labelling.{event, events, label, word_of}
use Rattle.labelling.specs.Rootings.{least_of, least_word}
use Rattle.invariants_multiples.specs.Multiples.{least_common_multiple}
use Rattle.invariants_cycles.specs.Cycles.{t, fixed_points, cycles, period, least_of_cycle}
use Rattle.listing.specs.Listing.{completions, listing, count}
use Rattle.listing.specs.Position.{word_at}
use Rattle.listing.specs.Diagrams.{diagram_of, diagram_at}
use Rattle.census_definition.specs.Census.{ascii, is_kept_word, row, rows, kept_among, header, totals, census, summary}

-- the census of size 3: the listing of document 01
pub size_3 : census 3 ≡ ascii "rooted trivalent diagrams, size 3\n1 TWWW 2,3,1 1,2,3 3 0 1 0 3 K\n2 TWJ0 2,3,1 2,1,3 1 0 2 0 2 K\n3 TJ0W 2,3,1 1,3,2 1 0 2 0 2 -\n4 TJ1W 2,3,1 3,2,1 1 0 2 0 2 -\n4 listed, 2 kept\n"
unfolding census header rows row totals kept_among is_kept_word word_at diagram_at diagram_of count listing completions spell spells letters events_letters decimal digits word_of label events event least_word least_of t fixed_points cycles least_common_multiple period least_of_cycle
size_3 = refl

-- the summary: the published numbers of rooted diagrams and of classes without a root (document 000, Tables 6 and 7)
pub sizes-1-to-9 : summary (ascii "\n") ≡ ascii "1 1 1\n2 1 1\n3 4 2\n4 8 2\n5 5 1\n6 22 8\n7 42 6\n8 40 7\n9 120 14\n"
unfolding flatten summary kept_among is_kept_word word_at diagram_at diagram_of count listing completions spell spells decimal digits word_of label events event least_word least_of
sizes-1-to-9 = refl
