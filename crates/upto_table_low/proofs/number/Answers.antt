-- Where no number stands both are 0.
use Rattle.std.proofs.Common.{sym}
use Rattle.upto_table_rows.specs.Rows.{low_rows}
use Rattle.listing_table_rows.proofs.Past.{missed}
use Rattle.upto_table_low.proofs.number.Goals as goal

pub returns-in_default : goal.returns-in_default
returns-in_default c = sym (missed low_rows c.args.i c.in_default.in_default-own.rest)
