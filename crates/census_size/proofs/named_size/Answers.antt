-- An input of two bytes or three is their list; one of another length names no size of one digit or two.
use Rattle.census_size.proofs.Sizes.{none_named}
use Rattle.census_size.proofs.named_size.Goals as goal

pub returns : goal.returns
returns c = none_named _ c.if-input-eq2.false c.if-input-eq3.false
