-- As numbers, and as letters.
use Rattle.console_answers.proofs.Answers.{put-as-numbers, put-as-letters}
use borrow.Author.Rules.{rules}
use Rattle.console_answers.proofs.put_bytes.Goals as goal

pub returns-then-byte-eq52 : goal.returns-then-byte-eq52
returns-then-byte-eq52 c = put-as-numbers _ _ _ _ c.if-byte-eq52.true c.put_byte_list.ensures

pub returns : goal.returns
returns c = put-as-letters _ _ _ _ c.if-byte-eq52.false c.put_letters.ensures
