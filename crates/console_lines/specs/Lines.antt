-- Where the lines of an input stand in its buffer.
--
--   Within l n     the line found last, and the bytes that were read, lie within n bytes
use Rattle.std.specs.Prelude.{ℕ, ◌≤◌}
use Rattle.console_lines.specs.declared.Lines.{Lines}

pub record Within (l : Lines) (n : ℕ) : Type 0 where
  pub line : l.start ≤ l.end
  pub line_end : l.end ≤ n
  pub rest : l.next ≤ l.searched
  pub searched_end : l.searched ≤ l.have
  pub have_end : l.have ≤ n
