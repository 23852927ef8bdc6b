-- A lent line.
use Rattle.ch_asm_lines.specs.declared.line.Line.{Line}
use Rattle.ch_asm_lines.specs.declared.line.Line.TheVariants as line
use Rattle.ch_asm_lines.specs.declared.write.LineRef.{LineRef}
use Rattle.ch_asm_lines.specs.declared.write.LineRef.TheVariants as lent

-- the line that is lent
abbrev pub lent_line : LineRef → Line
lent_line lent.Header = line.Header
lent_line (lent.Width w) = line.Width w
lent_line (lent.Array a) = line.Array a
lent_line lent.Stage = line.Stage
lent_line (lent.Op op) = line.Op op.now
lent_line (lent.Access x) = line.Access x.now
lent_line (lent.Verdict w) = line.Verdict w
lent_line lent.End = line.End
