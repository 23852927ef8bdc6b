use Rattle.std.proofs.Common.{◌≡◌, ◌++◌, map, take}
use Rattle.ch_trace_lines.specs.Spelling.{lines_text}
use Rattle.ch_trace_lines.specs.declared.line.Line.TheVariants as line
use Rattle.ch_audit_runs.proofs.writing.push_notes.Given as goal

abbrev pub invariant-loop-noted : goal.invariant-loop-noted
invariant-loop-noted l = l.text.items ≡ l.fn.text.items ++ lines_text (map line.Event (take l.noted-index l.notes))
