use Rattle.std.proofs.Common.{◌≡◌, ◌++◌, take}
use Rattle.ch_trace_lines.specs.Spelling.{hex_text}
use Rattle.ch_trace_lines.proofs.write.push_hex.Given as goal

abbrev pub invariant-loop-byte : goal.invariant-loop-byte
invariant-loop-byte l = l.text.items ≡ l.initial.text.items ++ hex_text (take l.byte-index l.bytes)
