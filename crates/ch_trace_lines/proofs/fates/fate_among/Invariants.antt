use Rattle.std.proofs.Common.{◌≡◌, drop}
use Rattle.ch_trace_lines.specs.Reading.{fate_among}
use Rattle.ch_trace_lines.proofs.fates.fate_among.Given as goal

abbrev pub invariant-loop-fate : goal.invariant-loop-fate
invariant-loop-fate l = fate_among (drop l.fate-index l.fates) l.word ≡ fate_among l.fates l.word
