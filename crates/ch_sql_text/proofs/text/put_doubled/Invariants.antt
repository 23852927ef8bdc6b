use Rattle.std.proofs.Common.{◌≡◌, ◌++◌, drop}
use Rattle.ch_sql_tokens.specs.Spelling.{doubled}
use Rattle.ch_sql_text.proofs.text.put_doubled.Given as goal

-- the bytes left are still to be written
abbrev pub invariant-loop-byte : goal.invariant-loop-byte
invariant-loop-byte l = l.text.items ++ doubled l.quote (drop l.byte-index l.content) ≡ l.initial.text.items ++ doubled l.quote l.content
