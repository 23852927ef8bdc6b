use Rattle.std.proofs.Common.{◌≡◌, drop}
use Rattle.std.specs.List.{list_all}
use Rattle.ch_sql_tokens.specs.Byte.{is_word_byte}
use Rattle.ch_sql_text.proofs.name.are_in_word.Given as goal

-- the bytes left decide
abbrev pub invariant-loop-byte : goal.invariant-loop-byte
invariant-loop-byte l = list_all is_word_byte (drop l.byte-index l.bytes) ≡ list_all is_word_byte l.bytes
