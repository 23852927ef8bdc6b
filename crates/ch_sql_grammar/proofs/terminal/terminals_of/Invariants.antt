use Rattle.std.proofs.Common.{◌≡◌, map, take}
use Rattle.ch_sql_grammar.specs.Tokens.{terminal_of}
use Rattle.ch_sql_grammar.proofs.terminal.terminals_of.Given as goal

abbrev pub invariant-loop-token : goal.invariant-loop-token
invariant-loop-token l = l.terminals.items ≡ map terminal_of (take l.token-index l.tokens)
