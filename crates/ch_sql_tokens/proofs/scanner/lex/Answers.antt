use Rattle.std.proofs.Common.{arith}
use Rattle.ch_sql_tokens.proofs.Lexing.{scans_tokens, scans_refused, scans_only}
use Rattle.ch_sql_tokens.proofs.scanner.lex.Goals as goal

pub returns-clause-tokens : goal.returns-clause-tokens
returns-clause-tokens c = scans_tokens c.args.text.now _ (omega arith) c.scan.ensures

pub returns-clause-refused : goal.returns-clause-refused
returns-clause-refused c = scans_refused c.args.text.now _ (omega arith) c.scan.ensures

pub returns-clause-only : goal.returns-clause-only
returns-clause-only c = scans_only c.args.text.now _ c.scan.ensures
