use Rattle.std.proofs.Common.{◌∙◌}
use Rattle.ch_sql.proofs.Readings.{parse_only, read_only}
use Rattle.ch_sql.proofs.read.read_query.Goals as goal

pub returns-in-Ok-parse-clause-only : goal.returns-in-Ok-parse-clause-only
returns-in-Ok-parse-clause-only c = read_only c.args.text.now _ c.in-Ok-parse.query c.in-Ok.ensures.tokens.1 c.in-Ok-parse.ensures.only

pub returns-in-Ok-clause-only : goal.returns-in-Ok-clause-only
returns-in-Ok-clause-only c tree s = c.parsing.ensures ∙ parse_only c.args.text.now _ c.in-Err-parse.error c.in-Ok.ensures.tokens.1 c.in-Err-parse.ensures.only tree s
