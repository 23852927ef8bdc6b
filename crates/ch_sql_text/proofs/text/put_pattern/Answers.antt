use Rattle.ch_sql_text.proofs.Puts.{pattern_text}
use Rattle.ch_sql_text.proofs.text.put_pattern.Goals as goal

pub returns : goal.returns
returns c = pattern_text _ c.args.prefix.now _ _ _ c.in_ok-push.ensures.items c.in_ok-put_doubled.ensures c.in_ok-extend_from_slice.ensures.items
