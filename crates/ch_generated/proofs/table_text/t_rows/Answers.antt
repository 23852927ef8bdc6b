use Rattle.std.proofs.Common.{sym, ◌∙◌}
use Rattle.ch_generated.proofs.DrawLemmas.{after_none, t_rows_none}
use Rattle.ch_generated.proofs.table_text.t_rows.Goals as goal

pub loop-row-init : goal.loop-row-init
loop-row-init c = (c.new-drawn.ensures.items ∙ sym (t_rows_none c.args.generator.now), sym (after_none c.args.generator.now))
