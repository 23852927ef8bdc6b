use Rattle.std.proofs.Common.{◌≡◌, ◌*◌}
use Rattle.ch_generated.specs.Draws.{after}
use Rattle.ch_generated.specs.TableText.{t_rows}
use Rattle.ch_generated.proofs.table_text.t_rows.Given as goal

-- the rows so far, each by three words
abbrev pub invariant-loop-row : goal.invariant-loop-row
invariant-loop-row l = (l.drawn.items ≡ t_rows l._row l.fn.generator) × (l.generator ≡ after (3 * l._row) l.fn.generator)
