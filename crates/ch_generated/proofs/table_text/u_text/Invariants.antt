use Rattle.std.proofs.Common.{◌≡◌, ◌*◌}
use Rattle.ch_generated.specs.Draws.{after}
use Rattle.ch_generated.specs.TableText.{part_text, u_header, u_rows}
use Rattle.ch_generated.proofs.table_text.u_text.Given as goal

-- the lines of the rows so far, each by two words
abbrev pub invariant-loop-row : goal.invariant-loop-row
invariant-loop-row l = (l.text.items ≡ part_text u_header (u_rows l._row l.fn.generator)) × (l.generator ≡ after (2 * l._row) l.fn.generator)
