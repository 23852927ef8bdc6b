use Rattle.std.proofs.Common.{arith}
use Rattle.ch_generated.specs.Draws.{generator_of}
use Rattle.ch_generated_laws.proofs.Tables.{t_rows_len, t_rows_small, t_table_is, u_table_is}
use Rattle.ch_generated_laws.specs.Tables.{rows_of}
use Rattle.ch_generated_laws.proofs.laws.generated_tables_are_read.Goals as goal

pub returns-clause-t : goal.returns-clause-t
returns-clause-t c request room range rows cells =
    let len = t_rows_len request.rows (generator_of request.seed) in
    let some = range.some in
    let few = range.few in
    t_table_is room (rows_of request) (t_rows_small request.rows (generator_of request.seed)) (omega arith) (omega arith) (omega arith)

pub returns-clause-u : goal.returns-clause-u
returns-clause-u c generator room rows cells = u_table_is room generator rows cells
