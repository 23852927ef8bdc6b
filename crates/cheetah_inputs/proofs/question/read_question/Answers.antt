use Rattle.ch_sql_grammar.specs.Tree.{select_of}
use Rattle.cheetah_inputs.proofs.Asking.{question_none, question_reads}
use Rattle.cheetah_inputs.proofs.question.read_question.Goals as goal

pub returns-in-Ok : goal.returns-in-Ok
returns-in-Ok c = question_reads c.args.text.now c.args.tables.now (select_of c.in-Ok.query) c.bound_in.result c.in-Ok.ensures.found c.bound_in.ensures

pub returns-in_ok-query_line-in-Err : goal.returns-in_ok-query_line-in-Err
returns-in_ok-query_line-in-Err c =
    question_none c.args.text.now c.args.tables.now c.in-Err.error c.in_ok-query_line-in-Err.field-0 c.in-Err.ensures.refused c.in_ok-query_line-in-Err.ensures.known c.in_ok-query_line-in-Err.ensures.line
