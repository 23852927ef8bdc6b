use Rattle.std.proofs.Common.{◌≡◌, ◌∙◌, ap, map}
use Rattle.ch_sql_grammar.specs.Tree.{select_of}
use Rattle.cheetah_inputs.proofs.Asking.{select_reads, select_refused}
use Rattle.cheetah_inputs.proofs.question.bound_in.Goals as goal
use Rattle.ch_bind.specs.Shapes.{shape_of}

pub returns-in-Ok : goal.returns-in-Ok
returns-in-Ok c =
    let same : c.in_ok-shapes.shapes ≡ map shape_of c.args.tables.now = c.in_ok-shapes.ensures.shapes ∙ ap (map shape_of) c.as_slice.ensures in
    select_reads (select_of c.args.query.now) c.args.tables.now c.in_ok-shapes.shapes same c.in-Ok.bound c.summed.result c.in-Ok.ensures.bound.0 c.in-Ok.ensures.bound.1 c.in-Ok.ensures.sound c.in-Ok.ensures.few c.summed.ensures

pub returns : goal.returns
returns c =
    let same : c.in_ok-shapes.shapes ≡ map shape_of c.args.tables.now = c.in_ok-shapes.ensures.shapes ∙ ap (map shape_of) c.as_slice.ensures in
    select_refused (select_of c.args.query.now) c.args.tables.now c.in_ok-shapes.shapes same c.in-Err.error c.in_ok-bind_line-in-Err.field-0 c.in-Err.ensures.refused
    c.in_ok-bind_line-in-Err.ensures.known c.in_ok-bind_line-in-Err.ensures.line
