use Rattle.ch_sql_grammar.specs.Tree.{select_of}
use Rattle.ch_bind.proofs.Clearing.{bound_so, refused_so}
use Rattle.ch_bind.proofs.Columned.{parsed_dims, parsed_references}
use Rattle.ch_bind.proofs.Itemed.{parsed_items}
use Rattle.ch_bind.proofs.Sounding.{bound_sound, bound_few}
use Rattle.ch_bind.proofs.binding.bind.Goals as goal

pub bind_in-requires-clause-items : goal.bind_in-requires-clause-items
bind_in-requires-clause-items c = parsed_items (select_of c.args.query.now) c.requires.query

pub bind_in-requires-clause-dims : goal.bind_in-requires-clause-dims
bind_in-requires-clause-dims c = parsed_dims (select_of c.args.query.now) c.requires.query

pub bind_in-requires-clause-refs : goal.bind_in-requires-clause-refs
bind_in-requires-clause-refs c = parsed_references c.in_ok-scope-in-None.scope (select_of c.args.query.now) c.requires.query

pub returns-in_ok-scope-in-None-clause-bound : goal.returns-in_ok-scope-in-None-clause-bound
returns-in_ok-scope-in-None-clause-bound c =
    bound_so (select_of c.args.query.now) c.as_slice-shapes.result.now c.args.shapes.now c.in_ok-scope-in-None.scope c.table_refusal-tables.result c.self_refusal.result c.bind_in.result
    c.as_slice-shapes.ensures c.in_ok-scope-in-None.ensures c.table_refusal-tables.ensures c.self_refusal.ensures c.in-None.ensures c.bind_in.ensures.bound

pub returns-in_ok-scope-in-None-clause-refused : goal.returns-in_ok-scope-in-None-clause-refused
returns-in_ok-scope-in-None-clause-refused c =
    refused_so (select_of c.args.query.now) c.as_slice-shapes.result.now c.args.shapes.now c.in_ok-scope-in-None.scope c.table_refusal-tables.result c.self_refusal.result c.bind_in.result
    c.as_slice-shapes.ensures c.in_ok-scope-in-None.ensures c.table_refusal-tables.ensures c.self_refusal.ensures c.in-None.ensures c.bind_in.ensures.refused

pub returns-in_ok-scope-in-None-clause-sound : goal.returns-in_ok-scope-in-None-clause-sound
returns-in_ok-scope-in-None-clause-sound c =
    let q = select_of c.args.query.now in
    bound_sound c.bind_in.result q c.args.shapes.now c.requires.query
    (bound_so q c.as_slice-shapes.result.now c.args.shapes.now c.in_ok-scope-in-None.scope c.table_refusal-tables.result c.self_refusal.result c.bind_in.result
    c.as_slice-shapes.ensures c.in_ok-scope-in-None.ensures c.table_refusal-tables.ensures c.self_refusal.ensures c.in-None.ensures c.bind_in.ensures.bound)

pub returns-in_ok-scope-in-None-clause-few : goal.returns-in_ok-scope-in-None-clause-few
returns-in_ok-scope-in-None-clause-few c =
    let q = select_of c.args.query.now in
    bound_few c.bind_in.result q c.args.shapes.now
    (bound_so q c.as_slice-shapes.result.now c.args.shapes.now c.in_ok-scope-in-None.scope c.table_refusal-tables.result c.self_refusal.result c.bind_in.result
    c.as_slice-shapes.ensures c.in_ok-scope-in-None.ensures c.table_refusal-tables.ensures c.self_refusal.ensures c.in-None.ensures c.bind_in.ensures.bound)
