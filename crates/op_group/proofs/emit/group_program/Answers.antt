use Rattle.std.proofs.Common.{◌+◌, ◌*◌, List, length, ap₂}
use Rattle.ch_ir.specs.declared.program.Array.{Array}
use Rattle.ch_ir.specs.declared.program.Program.{Program}
use Rattle.ch_ir.specs.declared.program.Stage.{Stage}
use Rattle.op_moves.specs.Built.{all_made}
use Rattle.op_group.specs.Sizes.{Sizes}
use Rattle.op_group.specs.Program.{last_of, moves_of}
use Rattle.op_group.proofs.emit.group_program.Goals as goal

pub returns : goal.returns
returns c =
    let s : Sizes = record { width = c.args.width; rows = c.args.rows; cols = c.args.cols; key = c.args.key.now; value = c.args.value; is_max = c.args.max } in
    ap₂ {A = List Array} {B = List Stage} {C = Program} (λ arrays stages. record { width = s.width; arrays = arrays; stages = stages; verdict = last_of s })
    c.in_ok-arrays.ensures
    (all_made (moves_of s) c.new-builder.result c.emit_moves.new.builder c.in_ok-stages.stages c.new-builder.ensures c.in_ok-emit_moves.ensures c.in_ok-stages.ensures)
