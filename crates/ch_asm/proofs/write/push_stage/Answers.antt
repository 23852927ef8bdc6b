use Rattle.std.proofs.Common.{◌++◌, ◌∙◌, ap, map, List}
use Rattle.ch_ir.specs.declared.program.Op.{Op}
use Rattle.ch_ir.specs.declared.program.Access.{Access}
use Rattle.ch_asm_lines.specs.declared.line.Line.TheVariants as line
use Rattle.ch_asm.specs.Text.{spelled}
use Rattle.ch_asm.proofs.Texts.{stage_written}
use Rattle.ch_asm.proofs.write.push_stage.Goals as goal

pub returns-clause-text : goal.returns-clause-text
returns-clause-text c =
    stage_written c.args.stage.now _ _ _ _ c.in_ok-push_line.ensures.text
    (c.in_ok-push_ops.ensures.text ∙ ap (λ (ops : List Op). c.push_line.new.text.items ++ spelled (map line.Op ops)) c.as_slice.ensures)
    (c.in_ok-push_accesses.ensures.text ∙ ap (λ (xs : List Access). c.push_ops.new.text.items ++ spelled (map line.Access xs)) c.as_slice-2.ensures)
