use Rattle.std.proofs.Common.{ℕ, ◌++◌, ◌∙◌, ap, map, List}
use Rattle.std.specs.List.{flat_map}
use Rattle.ch_ir.specs.declared.program.Array.{Array}
use Rattle.ch_ir.specs.declared.program.Stage.{Stage}
use Rattle.ch_asm_lines.specs.Spelling.{line_text, ended}
use Rattle.ch_asm_lines.specs.declared.line.Line.TheVariants as line
use Rattle.ch_asm.specs.Text.{spelled, stage_lines}
use Rattle.ch_asm.proofs.Texts.{program_written}
use Rattle.ch_asm.proofs.write.write_program.Goals as goal

pub returns-clause-text : goal.returns-clause-text
returns-clause-text c =
    c.from_vec.ensures ∙ program_written c.args.program.now _ _ _ _ _ _
    (c.in_ok-push_line.ensures.text ∙ ap (λ (t : List ℕ). t ++ ended (line_text line.Header)) c.new-text.ensures.items)
    c.in_ok-push_line-2.ensures.text
    (c.in_ok-push_arrays.ensures.text ∙ ap (λ (arrays : List Array). c.push_line-2.new.text.items ++ spelled (map line.Array arrays)) c.as_slice.ensures)
    (c.in_ok-push_stages.ensures.text ∙ ap (λ (stages : List Stage). c.push_arrays.new.text.items ++ spelled (flat_map stage_lines stages)) c.as_slice-2.ensures)
    c.in_ok-push_line-3.ensures.text c.in_ok-push_line-4.ensures.text
