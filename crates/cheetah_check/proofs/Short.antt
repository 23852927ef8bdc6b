-- How long a program's text is at least.
use Rattle.std.proofs.Common.{◌≡◌, ◌≤◌, ◌+◌, ℕ, List, [], ◌∷◌, ◌++◌, length, map, arith}
use Rattle.std.specs.List.{flat_map}
use Rattle.std.proofs.lemmas.List.{length-append, length-map}
use Rattle.ch_asm.specs.Refusal.{IsBadLine}
use Rattle.ch_asm.specs.Text.{lines_of, lines_text, program_lines, program_text, stage_lines}
use Rattle.ch_asm_lines.specs.Spelling.{ended, line_text}
use Rattle.ch_asm_lines.specs.declared.line.Line.{Line}
use Rattle.ch_asm_lines.specs.declared.line.Line.TheVariants as line
use Rattle.ch_ir.specs.Measure.{most_ops}
use Rattle.ch_ir.specs.declared.program.Program.{Program}
use Rattle.ch_ir.specs.declared.program.Stage.{Stage}

lines_are_short : (lines : List (List ℕ)) → length lines ≤ length (flat_map ended lines)
lines_are_short [] = omega arith
lines_are_short (l ∷ ls) =
    let more = lines_are_short ls in
    rw (length-append (ended l) (flat_map ended ls), length-append l (10 ∷ [])) (omega arith)

stages_are_short : (stages : List Stage) → (length stages ≤ length (flat_map stage_lines stages)) × (most_ops stages ≤ length (flat_map stage_lines stages))
stages_are_short [] = (omega arith, omega arith)
stages_are_short (s ∷ ss) =
    let more = stages_are_short ss in
    let here : length (flat_map stage_lines (s ∷ ss)) ≡ length s.ops + length s.accesses + 1 + length (flat_map stage_lines ss) =
    rw (length-append (stage_lines s) (flat_map stage_lines ss), length-append (map line.Op s.ops) (map line.Access s.accesses), length-map s.ops line.Op, length-map s.accesses line.Access) (omega arith) in
    (omega (arith, here, more.0), omega (arith, here, more.1))

all_lines : (p : Program) → length (flat_map stage_lines p.stages) ≤ length (lines_of p)
all_lines p =
    let back : List Line = line.Verdict p.verdict ∷ line.End ∷ [] in
    rw (length-append (map line.Array p.arrays) (flat_map stage_lines p.stages ++ back), length-append (flat_map stage_lines p.stages) back) (omega arith)

pub stages_within : (p : Program) → (length p.stages ≤ length (program_text p)) × (most_ops p.stages ≤ length (program_text p))
unfolding program_text program_lines
stages_within p =
    let text = lines_are_short (program_lines p) in
    let same : length (program_lines p) ≡ length (lines_of p) = length-map (lines_of p) line_text in
    let stages = stages_are_short p.stages in
    let all = all_lines p in
    (omega (arith, text, same, stages.0, all), omega (arith, text, same, stages.1, all))

pub line_within : (text : List ℕ) (number : ℕ) → IsBadLine text number → number ≤ length text + 1
line_within text number bad =
    let before = lines_are_short bad.before in
    let whole : length text ≡ length (lines_text bad.before) + length bad.rest = rw bad.whole (length-append (lines_text bad.before) bad.rest) in
    omega (arith, before, whole, bad.place)
