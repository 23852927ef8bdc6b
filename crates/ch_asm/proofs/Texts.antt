-- The text of lines that stand one after the other.
use Rattle.std.proofs.Common.{◌≡◌, ℕ, List, [], ◌∷◌, ◌++◌, refl, sym, ap, ◌∙◌, append_assoc, map}
use Rattle.std.specs.List.{flat_map}
use Rattle.std.proofs.lemmas.List.{append-nil}
use Rattle.ch_ir.specs.declared.program.Stage.{Stage}
use Rattle.ch_ir.specs.declared.program.Program.{Program}
use Rattle.ch_asm_lines.specs.Spelling.{line_text, ended}
use Rattle.ch_asm_lines.specs.declared.line.Line.{Line}
use Rattle.ch_asm_lines.specs.declared.line.Line.TheVariants as line
use Rattle.ch_asm.specs.Text.{stage_lines, spelled, program_lines, program_text}

pub spelled_both : (a b : List Line) → spelled (a ++ b) ≡ spelled a ++ spelled b
spelled_both [] b = refl
spelled_both (x ∷ xs) b = ap (λ (t : List ℕ). ended (line_text x) ++ t) (spelled_both xs b) ∙ sym (append_assoc (ended (line_text x)) (spelled xs) (spelled b))

-- a stage, in three pieces
pub stage_written : (s : Stage) (old o1 o2 o3 : List ℕ) → o1 ≡ old ++ ended (line_text line.Stage) → o2 ≡ o1 ++ spelled (map line.Op s.ops) → o3 ≡ o2 ++ spelled (map line.Access s.accesses)
    → o3 ≡ old ++ spelled (stage_lines s)
stage_written s old o1 o2 o3 p1 p2 p3 =
    rw (p3, p2, p1) (append_assoc (old ++ ended (line_text line.Stage)) (spelled (map line.Op s.ops)) (spelled (map line.Access s.accesses))
    ∙ append_assoc old (ended (line_text line.Stage)) (spelled (map line.Op s.ops) ++ spelled (map line.Access s.accesses))
    ∙ ap (λ (t : List ℕ). old ++ (ended (line_text line.Stage) ++ t)) (sym (spelled_both (map line.Op s.ops) (map line.Access s.accesses))))

pieces : (h w a s v e o1 o2 o3 o4 o5 o6 : List ℕ) → o1 ≡ [] ++ h → o2 ≡ o1 ++ w → o3 ≡ o2 ++ a → o4 ≡ o3 ++ s → o5 ≡ o4 ++ v → o6 ≡ o5 ++ e
    → o6 ≡ h ++ (w ++ (a ++ (s ++ (v ++ e))))
pieces h w a s v e o1 o2 o3 o4 o5 o6 p1 p2 p3 p4 p5 p6 = rw (p6, p5, p4, p3, p2, p1) (simp append_assoc)

-- a program, in six pieces
pub program_written : (p : Program) (o1 o2 o3 o4 o5 o6 : List ℕ) → o1 ≡ [] ++ ended (line_text line.Header) → o2 ≡ o1 ++ ended (line_text (line.Width p.width))
    → o3 ≡ o2 ++ spelled (map line.Array p.arrays) → o4 ≡ o3 ++ spelled (flat_map stage_lines p.stages) → o5 ≡ o4 ++ ended (line_text (line.Verdict p.verdict))
    → o6 ≡ o5 ++ ended (line_text line.End) → o6 ≡ program_text p
unfolding program_text program_lines
program_written p o1 o2 o3 o4 o5 o6 p1 p2 p3 p4 p5 p6 =
    let tail : List Line = line.Verdict p.verdict ∷ line.End ∷ [] in
    pieces _ _ _ _ _ _ _ _ _ _ _ _ p1 p2 p3 p4 p5 p6
    ∙ ap (λ (t : List ℕ). ended (line_text line.Header) ++ (ended (line_text (line.Width p.width)) ++ t))
    (ap (λ (t : List ℕ). spelled (map line.Array p.arrays) ++ (spelled (flat_map stage_lines p.stages) ++ (ended (line_text (line.Verdict p.verdict)) ++ t))) (sym (append-nil (ended (line_text line.End))))
    ∙ ap (λ (t : List ℕ). spelled (map line.Array p.arrays) ++ t) (sym (spelled_both (flat_map stage_lines p.stages) tail))
    ∙ sym (spelled_both (map line.Array p.arrays) (flat_map stage_lines p.stages ++ tail)))
