use Rattle.std.proofs.Common.{◌∙◌, ap, sym, List, ℕ, Some, take, ◌+◌}
use Rattle.ch_asm_lines.proofs.Cuts.{cut_more, cut_met, cut_end, take-rest}
use Rattle.ch_asm_lines.proofs.first_cut.cut.Goals as goal

pub returns-then-text-at-clause-parts : goal.returns-then-text-at-clause-parts
returns-then-text-at-clause-parts c =
    let text : List ℕ = c.args.text.now in
    let at : ℕ = c.loop-at.at in
    c.loop-at.invariant ∙ cut_met c.args.byte text at c.loop-at-test.true c.if-text-at.true
    ∙ ap (λ (rest : List ℕ). Some (take at text, rest)) (sym (take-rest text (at + 1)))

pub loop-at-preserved : goal.loop-at-preserved
loop-at-preserved c = c.loop-at.invariant ∙ cut_more c.args.byte c.args.text.now c.loop-at.at c.loop-at-test.true c.if-text-at.false

pub returns-clause-parts : goal.returns-clause-parts
returns-clause-parts c = c.loop-at.invariant ∙ cut_end c.args.byte c.args.text.now c.loop-at.at c.loop-at-test.false
