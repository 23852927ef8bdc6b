use Rattle.std.proofs.Common.{◌≡◌, ◌∙◌, ap, arith, ℕ, List, [], ◌∷◌, ◌++◌, map, take, subst, sym}
use Rattle.std.proofs.lemmas.List.{take_all, map_more}
use Rattle.ch_cells.specs.declared.cell.Cell.{Cell}
use Rattle.ch_print.specs.AnswerText.{cell_text}
use Rattle.ch_print.specs.Written.{HasWritten}
use Rattle.ch_print.proofs.answer.push_row.Goals as goal

pub loop-cell-preserved : goal.loop-cell-preserved
loop-cell-preserved c = λ written h.
    let cells : List Cell = c.as_slice-cell-items.result.now in
    let i = c.loop-cell.cell-index in
    subst (λ (line : List (List ℕ)). HasWritten c.push.new.self written line)
    (ap (λ (cell : Cell). map cell_text (take i cells) ++ cell_text cell ∷ []) (c.lend_cell.ensures ∙ c.cell-item.is) ∙ sym (map_more cell_text cells i c.cell-item.result (omega arith)))
    (c.in_ok-push.ensures written (map cell_text (take i cells)) (c.loop-cell.invariant written h))

pub returns : goal.returns
returns c = λ written h.
    let cells : List Cell = c.as_slice-cell-items.result.now in
    let all : map cell_text (take c.loop-cell.cell-index cells) ≡ map cell_text c.args.row.now =
    ap (map cell_text) (take_all c.loop-cell.cell-index cells (omega arith) ∙ c.as_slice-cell-items.ensures) in
    c.end_row.ensures written (map cell_text c.args.row.now) (subst (λ (line : List (List ℕ)). HasWritten c.loop-cell.text written line) all (c.loop-cell.invariant written h))
