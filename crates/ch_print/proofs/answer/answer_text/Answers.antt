use Rattle.std.proofs.Common.{◌≡◌, ◌∙◌, ◌++◌, ap, arith, ℕ, List, [], map, take, subst}
use Rattle.std.specs.Prelude.{flat_map}
use Rattle.std.proofs.lemmas.List.{take_all}
use Rattle.csv.specs.Writing.{default_writer, row_text}
use Rattle.ch_cells.specs.declared.cell.Cell.{Cell}
use Rattle.ch_print.specs.AnswerText.{cell_text, text_of}
use Rattle.ch_print.specs.Written.{HasWritten}
use Rattle.ch_print.proofs.Rows.{one_more}
use Rattle.ch_print.proofs.answer.answer_text.Goals as goal

pub loop-row-preserved : goal.loop-row-preserved
loop-row-preserved c =
    let rows : List (List Cell) = c.as_slice-row-items.result.now in
    let line : List Cell → List ℕ = λ row. row_text default_writer (map cell_text row) in
    let front : List ℕ = row_text default_writer c.args.answer.now.header in
    subst (λ (bytes : List ℕ). HasWritten c.push_row.new.text bytes [])
    (one_more line front rows c.loop-row.row-index c.row-item.result (omega arith) c.row-item.is)
    (c.in_ok-push_row.ensures (front ++ flat_map line (take c.loop-row.row-index rows)) c.loop-row.invariant)

pub returns : goal.returns
returns c =
    let rows : List (List Cell) = c.as_slice-row-items.result.now in
    let all : take c.loop-row.row-index rows ≡ c.args.answer.now.rows = take_all c.loop-row.row-index rows (omega arith) ∙ c.as_slice-row-items.ensures in
    let front : List ℕ = row_text default_writer c.args.answer.now.header in
    let line : List Cell → List ℕ = λ row. row_text default_writer (map cell_text row) in
    c.into_text.ensures (text_of c.args.answer.now) []
    (subst (λ (bytes : List ℕ). HasWritten c.loop-row.text bytes []) (ap (λ (xs : List (List Cell)). front ++ flat_map line xs) all) c.loop-row.invariant)
