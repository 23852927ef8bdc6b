use Rattle.std.proofs.Common.{◌≡◌, ◌∙◌, ◌++◌, ap, sym, ℕ, ℤ, List, [], map, subst}
use Rattle.std.specs.Prelude.{flat_map}
use Rattle.std.proofs.lemmas.List.Folds.{flat_map-map}
use Rattle.csv.specs.Writing.{default_writer, row_text}
use Rattle.ch_cells.specs.declared.Cell.{Cell}
use Rattle.ch_cells.specs.declared.Kind.{Kind}
use Rattle.ch_print.specs.AnswerText.{cell_text}
use Rattle.ch_print.specs.Written.{HasWritten}
use Rattle.ch_fold_lines.specs.AnswerLines.{line_text, lines_in}
use Rattle.ch_fold_lines.specs.Shown.{printed_kinds, shown_line}
use Rattle.ch_fold_lines.proofs.texts.text_of_lines.Goals as goal

pub returns : goal.returns
returns c =
    let texts = c.args.ranks.now in
    let lines : List (List ℤ) = lines_in c.args.lines.now in
    let kinds : List Kind = printed_kinds c.args.query.now in
    let front : List ℕ = row_text default_writer c.args.query.now.header in
    let same : c.as_slice.result.now ≡ kinds = c.as_slice.ensures ∙ c.in_ok-kinds.ensures in
    c.into_text.ensures (front ++ flat_map (λ (row : List Cell). row_text default_writer (map cell_text row)) (map (shown_line texts kinds) lines)) []
    (subst (λ (bytes : List ℕ). HasWritten c.push_all.new.text bytes [])
    (ap (λ (ks : List Kind). front ++ flat_map (line_text texts ks) lines) same ∙ ap (λ (rows : List ℕ). front ++ rows) (sym (flat_map-map (λ (row : List Cell). row_text default_writer (map cell_text row)) (shown_line texts kinds) lines)))
    (c.in_ok-push_all.ensures front c.in_ok-text.ensures))
