use Rattle.std.proofs.Common.{◌≡◌, ◌∙◌, ◌++◌, ◌∷◌, ap, arith, ℕ, ℤ, pos, List, [], map, take, get_or, subst, sym, w64, to_z, of_z}
use Rattle.std.specs.Prelude.{slice_index_or}
use Rattle.std.proofs.lemmas.Int.{ints}
use Rattle.std.proofs.lemmas.List.{map_push, take_all}
use Rattle.ch_cells.specs.declared.Cell.{Cell}
use Rattle.ch_cells.specs.declared.Kind.{Kind}
use Rattle.ch_cells.specs.declared.Kind.TheVariants as kind
use Rattle.ch_print.specs.AnswerText.{cell_text}
use Rattle.ch_print.specs.Written.{HasWritten}
use Rattle.ch_fold_lines.specs.Shown.{shown_cell, shown_line}
use Rattle.ch_fold_lines.proofs.Lines.{shown_more}
use Rattle.ch_fold_lines.proofs.texts.push_line.Goals as goal

pub loop-i-preserved : goal.loop-i-preserved
loop-i-preserved c = λ bytes h.
    let texts = c.args.ranks.now in
    let ks : List Kind = c.args.kinds.now in
    let ws : List ℤ = c.args.words.now in
    let i = c.loop-i.i in
    let before : List Cell = shown_line texts ks (take i ws) in
    let cell : Cell = shown_cell texts (slice_index_or ks i kind.Number) (get_or ws i (pos 0)) in
    let word : to_z w64 (of_z w64 (get_or ws i (pos 0))) ≡ get_or ws i (pos 0) = omega (arith, ints) in
    subst (λ (line : List (List ℕ)). HasWritten c.push.new.self bytes line)
    (ap (λ (x : Cell). map cell_text before ++ cell_text x ∷ []) (c.shown_cell.ensures ∙ ap (shown_cell texts c.kind_at.result) word ∙ ap (λ k. shown_cell texts k (get_or ws i (pos 0))) c.kind_at.ensures)
    ∙ (sym (map_push cell_text before cell) ∙ ap (map cell_text) (sym (shown_more texts ks ws i (omega arith)))))
    (c.in_ok-push.ensures bytes (map cell_text before) (c.loop-i.invariant bytes h))

pub returns : goal.returns
returns c = λ bytes h.
    let texts = c.args.ranks.now in
    let ws : List ℤ = c.args.words.now in
    let all : take c.loop-i.i ws ≡ ws = take_all c.loop-i.i ws (omega arith) in
    c.end_row.ensures bytes (map cell_text (shown_line texts c.args.kinds.now ws))
    (subst (λ (vs : List ℤ). HasWritten c.loop-i.text bytes (map cell_text (shown_line texts c.args.kinds.now vs))) all (c.loop-i.invariant bytes h))
