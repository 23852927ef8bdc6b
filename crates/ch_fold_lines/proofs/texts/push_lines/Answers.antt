use Rattle.std.proofs.Common.{◌≡◌, ◌∙◌, ◌++◌, ap, arith, ℕ, ℤ, List, [], take, subst}
use Rattle.std.specs.Prelude.{flat_map}
use Rattle.std.proofs.lemmas.List.{take_all}
use Rattle.ch_print.specs.Written.{HasWritten}
use Rattle.ch_fold_lines.specs.AnswerLines.{line_text}
use Rattle.ch_fold_lines.proofs.TextLaws.{one_more}
use Rattle.ch_fold_lines.proofs.texts.push_lines.Goals as goal

pub loop-at-preserved : goal.loop-at-preserved
loop-at-preserved c = λ bytes h.
    let line : List ℤ → List ℕ = line_text c.args.ranks.now c.args.kinds.now in
    let lines : List (List ℤ) = c.args.lines.now in
    let at = c.loop-at.at in
    let front : List ℕ = bytes ++ flat_map line (take at lines) in
    subst (λ (text : List ℕ). HasWritten c.push_line.new.text text [])
    (ap (λ (ws : List ℤ). front ++ line ws) c.row.ensures ∙ one_more line bytes lines at [] (omega (arith, c.len-at-end.ensures)))
    (c.in_ok-push_line.ensures front (c.loop-at.invariant bytes h))

pub returns : goal.returns
returns c = λ bytes h.
    let lines : List (List ℤ) = c.args.lines.now in
    let all : take c.loop-at.at lines ≡ lines = take_all c.loop-at.at lines (omega (arith, c.len-at-end.ensures)) in
    subst (λ (ls : List (List ℤ)). HasWritten c.loop-at.text (bytes ++ flat_map (line_text c.args.ranks.now c.args.kinds.now) ls) []) all (c.loop-at.invariant bytes h)
