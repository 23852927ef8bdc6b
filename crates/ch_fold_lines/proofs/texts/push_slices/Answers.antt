use Rattle.std.proofs.Common.{◌≡◌, ◌++◌, arith, ℕ, ℤ, List, [], take, map, subst, Bor}
use Rattle.std.specs.Prelude.{flat_map}
use Rattle.std.proofs.lemmas.List.{take_all}
use Rattle.ch_print.specs.Written.{HasWritten}
use Rattle.ch_fold_lines.specs.AnswerLines.{line_text}
use Rattle.ch_fold_lines.proofs.TextLaws.{one_more_of}
use Rattle.ch_fold_lines.proofs.texts.push_slices.Goals as goal

pub loop-line-preserved : goal.loop-line-preserved
loop-line-preserved c = λ bytes h.
    let line : List ℤ → List ℕ = line_text c.args.ranks.now c.args.kinds.now in
    let now : Bor (List ℤ) → List ℤ = λ (r : Bor (List ℤ)). r.now in
    let lines : List (Bor (List ℤ)) = c.args.lines.now in
    let at = c.loop-line.line-index in
    let front : List ℕ = bytes ++ flat_map line (map now (take at lines)) in
    subst (λ (text : List ℕ). HasWritten c.push_line.new.text text [])
    (one_more_of line now bytes lines at _ (omega arith))
    (c.in_ok-push_line.ensures front (c.loop-line.invariant bytes h))

pub returns : goal.returns
returns c = λ bytes h.
    let lines : List (Bor (List ℤ)) = c.args.lines.now in
    let now : Bor (List ℤ) → List ℤ = λ (r : Bor (List ℤ)). r.now in
    let all : take c.loop-line.line-index lines ≡ lines = take_all c.loop-line.line-index lines (omega arith) in
    subst (λ (ls : List (Bor (List ℤ))). HasWritten c.loop-line.text (bytes ++ flat_map (line_text c.args.ranks.now c.args.kinds.now) (map now ls)) []) all (c.loop-line.invariant bytes h)
