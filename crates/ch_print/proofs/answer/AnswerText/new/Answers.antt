use Rattle.std.proofs.Common.{◌≡◌, ◌∙◌, arith, ℕ, List, [], take, subst}
use Rattle.std.proofs.lemmas.List.{take_all}
use Rattle.ch_print.specs.Written.{HasWritten}
use Rattle.ch_print.proofs.answer.AnswerText.new.Goals as goal

pub returns : goal.returns
returns c =
    let names : List (List ℕ) = c.as_slice-name-items.result.now in
    let all : take c.loop-name.name-index names ≡ c.args.header.now = take_all c.loop-name.name-index names (omega arith) ∙ c.as_slice-name-items.ensures in
    c.in_ok-end_row.ensures [] c.args.header.now (subst (λ (line : List (List ℕ)). HasWritten c.loop-name.text [] line) all c.loop-name.invariant)
