use Rattle.std.proofs.Common.{◌++◌, ◌-◌, ℕ, List, append_assoc, ◌∙◌, ap, length, take, drop, get_or}
use Rattle.std.specs.Fmt.{decimal}
use Rattle.ch_print.specs.RunTexts.{behind_commas}
use Rattle.ch_print.proofs.Commas.{parted}
use Rattle.ch_print.proofs.run.push_numbers.Goals as goal

pub returns-in_ok-push_others-in-len1-up : goal.returns-in_ok-push_others-in-len1-up
returns-in_ok-push_others-in-len1-up c =
    let numbers : List ℕ = c.args.numbers.now in
    let rest : List ℕ = behind_commas (take (length numbers - 1) (drop 1 numbers)) in
    c.in_ok-push_others-in-len1-up.ensures ∙ ap (λ (t : List ℕ). t ++ rest) (c.in_ok-push_number-in-len1-up.ensures ∙ ap (λ (n : ℕ). c.args.text.now.items ++ decimal n) c.from.ensures)
    ∙ append_assoc c.args.text.now.items (decimal (get_or numbers 0 0)) rest ∙ ap (λ (t : List ℕ). c.args.text.now.items ++ t) (parted numbers c.in-len1-up.len_at_least)
