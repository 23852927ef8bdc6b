use Rattle.std.proofs.Common.{◌≡◌, ◌<◌, ℕ, ◌+◌, List, ◌∷◌, true, length, take, drop, arith, ◌∙◌, ap, ap₂, sym, subst}
use Rattle.std.specs.List.{list_all}
use Rattle.std.proofs.lemmas.List.{take_all, drop_all}
use Rattle.std.proofs.lemmas.Bool.Decides.{nat_tests}
use Rattle.ch_lines.specs.Lines.{lines_of, is_inner}
use Rattle.ch_lines.proofs.Rest.{take-rest}
use Rattle.ch_lines.proofs.LineLemmas.{lines_of-feed, lines_of-some}
use Rattle.ch_lines.proofs.line.next_line.Goals as goal

pub returns-then-len-text-clause-line : goal.returns-then-len-text-clause-line
returns-then-len-text-clause-line c =
    let text : List ℕ = c.args.text.now in
    let n : ℕ = c.line_len-len.result in
    ap lines_of (c.line_len-len.ensures.ended c.if-len-text.true)
    ∙ lines_of-feed (take n text) (drop (n + 1) text) c.line_len-len.ensures.inner
    ∙ ap₂ (λ (first rest : List ℕ). first ∷ lines_of rest) (sym c.trim_cr.ensures) (sym (take-rest text (n + 1)))

pub returns-else-len-text-clause-line : goal.returns-else-len-text-clause-line
returns-else-len-text-clause-line c =
    let text : List ℕ = c.args.text.now in
    let n : ℕ = c.line_len-len.result in
    let some : 0 < length text = grind (arith, nat_tests) in
    let all : list_all is_inner text ≡ true = subst (λ (xs : List ℕ). list_all is_inner xs ≡ true) (take_all n text c.if-len-text.false) c.line_len-len.ensures.inner in
    lines_of-some text some all
    ∙ ap (λ (rest : List ℕ). text ∷ lines_of rest) (sym (take-rest text n ∙ drop_all n text c.if-len-text.false))
