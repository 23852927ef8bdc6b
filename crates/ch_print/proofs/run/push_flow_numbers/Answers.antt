use Rattle.std.proofs.Common.{◌≡◌, ◌++◌, ℕ, List, append_assoc, codes, ◌∙◌, ap}
use Rattle.ch_cells.specs.declared.outcome.OpenFlow.{OpenFlow}
use Rattle.ch_print.specs.RunTexts.{named}
use Rattle.ch_print.proofs.run.push_flow_numbers.Goals as goal

four : (old n1 n2 n3 n4 a b c d : List ℕ) → n1 ≡ old ++ a → n2 ≡ n1 ++ b → n3 ≡ n2 ++ c → n4 ≡ n3 ++ d → n4 ≡ old ++ (a ++ (b ++ (c ++ d)))
four old n1 n2 n3 n4 a b c d e1 e2 e3 e4 = e4 ∙ ap (λ (t : List ℕ). t ++ d) (e3 ∙ ap (λ (t : List ℕ). t ++ c) (e2 ∙ ap (λ (t : List ℕ). t ++ b) e1)) ∙ simp append_assoc

pub returns : goal.returns
returns c =
    let f : OpenFlow = c.args.flow.now in
    let old : List ℕ = c.args.text.now.items in
    four old c.push_named.new.text.items c.push_named-2.new.text.items c.push_named-3.new.text.items _ (named (codes "pass ") f.pass) (named (codes " worker ") f.worker)
    (named (codes " acknowledged ") f.acknowledged) (named (codes " of ") f.of)
    (c.in_ok-push_named.ensures ∙ ap (λ (n : ℕ). old ++ named (codes "pass ") n) c.from.ensures)
    (c.in_ok-push_named-2.ensures ∙ ap (λ (n : ℕ). c.push_named.new.text.items ++ named (codes " worker ") n) c.from-2.ensures)
    (c.in_ok-push_named-3.ensures ∙ ap (λ (n : ℕ). c.push_named-2.new.text.items ++ named (codes " acknowledged ") n) c.from-3.ensures)
    (c.in_ok-push_named-4.ensures ∙ ap (λ (n : ℕ). c.push_named-3.new.text.items ++ named (codes " of ") n) c.from-4.ensures)
