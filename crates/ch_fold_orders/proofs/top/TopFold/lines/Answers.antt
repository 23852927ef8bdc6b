use Rattle.std.proofs.Common.{◌∙◌, ap, map, drop, refl, List, ℤ, Bor}
use Rattle.ch_fold_orders.proofs.TopLaws.{top_answer}
use Rattle.ch_fold_orders.proofs.top.TopFold.lines.Goals as goal

pub returns : goal.returns
returns c = λ texts b rows names s.
    top_answer texts b rows c.args.self.now s names (map (λ (r : Bor (List ℤ)). r.now) c.in_ok-lines.lines.items) _ refl
    (c.in_ok-lines.ensures ∙ ap (map (drop 1)) (ap (map (λ (r : Bor (List ℤ)). r.now)) c.as_slice.ensures.value ∙ c.in_ok-rows.ensures))
