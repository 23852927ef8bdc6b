use Rattle.std.proofs.Common.{◌≡◌, ℕ, ◌∙◌, ap}
use Rattle.rand_pcg.specs.Lcg.{Lcg}
use Rattle.ch_generated.specs.Draws.{after, drawn}
use Rattle.ch_generated.specs.TableText.{t_row}
use Rattle.ch_generated.specs.declared.table_text.TableRow.{TableRow}
use Rattle.ch_generated.proofs.DrawLemmas.{after_after}
use Rattle.ch_generated.proofs.table_text.t_row.Goals as goal

-- three draws are a row
row_is : (g g1 g2 : Lcg) (k v b : ℕ) → k ≡ drawn 1000 g → g1 ≡ after 1 g → v ≡ drawn 1000000 g1 → g2 ≡ after 1 g1 → b ≡ drawn 1000000 g2
    → (let r : TableRow = record { k = k; v = v; b = b } in r) ≡ t_row g
unfolding t_row
row_is g g1 g2 k v b ek e1 ev e2 eb =
    let second : v ≡ drawn 1000000 (after 1 g) = ev ∙ ap (λ (h : Lcg). drawn 1000000 h) e1 in
    let at_third : g2 ≡ after 2 g = e2 ∙ ap (λ (h : Lcg). after 1 h) e1 ∙ after_after 1 1 g in
    let third : b ≡ drawn 1000000 (after 2 g) = eb ∙ ap (λ (h : Lcg). drawn 1000000 h) at_third in
    cc

after_three : (g g1 g2 g3 : Lcg) → g1 ≡ after 1 g → g2 ≡ after 1 g1 → g3 ≡ after 1 g2 → g3 ≡ after 3 g
after_three g g1 g2 g3 e1 e2 e3 = e3 ∙ ap (λ (h : Lcg). after 1 h) (e2 ∙ ap (λ (h : Lcg). after 1 h) e1 ∙ after_after 1 1 g) ∙ after_after 2 1 g

pub returns-clause-row : goal.returns-clause-row
returns-clause-row c = row_is c.args.generator.now c.draw-k.new.generator c.draw-v.new.generator _ _ _ c.draw-k.ensures.number c.draw-k.ensures.after c.draw-v.ensures.number c.draw-v.ensures.after c.draw-b.ensures.number

pub returns-clause-after : goal.returns-clause-after
returns-clause-after c = after_three c.args.generator.now c.draw-k.new.generator c.draw-v.new.generator _ c.draw-k.ensures.after c.draw-v.ensures.after c.draw-b.ensures.after
