use Rattle.std.proofs.Common.{◌≡◌, ℕ, ◌+◌, ◌<◌, ◌^◌, List, length, map, ap, sym, ◌∙◌, subst, refl, arith}
use Rattle.std.specs.Prelude.{slice_index, slice_index_or, sum_by}
use Rattle.std.proofs.lemmas.List.{length-map}
use Rattle.ch_stands.specs.Team.{sizes_of}
use Rattle.ch_engine.proofs.Starting.{started, at_rows}
use Rattle.ch_engine.proofs.beginning.begin.Goals as goal

pub new_team-requires-clause-small : goal.new_team-requires-clause-small
new_team-requires-clause-small c =
    let e : c.as_slice.result.now ≡ sizes_of c.args.parts = c.as_slice.ensures ∙ c.in_ok-rows.ensures in
    let n : length (sizes_of c.args.parts) ≡ length c.args.parts = length-map c.args.parts (λ p. length p.tuples) in
    subst (λ (l : List ℕ). (w : ℕ) → w < length l → slice_index l w + 1 < 2 ^ 32) (sym e) (λ w lt. c.requires.sizes w (omega (arith, n, lt)))

pub returns-clause-stands : goal.returns-clause-stands
returns-clause-stands c g parts kind window switch folded =
    let f = c.in_ok-workers.ensures.each in
    let fold = c.in_ok-fold.ensures in
    started g _ c.in_ok-rows.rows parts kind switch folded c.in_ok-rows.ensures refl refl (c.in_ok-workers.ensures.many ∙ ap (λ (l : List ℕ). length l) c.as_slice.ensures)
    (at_rows c.in_ok-workers.workers.items c.as_slice.result.now c.in_ok-rows.rows c.args.window g.config.window c.as_slice.ensures window f)
    c.in_ok-master.ensures c.new-3.ensures c.new-4.ensures c.new-5.ensures (fold c.args.ranks.now)
    (ap (λ (k : ℕ). record { rows = k; sends = 0; pruned = 0; forwarded = 0; steps = 0 }) (c.total-rows.ensures ∙ ap (λ (l : List ℕ). sum_by (λ n. n) l) c.as_slice-2.ensures))
    c.in_ok-arriving.ensures.capacity
