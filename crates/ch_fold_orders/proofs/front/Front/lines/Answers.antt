use Rattle.std.proofs.Common.{◌≡◌, List, ℤ, Vec, Global, map, length, ap, sym, ◌∙◌}
use Rattle.ch_lists.proofs.Carried.{map-map}
use Rattle.ch_flat.specs.Flat.{pick}
use Rattle.ch_keys.specs.Keys.{items_of}
use Rattle.ch_fold_orders.proofs.FirstLaws.{take_all}
use Rattle.ch_fold_orders.proofs.front.Front.lines.Goals as goal

pub returns : goal.returns
returns c =
    let places = c.args.places.now in
    let items = c.deref-row-items.result.now in
    let seen : map items_of c.self.inside.rows.items ≡ c.args.self.now = cc in
    let all : map (λ (v : Vec ℤ Global). pick v.items places) items ≡ map (λ (ws : List ℤ). pick ws places) c.args.self.now =
    sym (map-map items_of (λ (ws : List ℤ). pick ws places) items) ∙ ap (map (λ (ws : List ℤ). pick ws places)) (ap (map items_of) c.deref-row-items.ensures.value ∙ seen) in
    c.loop-row.invariant ∙ (λ i. record { width = length places; rows = (ap (map (λ (v : Vec ℤ Global). pick v.items places)) (take_all c.loop-row.row-index items c.loop-row-test.false) ∙ all) i })
