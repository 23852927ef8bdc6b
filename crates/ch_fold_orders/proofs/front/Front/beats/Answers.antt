use Rattle.std.proofs.Common.{◌≡◌, true, false, ℤ, Vec, Global, map, ap, sym, ◌∙◌}
use Rattle.std.specs.List.{list_any}
use Rattle.std.proofs.lemmas.List.Folds.{list_any_at}
use Rattle.ch_keys.specs.Keys.{items_of}
use Rattle.ch_fold_orders.specs.Front as spec
use Rattle.ch_fold_orders.proofs.Beaten.{any_items, drop_all}
use Rattle.ch_fold_orders.proofs.front.Front.beats.Goals as goal

pub returns-then-is_over : goal.returns-then-is_over
returns-then-is_over c =
    let axes = c.args.axes.now in
    let words = c.args.words.now in
    let p = λ (v : Vec ℤ Global). spec.is_over axes v.items words in
    let items = c.deref-row-items.result.now in
    let seen : map items_of c.self.inside.rows.items ≡ c.args.self.now = cc in
    let here : p c.row-item.result ≡ true = ap (λ ws. spec.is_over axes ws words) (sym c.as_slice.ensures.value) ∙ (sym c.is_over.ensures ∙ c.if-is_over.true) in
    let found : list_any p items ≡ true = list_any_at p items c.loop-row.row-index c.row-item.result c.loop-row-test.true (ap p (sym c.row-item.is) ∙ here) in
    sym (ap (list_any (λ s. spec.is_over axes s words)) (sym seen) ∙ (any_items (λ s. spec.is_over axes s words) c.self.inside.rows.items ∙ (ap (list_any p) (sym c.deref-row-items.ensures.value) ∙ found)))

pub returns : goal.returns
returns c =
    let axes = c.args.axes.now in
    let words = c.args.words.now in
    let p = λ (v : Vec ℤ Global). spec.is_over axes v.items words in
    let items = c.deref-row-items.result.now in
    let seen : map items_of c.self.inside.rows.items ≡ c.args.self.now = cc in
    let none : list_any p items ≡ false = sym c.loop-row.invariant ∙ ap (list_any p) (drop_all c.loop-row.row-index items c.loop-row-test.false) in
    sym (ap (list_any (λ s. spec.is_over axes s words)) (sym seen) ∙ (any_items (λ s. spec.is_over axes s words) c.self.inside.rows.items ∙ (ap (list_any p) (sym c.deref-row-items.ensures.value) ∙ none)))
