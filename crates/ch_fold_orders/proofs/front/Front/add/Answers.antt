use Rattle.std.proofs.Common.{◌≡◌, not, ℤ, Vec, Global, filter, map, ap, sym, ◌∙◌, rules}
use Rattle.std.specs.List.{list_any}
use Rattle.std.proofs.lemmas.Fn.{filter_same}
use Rattle.ch_keys.specs.Keys.{items_of}
use Rattle.ch_fold_orders.specs.Front as spec
use Rattle.ch_fold_orders.proofs.Beaten.{vectors_more}
use Rattle.ch_fold_orders.proofs.front.Front.add.Goals as goal

pub returns-clause-ok : goal.returns-clause-ok
returns-clause-ok c =
    let over = spec.is_over c.args.axes.now in
    let words = c.args.words.now in
    let old = c.self.inside.rows.items in
    let seen : map items_of old ≡ c.args.self.now = cc in
    let kept : c.retain.new.self.items ≡ filter (λ (v : Vec ℤ Global). not (over words v.items)) old =
    filter_same _ (λ (v : Vec ℤ Global). not (over words v.items)) _ (λ v b f' k. search rules) _ _ c.retain.ensures.filtered ∙ ap (filter (λ (v : Vec ℤ Global). not (over words v.items))) c.in_ok-reserve.ensures.items in
    vectors_more over words old c.retain.new.self.items c.push_reserved.new.self.items c.in_ok-row.row (ap (list_any (λ s. over s words)) seen ∙ (sym c.beats.ensures ∙ c.if-beats.false)) kept c.push_reserved.ensures.items c.in_ok-row.ensures.items
    ∙ ap (λ front. spec.with_point over front words) seen
