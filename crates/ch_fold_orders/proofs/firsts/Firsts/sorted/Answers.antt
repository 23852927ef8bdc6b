use Rattle.std.proofs.Common.{◌≡◌, map, ap, ◌∙◌, List, ℤ, Bor}
use Rattle.std.specs.BinaryHeap.{heap_items}
use Rattle.std.specs.Ordering.{int_cmp}
use Rattle.std.specs.Cmp.Lexicographic.{slice_cmp}
use Rattle.ch_lists.specs.Ordered.{ordered}
use Rattle.ch_flat.proofs.Sorts.{sorted_by}
use Rattle.ch_keys.specs.Keys.{items_of}
use Rattle.ch_fold_orders.specs.Firsts.{Bounded}
use Rattle.ch_fold_orders.proofs.FirstLaws.{rows_exact, take_all}
use Rattle.ch_fold_orders.proofs.firsts.Firsts.sorted.Goals as goal

pub returns : goal.returns
returns c =
    let heap = heap_items c.self.inside.heap in
    let seen : record { limit = c.self.inside.limit; rows = map items_of heap } ≡ c.args.self.now = cc in
    let all : map (λ (r : Bor (List ℤ)). r.now) c.loop-row.rows.items ≡ c.args.self.now.rows =
    c.loop-row.invariant ∙ (ap (map items_of) (take_all c.loop-row.row-index c.as_slice-row-items.result.now c.loop-row-test.false ∙ c.as_slice-row-items.ensures.value) ∙ ap (λ (f : Bounded). f.rows) seen) in
    sorted_by (slice_cmp int_cmp) rows_exact (λ (r : Bor (List ℤ)). r.now) c.loop-row.rows.items c.sort_unstable.new.self.items c.sort_unstable.ensures.permutation c.sort_unstable.ensures.sorted
    ∙ ap (ordered (slice_cmp int_cmp)) all
