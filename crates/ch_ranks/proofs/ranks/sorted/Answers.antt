use Rattle.std.proofs.Common.{◌∙◌, ℕ, Vec, Global, arith, sym}
use Rattle.std.specs.Prelude.{bytes_eq}
use Rattle.ch_lists.proofs.Bags.{any_same, SameBag-permutation}
use Rattle.ch_ranks.proofs.Sorts.{ascends_from, sorted_texts, among-map}
use Rattle.ch_ranks.proofs.ranks.sorted.Goals as goal

pub invariant_of-result : goal.invariant_of-result
invariant_of-result c = (
  ascends_from (λ (v : Vec ℕ Global). v.items) c.sort.new.self.keys c.in_ok-sort.ensures.sorted c.sort.ensures.unique,
  omega (arith, c.sort.ensures.reordered.1, c.requires),
)

pub returns-clause-sorted : goal.returns-clause-sorted
returns-clause-sorted c = sorted_texts (λ (v : Vec ℕ Global). v.items) c.args.texts.keys c.sort.new.self.keys c.sort.ensures.reordered.0 c.in_ok-sort.ensures.sorted

pub returns-clause-ascends : goal.returns-clause-ascends
returns-clause-ascends c = ascends_from (λ (v : Vec ℕ Global). v.items) c.sort.new.self.keys c.in_ok-sort.ensures.sorted c.sort.ensures.unique

pub returns-clause-same : goal.returns-clause-same
returns-clause-same c text = among-map (λ (v : Vec ℕ Global). v.items) text c.sort.new.self.keys
    ∙ (sym (any_same (λ (v : Vec ℕ Global). bytes_eq text v.items) c.args.texts.keys c.sort.new.self.keys (SameBag-permutation c.args.texts.keys c.sort.new.self.keys c.sort.ensures.reordered.0)) ∙ sym (among-map (λ (v : Vec ℕ Global). v.items) text c.args.texts.keys))
