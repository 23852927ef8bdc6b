use Rattle.std.proofs.Common.{◌≡◌, ℕ, Vec, Global, false, Some, slice_get, ◌∙◌, sym}
use Rattle.std.specs.Prelude.{bytes_eq}
use Rattle.std.specs.List.{list_any}
use Rattle.ch_ranks.specs.Dictionary.{Ascends}
use Rattle.ch_ranks.proofs.Sorts.{among-map, found_at}
use Rattle.ch_ranks.proofs.Ranked.{rank_from, no_rank}
use Rattle.ch_ranks.proofs.ranks.Ranks.rank.Goals as goal

pub returns-in-Some : goal.returns-in-Some
returns-in-Some c =
    let ascends : Ascends c.args.self.now = rw (← c.self.view_is) c.self.invariant.0 in
    let there : slice_get c.args.self.now c.in-Some.at ≡ Some c.args.text.now =
    rw (← c.self.view_is) (found_at (λ (v : Vec ℕ Global). v.items) c.args.text.now c.self.inside.texts.keys c.in-Some.at (sym c.in-Some.ensures.index)) in
    sym (rank_from c.args.self.now ascends c.args.text.now c.in-Some.at there)

pub returns-in-None : goal.returns-in-None
returns-in-None c =
    let none : list_any (bytes_eq c.args.text.now) c.args.self.now ≡ false =
    rw (← c.self.view_is) (among-map (λ (v : Vec ℕ Global). v.items) c.args.text.now c.self.inside.texts.keys ∙ sym c.in-None.ensures.found) in
    sym (no_rank c.args.self.now c.args.text.now none)
