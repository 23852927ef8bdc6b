use Rattle.std.proofs.Common.{◌≡◌, ◌∙◌, ap, sym, ℕ, map, ◌+◌, Some, None, Vec, Global, arith}
use Rattle.std.specs.Prelude.{bytes_eq, option_map}
use Rattle.ch_bind.specs.First.{first}
use Rattle.ch_bind.proofs.Searches.{first_from-position}
use Rattle.ch_bind.proofs.names.Names.place.Goals as goal

pub returns-in-Some-clause-place : goal.returns-in-Some-clause-place
returns-in-Some-clause-place c =
    let there : first (bytes_eq c.args.name.now) (map (λ (v : Vec ℕ Global). v.items) c.self.inside.names.keys) ≡ option_map (λ i. 0 + i) (Some c.in-Some.at) =
    first_from-position (λ (v : Vec ℕ Global). v.items) c.args.name.now 0 c.self.inside.names.keys ∙ ap (option_map (λ i. 0 + i)) (sym c.in-Some.ensures.index) in
    sym (rw (← c.self.view_is) (there ∙ ap Some (omega arith)))

pub returns-in-None-clause-place : goal.returns-in-None-clause-place
returns-in-None-clause-place c =
    let there : first (bytes_eq c.args.name.now) (map (λ (v : Vec ℕ Global). v.items) c.self.inside.names.keys) ≡ option_map (λ i. 0 + i) None =
    first_from-position (λ (v : Vec ℕ Global). v.items) c.args.name.now 0 c.self.inside.names.keys ∙ ap (option_map (λ i. 0 + i)) (sym c.in-None.ensures.index) in
    sym (rw (← c.self.view_is) there)
