use Rattle.std.proofs.Common.{◌≡◌, ◌∙◌, ap, ℕ, [], ◌∷◌, ◌++◌, false, map, Vec, Global}
use Rattle.std.specs.Prelude.{bytes_eq}
use Rattle.std.specs.List.{list_any}
use Rattle.ch_bind.proofs.Naming.{map-added}
use Rattle.ch_bind.proofs.names.Names.add.Goals as goal

pub returns : goal.returns
returns c =
    let absent : list_any (bytes_eq c.args.name.now) (map (λ (v : Vec ℕ Global). v.items) c.self.inside.names.keys) ≡ false = rw c.self.view_is c.requires.other in
    map-added (λ (v : Vec ℕ Global). v.items) c.args.name.now c.self.inside.names.keys c.insert.new.self.keys c.in_ok-own.own c.in_ok-own.ensures.items c.in_ok-insert.ensures.keys absent
    ∙ ap (λ ts. ts ++ c.args.name.now ∷ []) c.self.view_is
